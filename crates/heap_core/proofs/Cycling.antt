-- The calls of the collector, over the core as a whole.
use Rattle.std.proofs.Common.{◌≡◌, ℕ, ◌+◌, ◌*◌, ◌≤◌, ◌%◌, true, false, List, [], length, Contains, ⊎_elim, inl, inr, refl, sym, ap, ◌∙◌, subst, arith}
use Rattle.std.specs.Prelude.{count_by}
use Rattle.std.proofs.lemmas.Bool.{false≢true}
use Rattle.words.specs.declared.limits.TheConstants.{PAGE_WORDS}
use Rattle.pages.specs.Reads.{CountedReads}
use Rattle.block_map.specs.FoundIn.{found_in}
use Rattle.block_map.specs.Objects.{IsMap}
use Rattle.heap_spec.specs.Heap.{Heap}
use Rattle.heap_spec.specs.Layout.{word_end}
use Rattle.marker.specs.Closure.{AreClosed}
use Rattle.marker.specs.Marking.{Marking, AreMarksObjects, IsBlank, IsDone}
use Rattle.marker.specs.Growth.{Traces}
use Rattle.marker.specs.Mutations.{BeginsPartial}
use Rattle.marker.specs.Work.{dirty_pages, newly_pages, entry_words}
use Rattle.heap_view.specs.Shows.{IsMarkedBirth}
use Rattle.roots.specs.Roots.{root_words_of}
use Rattle.object_space.specs.Store.{Store, IsSwept}
use Rattle.links.specs.declared.row.Link.{Link}
use Rattle.std.specs.Prelude.{filter}
use Rattle.object_space.specs.Along.{TakesAlong, stays}
use Rattle.heap_core.proofs.Along.{beside_is}
use Rattle.heap_core.specs.CoreContents.{CoreContents, Cycle}
use Rattle.heap_core.specs.Standing.{StandsFor}
use Rattle.object_space.specs.Sweeps.{ForgetsUnreached, Sweeps, SweepsAny, KeepsCells}
use Rattle.object_space.specs.Kept.{restrict, is_kept, kept_in, IsPendingAfter}
use Rattle.object_space.proofs.Kept.{kept_same, nothing_pending}
use Rattle.object_space.proofs.Allocations.{shows_same}
use Rattle.heap_core.proofs.Calls.{swept_stands}
use Rattle.heap_core.specs.Collections.{BeginsCycle, BeginsPartialCycle, MarksOn, ClosesMarks, EndsCycle, CollectsAll, SweepsOne}
use Rattle.heap_core.proofs.Covering.{reads_kept}
use Rattle.heap_core.proofs.Collecting.{grows_within, all_marked, ends, collects, has_stray, reached_alone}

none_in : (w : ℕ) → Contains [] w → ⊥
none_in w h = let l = h.1 in omega arith

-- Where nothing is to be swept, the marks may change: the core stands for what it stood for.
pub stands_still : (c : CoreContents) (y : Cycle) → IsSwept c.store → (s : Heap) → StandsFor c s → StandsFor (record c { cycle = y }) s
stands_still c y swept s h = record {
  mutators = h.mutators;
  globals = h.globals;
  request_words = h.request_words;
  links = h.links;
  store = record {
    pages = h.store.pages;
    shows = shows_same (restrict (is_kept c.store.pending c.cycle.marker.marks) (found_in c.store.states)) (restrict (is_kept c.store.pending y.marker.marks) (found_in c.store.states)) c.store.words s.objects s.births
        (kept_same (is_kept c.store.pending c.cycle.marker.marks) (is_kept c.store.pending y.marker.marks) (found_in c.store.states)
        (λ w f there. nothing_pending c.store.pending y.marker.marks f (swept f.page) ∙ sym (nothing_pending c.store.pending c.cycle.marker.marks f (swept f.page)))) h.store.shows;
  };
}

pub begins : (c : CoreContents) (t : Store) (m : Marking) → Sweeps c.store c.cycle.marker.marks t → IsSwept t → IsBlank (length c.store.states) m
    → BeginsCycle c (record { roots = c.roots; store = t; cycle = record { marker = m; is_marking = true; needs_full = false; count = c.cycle.count; reads = c.cycle.reads }; links = c.links })
begins c t m sweeps swept blank = record {
  needs_full = refl;
  stands = λ s h. stands_still (record c { store = t }) _ swept s (swept_stands c.roots c.store t c.cycle sweeps s h);
  roots = refl;
  phase = refl;
  count = refl;
  reads = refl;
  blank = blank;
  swept = swept;
}

pub begins_partial : (c : CoreContents) (t : Store) (m : Marking) → Sweeps c.store c.cycle.marker.marks t → IsSwept t → c.cycle.needs_full ≡ false → BeginsPartial c.cycle.marker m
    → BeginsPartialCycle c (record { roots = c.roots; store = t; cycle = record { marker = m; is_marking = true; needs_full = c.cycle.needs_full; count = c.cycle.count; reads = c.cycle.reads }; links = c.links })
begins_partial c t m sweeps swept needs begins = record {
  stands = λ s h. stands_still (record c { store = t }) _ swept s (swept_stands c.roots c.store t c.cycle sweeps s h);
  roots = refl;
  phase = refl;
  count = refl;
  reads = refl;
  needs_full = needs;
  marking = begins;
  swept = swept;
}

pub sweeps_one : (c : CoreContents) (t : Store) (n : ℕ) → Sweeps c.store c.cycle.marker.marks t → n ≤ 1
    → (n ≡ 1 → SweepsAny c.store c.cycle.marker.marks t) → count_by (λ b. b) t.pending + n ≡ count_by (λ b. b) c.store.pending → (n ≡ 0 → IsSwept c.store × (t ≡ c.store))
    → SweepsOne c n (record { roots = c.roots; store = t; cycle = c.cycle; links = c.links })
sweeps_one c t n sweeps few page fewer none = record {
  stands = λ s h. swept_stands c.roots c.store t c.cycle sweeps s h;
  roots = refl;
  cycle = refl;
  few = few;
  page = page;
  fewer = fewer;
  only = sweeps.fewer;
  none = λ zero. let x = none zero in (x.0, ap (λ (x : Store). record c { store = x }) x.1);
}

pub marks_on : (c : CoreContents) (roots : List ℕ) (m : Marking) → IsMap (length c.store.states) (found_in c.store.states) → IsSwept c.store → ((w : ℕ) → Contains roots w → Contains (root_words_of c.roots) w)
    → Traces (found_in c.store.states) c.store.words roots c.cycle.marker m → MarksOn roots c (record c { cycle = record c.cycle { marker = m } })
marks_on c roots m map swept among traces = record {
  stands = λ s h. stands_still c _ swept s h;
  phase = refl;
  count = refl;
  alone = refl;
  within = λ s h base o has marked. grows_within c map swept s h roots m among traces base o has marked;
  traces = traces;
}

pub marks_more : (c : CoreContents) (m : Marking) → IsMap (length c.store.states) (found_in c.store.states) → IsSwept c.store → Traces (found_in c.store.states) c.store.words [] c.cycle.marker m → MarksOn [] c (record c { cycle = record c.cycle { marker = m } })
marks_more c m map swept traces = marks_on c [] m map swept (λ w h. absurd (none_in w h)) traces

pub closes_marks : (c : CoreContents) (m : Marking) → IsMap (length c.store.states) (found_in c.store.states) → IsSwept c.store → Traces (found_in c.store.states) c.store.words (root_words_of c.roots) c.cycle.marker m → IsDone m
    → AreClosed (found_in c.store.states) c.store.words (root_words_of c.roots) c.cycle.marker m → ClosesMarks c (record c { cycle = record c.cycle { marker = m } })
closes_marks c m map swept traces done closed = record {
  marks = marks_on c (root_words_of c.roots) m map swept (λ w h. h) traces;
  done = done;
  all = λ s h. all_marked c map swept s h m closed;
}

pub ends_cycle : (c : CoreContents) (t1 t' : Store) (m : Marking) (count : ℕ) (reads : CountedReads) (n : ℕ) (ls' : List Link) → IsMap (length c.store.states) (found_in c.store.states) → IsSwept c.store → ForgetsUnreached c.store (root_words_of c.roots) c.cycle.marker n m.marks t1 → KeepsCells c.store t1 → IsPendingAfter t1.states m.marks t1.pending → IsDone m
    → length c.cycle.marker.dirty ≡ length c.store.states → Traces (found_in c.store.states) c.store.words (root_words_of c.roots) c.cycle.marker m
    → count ≡ (c.cycle.count + 1) % word_end → IsMap (length t1.states) (found_in t1.states) → TakesAlong (kept_in t1.states t1.pending m.marks) c.links t1 t' → ls' ≡ filter (stays (kept_in t1.states t1.pending m.marks)) c.links
    → reads.last ≤ PAGE_WORDS * (dirty_pages c.cycle.marker + newly_pages (found_in c.store.states) c.cycle.marker m) + entry_words (found_in c.store.states) c.cycle.marker → reads.all ≡ c.cycle.reads.all + reads.last
    → EndsCycle c n (record { roots = c.roots; store = t'; cycle = record { marker = m; is_marking = false; needs_full = c.cycle.needs_full; count = count; reads = reads }; links = ls' })
ends_cycle c t1 t' m count reads n ls' map swept x cells pending done pages traces counts map' along same few all =
    subst (λ z. EndsCycle c n (record { roots = c.roots; store = z; cycle = record { marker = m; is_marking = false; needs_full = c.cycle.needs_full; count = count; reads = reads }; links = ls' })) (sym (beside_is t1 t' along.beside))
    (subst (λ row. EndsCycle c n (record { roots = c.roots; store = record t1 { words = t'.words }; cycle = record { marker = m; is_marking = false; needs_full = c.cycle.needs_full; count = count; reads = reads }; links = row })) (sym same)
    (record {
      needs_full = refl;
      ends = record { roots = refl; phase = refl; count = counts; done = done; marked = x.marked; all_reads = all };
      forgets = λ s h. ends c map swept s h t1 t'.words _ n x map' along.words;
      cells = record { less = cells.less; small = cells.small };
      pending = pending;
      carried = traces.carried;
      strays = λ s h p has. ⊎_elim (λ old. inl old) (λ o. inr (has_stray c map swept s h (IsMarkedBirth s c.cycle.marker) (λ base inside. inside) pages p o)) (traces.strays p has);
      reads = few;
    }))

-- a collection sweeps, and drops the marks, first
pub collects_all : (c : CoreContents) (t : Store) (dropped : Marking) (t1 t' : Store) (m : Marking) (count : ℕ) (reads : CountedReads) (n : ℕ) (ls' : List Link) → IsMap (length t.states) (found_in t.states) → Sweeps c.store c.cycle.marker.marks t → IsSwept t → IsBlank (length t.states) dropped
    → ForgetsUnreached t (root_words_of c.roots) dropped n m.marks t1 → IsSwept t1 → IsDone m
    → Traces (found_in t.states) t.words (root_words_of c.roots) dropped m → count ≡ (c.cycle.count + 1) % word_end
    → IsMap (length t1.states) (found_in t1.states) → TakesAlong (kept_in t1.states t1.pending m.marks) c.links t1 t' → ls' ≡ filter (stays (kept_in t1.states t1.pending m.marks)) c.links → AreMarksObjects (found_in t1.states) m
    → reads.last ≤ PAGE_WORDS * (dirty_pages dropped + newly_pages (found_in t.states) dropped m) + entry_words (found_in t.states) dropped → reads.all ≡ c.cycle.reads.all + reads.last
    → CollectsAll c n (record { roots = c.roots; store = t'; cycle = record { marker = m; is_marking = false; needs_full = false; count = count; reads = reads }; links = ls' })
collects_all c t dropped t1 t' m count reads n ls' map sweeps swept blank x swept' done traces counts map' along same objects few all =
    subst (λ z. CollectsAll c n (record { roots = c.roots; store = z; cycle = record { marker = m; is_marking = false; needs_full = false; count = count; reads = reads }; links = ls' })) (sym (beside_is t1 t' along.beside))
    (subst (λ row. CollectsAll c n (record { roots = c.roots; store = record t1 { words = t'.words }; cycle = record { marker = m; is_marking = false; needs_full = false; count = count; reads = reads }; links = row })) (sym same)
    (record {
      needs_full = refl;
      ends = record { roots = refl; phase = refl; count = counts; done = done; marked = x.marked; all_reads = all };
      swept = swept';
      collects = λ s h. collects begun map swept s (stands s h) t1 t'.words _ n x map' along.words blank;
      strays = λ s h p has. ⊎_elim
          (λ old. absurd (false≢true (sym (blank.carried.clear p) ∙ old)))
          (λ o. has_stray begun map swept s (stands s h) (λ _. ⊥) (reached_alone begun map swept s (stands s h) blank) blank.dirty.size p o)
          (traces.strays p has);
      reads = reads_kept t t1 (root_words_of c.roots) dropped m (length t.states) n reads.last map map' blank x swept' objects traces.marks_len few;
    }))
  where
    begun : CoreContents
    begun = record { roots = c.roots; store = t; cycle = record c.cycle { marker = dropped }; links = c.links }

    stands : (s : Heap) → StandsFor c s → StandsFor begun s
    stands s h = stands_still (record c { store = t }) _ swept s (swept_stands c.roots c.store t c.cycle sweeps s h)
