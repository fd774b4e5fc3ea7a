-- What the collector's view of the objects is to the heap: its closure is the heap's, and what it forgets is what goes.
use Rattle.std.proofs.Common.{Bool, ◌≡◌, ℕ, List, length, Contains, Some, refl, sym, ap, ◌∙◌, subst, flat_map, ◌++◌, arith}
use Rattle.std.specs.Prelude.{◌↔◌}
use Rattle.std.proofs.lemmas.Bool.{false≢true}
use Rattle.std.proofs.lemmas.List.Elements.{All-contains, All-contains_itself, All-weaker}
use Rattle.words.specs.Layout.{granule}
use Rattle.heap_spec.specs.declared.reply.Reply.TheVariants.{Count}
use Rattle.heap_spec.specs.Heap.{Heap, Object, HasObject, root_words, words_of_slot}
use Rattle.heap_spec.specs.Closure as heap
use Rattle.heap_spec.specs.Closure.{Reached}
use Rattle.heap_spec.specs.Cycles.{TakesOut, CollectsFully}
use Rattle.heap_spec.specs.Heap.{without, without_at}
use Rattle.links.specs.declared.row.Link.{Link}
use Rattle.std.specs.Prelude.{filter, slice_index, cond}
use Rattle.object_space.specs.Along.{stays, clears}
use Rattle.heap_core.proofs.Along.{PointsIntoOne, reads_one, shows_along, named_along}
use Rattle.heap_spec.proofs.Closures.{closure_mono, reached_in}
use Rattle.block_map.specs.declared.found.Found.{Found}
use Rattle.block_map.specs.FoundIn.{found_in}
use Rattle.block_map.specs.Objects.{IsMap}
use Rattle.marker.specs.Marking.{Marking, IsMarked, IsBlank}
use Rattle.marker.specs.Closure.{Closure, AreClosed}
use Rattle.marker.specs.Growth.{Traces, IsStrayPage}
use Rattle.marker.proofs.Closures.{closure_more}
use Rattle.heap_view.specs.Shows.{Shows, ShowsHeap, IsMarkedBirth}
use Rattle.heap_view.proofs.Closures.{marks_agree}
use Rattle.heap_view.proofs.Shows.{reads_nothing, word_shown}
use Rattle.roots.specs.Roots.{root_words_of}
use Rattle.object_space.specs.Store.{Store, IsSwept}
use Rattle.heap_core.specs.CoreContents.{CoreContents, Cycle}
use Rattle.heap_core.specs.Standing.{StandsFor, keeps}
use Rattle.heap_core.specs.Strays.{IsStray, HasStray}
use Rattle.object_space.specs.Kept.{restrict, kept_in, is_kept}
use Rattle.object_space.proofs.Kept.{kept_all, kept_map, nothing_pending}
use Rattle.object_space.proofs.Allocations.{shows_same}
use Rattle.object_space.proofs.Words.{shows_kept}
use Rattle.object_space.specs.Sweeps.{ForgetsUnreached}
use Rattle.heap_core.specs.Collections.{ForgetsOutside}
use Rattle.object_space.proofs.Sweeping.{shows_without}

module _ (c : CoreContents) (map : IsMap (length c.store.states) (found_in c.store.states)) (swept : IsSwept c.store) (s : Heap) (h : StandsFor c s) where
  -- where nothing is to be swept, the objects of the map are the heap's
  pub all_shown : ShowsHeap (found_in c.store.states) c.store.words s
  all_shown = shows_same (restrict (keeps c) (found_in c.store.states)) (found_in c.store.states) c.store.words s.objects s.births
      (record { same = λ w. sym ((kept_all (keeps c) (found_in c.store.states) (λ w f there. nothing_pending c.store.pending c.cycle.marker.marks f (swept f.page))).same w) }) h.store.shows

  -- the heap's root words are the core's
  pub roots_are : root_words s ≡ root_words_of c.roots
  roots_are = ap (λ ms. flat_map words_of_slot ms ++ s.globals) h.mutators ∙ ap (λ gs. flat_map words_of_slot c.roots.mutators ++ gs) h.globals

  -- an object of the heap is one that the collector finds
  pub found_at : (base : ℕ) (o : Object) → HasObject s base o → (f : Found) × (found_in c.store.states base ≡ Some f) × (f.base ≡ base)
  found_at base o has = all_shown.shown.only base o has

  -- the collector's closure of the marks is the heap's
  pub closures : (f : Found) → found_in c.store.states f.base ≡ Some f → Closure (found_in c.store.states) c.store.words (root_words_of c.roots) (IsMarked c.cycle.marker) f ↔ heap.Closure s (IsMarkedBirth s c.cycle.marker) f.base
  closures f there = subst (λ rs. Closure (found_in c.store.states) c.store.words rs (IsMarked c.cycle.marker) f ↔ heap.Closure s (IsMarkedBirth s c.cycle.marker) f.base) roots_are
      (marks_agree (length c.store.states) s (found_in c.store.states) c.store.words c.cycle.marker map all_shown.shown all_shown.distinct f there)

  -- marks that grow by the marker's closure grow within the heap's
  pub grows_within : (roots : List ℕ) (m : Marking) → ((w : ℕ) → Contains roots w → Contains (root_words_of c.roots) w) → Traces (found_in c.store.states) c.store.words roots c.cycle.marker m
      → (base : ℕ) (o : Object) → HasObject s base o → IsMarked m base → heap.Closure s (IsMarkedBirth s c.cycle.marker) base
  grows_within roots m among traces base o has marked =
      let f = found_at base o has in
      let there = ap (found_in c.store.states) f.2 ∙ f.1 in
      let inner = traces.within f.0 there (subst (IsMarked m) (sym f.2) marked) in
      let outer = closure_more (found_in c.store.states) c.store.words roots (root_words_of c.roots) (IsMarked c.cycle.marker) (IsMarked c.cycle.marker) among (λ g e k. Closure.held e k) inner in
      subst (heap.Closure s (IsMarkedBirth s c.cycle.marker)) f.2 ((closures f.0 there).0 outer)

  -- marks that are the marker's closure hold the heap's
  pub all_marked : (m : Marking) → AreClosed (found_in c.store.states) c.store.words (root_words_of c.roots) c.cycle.marker m
      → (base : ℕ) (o : Object) → HasObject s base o → heap.Closure s (IsMarkedBirth s c.cycle.marker) base → IsMarked m base
  all_marked m closed base o has inside =
      let f = found_at base o has in
      let there = ap (found_in c.store.states) f.2 ∙ f.1 in
      subst (IsMarked m) f.2 ((closed f.0 there).1 ((closures f.0 there).1 (subst (heap.Closure s (IsMarkedBirth s c.cycle.marker)) (sym f.2) inside)))

  -- a page of stray words to the collector is one to the heap
  pub has_stray : (births : ℕ → Type 0) → ((base : ℕ) → heap.Closure s (IsMarkedBirth s c.cycle.marker) base → heap.Closure s births base)
      → length c.cycle.marker.dirty ≡ length c.store.states → (p : ℕ) → IsStrayPage (found_in c.store.states) c.store.words (root_words_of c.roots) c.cycle.marker p → HasStray s births p
  has_stray births among pages p x =
      let f = x.object in
      let o = all_shown.shown.kept f x.is in
      let size = o.2.size in let inside = x.inside in let below = x.stray.below in
      let whole : s.pages ≡ length c.cycle.marker.dirty = h.store.pages ∙ sym pages in
      record {
        base = f.base;
        object = o.0;
        has = o.1;
        normal = o.2.kind ∙ x.normal;
        reached = among f.base ((closures f x.is).0 x.reached);
        index = x.index;
        inside = omega arith;
        on = x.on;
        stray = subst (IsStray s) (sym (word_shown (found_in c.store.states) (length c.store.states) map c.store.words f o.0 x.is o.2 x.index x.inside)) (record {
          from = x.stray.from;
          below = omega arith;
          nothing = λ b q r. reads_nothing (found_in c.store.states) (length c.store.states) map c.store.words s.objects all_shown.shown _ x.stray.nothing b q r.0 r.1;
        });
      }

  -- where nothing was marked, the closure is what is reached
  pub reached_alone : IsBlank (length c.store.states) c.cycle.marker → (base : ℕ) → heap.Closure s (IsMarkedBirth s c.cycle.marker) base → Reached s base
  reached_alone blank base inside = closure_mono s (IsMarkedBirth s c.cycle.marker) (λ _. ⊥) (λ b m. false≢true (sym (blank.marks.clear (granule m.base)) ∙ m.marked)) inside

  -- what is forgotten was an object, outside of the closure
  forgotten : (t' : Store) (n : ℕ) (marks : List Bool) (x : ForgetsUnreached c.store (root_words_of c.roots) c.cycle.marker n marks t') (base : ℕ) → Contains x.bases base
      → (o : Object) × HasObject s base o × (heap.Closure s (IsMarkedBirth s c.cycle.marker) base → ⊥)
  forgotten t' n marks x base is =
      let f = All-contains (λ b. (g : Found) × (found_in c.store.states b ≡ Some g) × (g.base ≡ b)) x.bases base x.without.gone is in
      let there : found_in c.store.states f.0.base ≡ Some f.0 = ap (found_in c.store.states) f.2 ∙ f.1 in
      let kept = all_shown.shown.kept f.0 there in
      (kept.0, ap s.objects (sym f.2) ∙ kept.1, λ inside. (x.outside f.0 there).0 (subst (Contains x.bases) (sym f.2) is) ((closures f.0 there).1 (subst (heap.Closure s (IsMarkedBirth s c.cycle.marker)) (sym f.2) inside)))

  -- and goes
  pub takes_out : (t' : Store) (n : ℕ) (marks : List Bool) (x : ForgetsUnreached c.store (root_words_of c.roots) c.cycle.marker n marks t') → TakesOut s x.bases (Count n) (without s x.bases)
  takes_out t' n marks x = record {
    objects = All-weaker (Contains x.bases) (λ b. (o : Object) × HasObject s b o) (λ b is. let o = forgotten t' n marks x b is in (o.0, o.1)) x.bases (All-contains_itself x.bases);
    distinct = x.without.distinct;
    unreached = All-weaker (Contains x.bases) (λ b. Reached s b → ⊥) (λ b is r. let o = forgotten t' n marks x b is in o.2 (reached_in s (IsMarkedBirth s c.cycle.marker) r)) x.bases (All-contains_itself x.bases);
    number = ap Count x.number;
    after = refl;
  }

  pub goes : (t' : Store) (n : ℕ) (marks : List Bool) (x : ForgetsUnreached c.store (root_words_of c.roots) c.cycle.marker n marks t') (base : ℕ) (o : Object) → HasObject s base o
      → (heap.Closure s (IsMarkedBirth s c.cycle.marker) base → ⊥) → Contains x.bases base
  goes t' n marks x base o has outside =
      let f = found_at base o has in
      let there = ap (found_in c.store.states) f.2 ∙ f.1 in
      subst (Contains x.bases) f.2 ((x.outside f.0 there).1 (λ inside. outside (subst (heap.Closure s (IsMarkedBirth s c.cycle.marker)) f.2 ((closures f.0 there).0 inside))))

  -- the core stands for what is left, with the links that have stayed
  module _ (t' : Store) (words : List ℕ) (y : Cycle) (n : ℕ) (x : ForgetsUnreached c.store (root_words_of c.roots) c.cycle.marker n y.marker.marks t') (map' : IsMap (length t'.states) (found_in t'.states))
      (changed : (k : ℕ) → slice_index words k ≡ cond (clears (kept_in t'.states t'.pending y.marker.marks) c.links k) 0 (slice_index t'.words k)) where
    abbrev row' : List Link
    row' = filter (stays (kept_in t'.states t'.pending y.marker.marks)) c.links

    less_shown : Shows (kept_in t'.states t'.pending y.marker.marks) t'.words (without_at s.objects x.bases) s.births
    less_shown = shows_kept (kept_in t'.states t'.pending y.marker.marks) c.store.words t'.words (without_at s.objects x.bases) s.births
        (λ f there. (map.placed f.base f (x.without.left f.base f there).0).above) x.words
        (shows_without (length c.store.states) (found_in c.store.states) (kept_in t'.states t'.pending y.marker.marks) c.store.words s.objects s.births x.bases all_shown x.without)

    kmap : IsMap (length t'.states) (kept_in t'.states t'.pending y.marker.marks)
    kmap = kept_map (length t'.states) (is_kept t'.pending y.marker.marks) (found_in t'.states) map'

    one : PointsIntoOne s
    one = reads_one (found_in c.store.states) (length c.store.states) map c.store.words s all_shown.shown

    pub stands_without : StandsFor (record { roots = c.roots; store = record t' { words = words }; cycle = y; links = row' }) (without s x.bases)
    stands_without = record {
      mutators = h.mutators;
      globals = h.globals;
      request_words = h.request_words;
      store = record {
        pages = h.store.pages ∙ sym x.pages;
        shows = shows_along (kept_in t'.states t'.pending y.marker.marks) (length t'.states) kmap t'.words words s x.bases c.links less_shown h.store.shows.distinct one h.links changed;
      };
      links = named_along (kept_in t'.states t'.pending y.marker.marks) (length t'.states) kmap t'.words words s x.bases c.links less_shown h.store.shows.distinct one h.links;
    }

    pub ends : (s' : Heap) × ForgetsOutside s (IsMarkedBirth s c.cycle.marker) (Count n) s' × StandsFor (record { roots = c.roots; store = record t' { words = words }; cycle = y; links = row' }) s'
    ends = (
      without s x.bases,
      record { bases = x.bases; takes = takes_out t' n y.marker.marks x; outside = λ base is. (forgotten t' n y.marker.marks x base is).2; all = goes t' n y.marker.marks x },
      stands_without,
    )

    -- where nothing was marked, exactly what is not reached goes
    pub collects : IsBlank (length c.store.states) c.cycle.marker → (s' : Heap) × CollectsFully s (Count n) s' × StandsFor (record { roots = c.roots; store = record t' { words = words }; cycle = y; links = row' }) s'
    collects blank = (
      without s x.bases,
      record {
        bases = x.bases;
        takes = takes_out t' n y.marker.marks x;
        all = λ base o has n'. goes t' n y.marker.marks x base o has (λ inside. n' (reached_alone blank base inside));
      },
      stands_without,
    )
