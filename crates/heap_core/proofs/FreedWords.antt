-- Words of free pages that change past the calls of a core.
use Rattle.std.proofs.Common.{◌≡◌, ℕ, ◌+◌, ◌<◌, ◌⊎◌, List, length, get_or, Some, None, sym, ap, ◌∙◌, subst, ⊎_elim, arith}
use Rattle.words.specs.Bits.{Has}
use Rattle.words.specs.Layout.{page_of}
use Rattle.heap_spec.specs.Heap.{Heap, Object}
use Rattle.heap_spec.specs.Runs.{Start, Run}
use Rattle.pages.specs.Memory.{IsWordAddress, word_index, word_at}
use Rattle.block_map.specs.declared.found.Found.{Found}
use Rattle.block_map.specs.States.{free}
use Rattle.block_map.specs.FoundIn.{found_in}
use Rattle.block_map.proofs.Finding.{found_as}
use Rattle.marker.specs.Marking.{word_address}
use Rattle.marker.specs.Invariant.{DirtyPageInvariant, CarriedPageInvariant, IsAwaited, IsSettled, IsTargetMarked}
use Rattle.object_space.proofs.Freed.{listed_used}
use Rattle.object_space.proofs.Kept.{kept_cases}
use Rattle.object_space.specs.Store.{IsWholeSpace}
use Rattle.heap_view.proofs.Shows.{is_word}
use Rattle.heap_view.specs.Shows.{IsShown}
use Rattle.heap_core.specs.CoreContents.{CoreContents}
use Rattle.heap_core.specs.DirectWrites.{IsWholeCore}
use Rattle.heap_core.specs.Following.{Follows}
use Rattle.heap_core.specs.FreedWords.{with_words, FreedWordsKeepCores, FreedWordsKeepHeaps, FreedWordsKeepRuns}
use Rattle.heap_core.specs.Standing.{StandsFor, keeps}

no_found : (f : Found) → None ≡ Some f → ⊥
no_found f e = cc

module _ (c : CoreContents) (words : List ℕ) (whole : IsWholeCore c) (each : (a : ℕ) → IsWordAddress c.store.words a → (word_at words a ≡ word_at c.store.words a) ⊎ Has c.store.free (page_of a)) where
  -- no object has a word of a free page
  unfound : (a : ℕ) → IsWordAddress c.store.words a → Has c.store.free (page_of a) → found_in c.store.states a ≡ None
  unfound a at has =
      let above = at.above in
      found_as c.store.states (page_of a) a free (record { from = omega (arith, above); below = omega (arith, above) }) (whole.core.sound.agree.free_in_map (page_of a) has)

  -- so the words of objects are as they were
  same_at : (a : ℕ) (f : Found) → IsWordAddress c.store.words a → found_in c.store.states a ≡ Some f → word_at words a ≡ word_at c.store.words a
  same_at a f at is = ⊎_elim (λ same. same) (λ has. absurd (no_found f (sym (unfound a at has) ∙ is))) (each a at)

  same_word : (f : Found) (i : ℕ) → found_in c.store.states f.base ≡ Some f → i < f.len → word_at words (word_address f i) ≡ word_at c.store.words (word_address f i)
  same_word f i there lt =
      let found = whole.core.lawful.map.whole f.base (word_address f i) f there (record { from = omega arith; below = omega (arith, lt) }) in
      same_at (word_address f i) f
      (is_word (found_in c.store.states) (length c.store.states) whole.core.lawful.map c.store.words whole.space.whole.listed.size (word_address f i) f found (let even = (whole.core.lawful.map.placed f.base f there).aligned in omega (arith, even)))
      found

  shown : (f : Found) (o : Object) → found_in c.store.states f.base ≡ Some f → IsShown c.store.words f o → IsShown words f o
  shown f o there x = record {
    kind = x.kind;
    size = x.size;
    word = λ i lt.
        let above = (whole.core.lawful.map.placed f.base f there).above in
        let at : word_index f.base + i ≡ word_index (word_address f i) = omega (arith, above) in
        x.word i lt ∙ ap (λ k. get_or c.store.words k 0) at ∙ sym (same_word f i there lt) ∙ ap (λ k. get_or words k 0) (sym at);
  }

  stands : (s : Heap) → StandsFor c s → StandsFor (with_words c words) s
  stands s h = record {
    mutators = h.mutators;
    globals = h.globals;
    request_words = h.request_words;
    store = record {
      pages = h.store.pages;
      shows = record {
        shown = record {
          kept = λ f is. let x = h.store.shows.shown.kept f is in (x.0, x.1, shown f x.0 (kept_cases (keeps c) (found_in c.store.states) f.base f is).0 x.2);
          only = h.store.shows.shown.only;
        };
        born = h.store.shows.born;
        distinct = h.store.shows.distinct;
      };
    };
    links = h.links;
  }

  follows : (start : Start) (run : Run) → Follows c start run → Follows (with_words c words) start run
  follows start run f = record {
    stands = stands _ f.stands;
    phase = f.phase;
    count = f.count;
    small = f.small;
    needs = f.needs;
    past = f.past;
    aged = f.aged;
    kept = f.kept;
    touched = f.touched;
  }

  space : length words ≡ length c.store.words → IsWholeSpace (record c.store { words = words }) whole.space.ready whole.space.waiting
  space size =
      let w = whole.space.whole in record {
        sound = record { agree = w.sound.agree; used = w.sound.used };
        listed = listed_used c.store.words words c.store.states whole.core.laid size (λ a at used. ⊎_elim (λ same. same) (λ has. absurd (used (whole.core.sound.agree.free_in_map (page_of a) has))) (each a at)) w.listed;
        exact = w.exact;
        awaited = w.awaited;
        pending = record { size = w.pending.size; cut = w.pending.cut };
      }

  invariant : DirtyPageInvariant (found_in c.store.states) c.store.words c.cycle.marker → DirtyPageInvariant (found_in c.store.states) words c.cycle.marker
  invariant old f there normal marked i lt =
      subst (λ w. IsTargetMarked (found_in c.store.states) c.cycle.marker w ⊎ IsAwaited c.cycle.marker f i) (sym (same_word f i there lt)) (old f there normal marked i lt)

  carried : CarriedPageInvariant (found_in c.store.states) c.store.words c.cycle.marker → CarriedPageInvariant (found_in c.store.states) words c.cycle.marker
  carried old f there normal marked i lt =
      subst (λ w. IsSettled (found_in c.store.states) c.cycle.marker (word_address f i) w ⊎ IsAwaited c.cycle.marker f i) (sym (same_word f i there lt)) (old f there normal marked i lt)

  keeps_core : length words ≡ length c.store.words → IsWholeCore (with_words c words)
  keeps_core size = record {
    sound = let s = whole.sound in (s.0, stands s.0 s.1, s.2);
    core = record {
      sound = record { agree = whole.core.sound.agree; used = whole.core.sound.used };
      pending = record { size = whole.core.pending.size; cut = whole.core.pending.cut };
      empty = whole.core.empty;
      lawful = whole.core.lawful;
      laid = whole.core.laid;
      traced = record {
        pages = whole.core.traced.pages;
        objects = whole.core.traced.objects;
        swept = whole.core.traced.swept;
        invariant = λ is. invariant (whole.core.traced.invariant is);
        carried = λ is. carried (whole.core.traced.carried is);
      };
    };
    space = record { ready = whole.space.ready; waiting = whole.space.waiting; whole = space size };
    marker = whole.marker;
  }

pub freed_keep_cores : FreedWordsKeepCores
freed_keep_cores old new whole freed = subst (λ (n : CoreContents). IsWholeCore n) (sym freed.alone) (keeps_core old new.store.words whole freed.words freed.size)

pub freed_keep_heaps : FreedWordsKeepHeaps
freed_keep_heaps old new whole freed s h = subst (λ (n : CoreContents). StandsFor n s) (sym freed.alone) (stands old new.store.words whole freed.words s h)

pub freed_keep_runs : FreedWordsKeepRuns
freed_keep_runs old new whole freed start run f = subst (λ (n : CoreContents). Follows n start run) (sym freed.alone) (follows old new.store.words whole freed.words start run f)
