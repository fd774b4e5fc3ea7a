-- The calls that look an address up: which object of the heap it reads.
use Rattle.std.proofs.Common.{List, inl, inr, ⊎_elim, ◌≡◌, ℕ, ◌-◌, ◌*◌, ◌/◌, ◌%◌, ◌<◌, ◌≤◌, length, set, Some, None, refl, sym, ◌∙◌, subst, arith, ap}
use Rattle.heap_spec.specs.declared.call.Call.TheVariants.{Load, Store as StoreCall, Base, Size, Free as FreeCall}
use Rattle.heap_spec.specs.declared.event.Event.TheVariants.{Mutator}
use Rattle.heap_spec.specs.declared.reply.Reply.TheVariants.{Done, Word, Count}
use Rattle.heap_spec.specs.Heap.{Heap, Object, Mutator as HeapMutator, PointsIntoObject, PointsIntoNothing}
use Rattle.heap_spec.specs.Replies.{IsStep}
use Rattle.heap_spec.specs.Steps.{Acts, Calls, address, register, with_register, with_object}
use Rattle.words.specs.declared.limits.TheConstants.{FIRST_ADDRESS, PAGE_GRANULES, PAGE_WORDS}
use Rattle.words.specs.Bits.{Has}
use Rattle.words.specs.Layout.{granule, page_of}
use Rattle.pages.specs.Memory.{IsWordAddress, word_index, word_at, with_word_at}
use Rattle.block_map.specs.FoundIn.{found_in, IsLawful}
use Rattle.block_map.specs.declared.found.Found.{Found}
use Rattle.links.specs.declared.row.Link.{Link}
use Rattle.roots.specs.Roots.{RootSet, HasMutator, SetsWord}
use Rattle.object_space.specs.Store.{Store}
use Rattle.marker.specs.Marking.{IsConsistent}
use Rattle.marker.proofs.MarkWord.{markable}
use Rattle.heap_core.specs.CoreContents.{CoreContents, Cycle, IsCore}
use Rattle.heap_core.specs.MutatorCalls.{IsCall, MakesDirty, StoresAt}
use Rattle.heap_core.specs.Beside.{NotesWrite}
use Rattle.std.specs.Prelude.{Bool, IfSome, IfNone, Option}
use Rattle.object_space.specs.Kept.{restrict, is_kept}
use Rattle.heap_view.specs.Shows.{Shows, IsShown}
use Rattle.object_space.specs.Stores.{Stores}
use Rattle.heap_core.specs.KeptAt.{IsKeptAt, KeepsNothingAt}
use Rattle.heap_core.specs.Standing.{StandsFor, keeps, objects_of}
use Rattle.object_space.proofs.Kept.{kept_map}
use Rattle.heap_view.proofs.Shows.{reads_object, reads_nothing, word_read, is_word}
use Rattle.object_space.proofs.Changes.{shows_stored}
use Rattle.links.proofs.Named.{named_kept}
use Rattle.heap_core.proofs.Along.{stored_same}
use Rattle.heap_core.proofs.Forgotten.{forgotten_same}
use Rattle.heap_core.proofs.Roots.{core_of, attached, stands_set, quiet, not_done, none_some, frees_event}

-- an address that finds a kept object reads it in the heap
pub finds : (keep : Found → Bool) (t : Store) (s : Heap) (w : ℕ) (f : Found) → IsLawful t.states → Stores keep t s → restrict keep (found_in t.states) w ≡ Some f → (o : Object) × PointsIntoObject s w f.base o × IsShown t.words f o
finds keep t s w f lawful stores is =
    let read = reads_object (restrict keep (found_in t.states)) (length t.states) (kept_map (length t.states) keep (found_in t.states) lawful.map) t.words s.objects stores.shows.shown w f is in
    (read.0, (read.1, read.3), read.2)

-- what the core's look-up finds is kept at that word
pub kept_if_found : (c : CoreContents) (w : ℕ) (r : Option Found) → IsLawful c.store.states → r ≡ objects_of c w → IfSome r (λ f. IsKeptAt c w f)
kept_if_found c w None lawful is = tt
kept_if_found c w (Some f) lawful is = λ s h.
    let found = finds (keeps c) c.store s w f lawful h.store (sym is) in
    record { object = found.0; reads = found.1; size = found.2.size; kind = found.2.kind }

-- the base of a kept object has a mark
pub markable_at : (c : CoreContents) (base : ℕ) (f : Found) → IsCore c → IsConsistent c.cycle.marker → objects_of c base ≡ Some f → f.base ≡ base → (FIRST_ADDRESS ≤ base) × (granule base < length c.cycle.marker.marks)
markable_at c base f core consistent is begins =
    let size : length c.cycle.marker.marks ≡ PAGE_GRANULES * length c.store.states = consistent.marks ∙ ap (λ n. PAGE_GRANULES * n) core.traced.pages in
    let map = kept_map (length c.store.states) (keeps c) (found_in c.store.states) core.lawful.map in
    subst (λ b. (FIRST_ADDRESS ≤ b) × (granule b < length c.cycle.marker.marks)) begins (markable (length c.store.states) (objects_of c) base f c.cycle.marker.marks map is size)

-- an address that finds nothing reads nothing in the heap
pub finds_nothing : (keep : Found → Bool) (t : Store) (s : Heap) (w : ℕ) → IsLawful t.states → Stores keep t s → restrict keep (found_in t.states) w ≡ None → PointsIntoNothing s w
finds_nothing keep t s w lawful stores none base o r =
    reads_nothing (restrict keep (found_in t.states)) (length t.states) (kept_map (length t.states) keep (found_in t.states) lawful.map) t.words s.objects stores.shows.shown w none base o r.0 r.1

-- what the core's look-up doesn't find isn't there
pub nothing_if_none : (c : CoreContents) (w : ℕ) (r : Option Found) → IsLawful c.store.states → r ≡ objects_of c w → IfNone r (KeepsNothingAt c w)
nothing_if_none c w None lawful is = λ s h. finds_nothing (keeps c) c.store s w lawful h.store (sym is)
nothing_if_none c w (Some f) lawful is = tt

pub loads : (roots roots' : RootSet) (t : Store) (y : Cycle) {ls : List Link} (slot d a n w : ℕ) (m : HeapMutator) (f : Found) → IsLawful t.states → HasMutator roots slot m → address m a n % 8 ≡ 0 → restrict (is_kept t.pending y.marker.marks) (found_in t.states) (address m a n) ≡ Some f
    → w ≡ word_at t.words (address m a n) → SetsWord roots slot d w roots' → IsCall (core_of roots t y ls) (Mutator slot (Load d a n)) (Word w) (core_of roots' t y ls)
loads roots roots' t y {ls = ls} slot d a n w m f lawful at aligned is read sets = quiet (core_of roots t y ls) roots' (Mutator slot (Load d a n)) (Word w) (λ h. h) (λ s h.
    let found = finds (is_kept t.pending y.marker.marks) t s (address m a n) f lawful h.store is in
    let word = word_read (restrict (is_kept t.pending y.marker.marks) (found_in t.states)) (length t.states) (kept_map (length t.states) (is_kept t.pending y.marker.marks) (found_in t.states) lawful.map) t.words s.objects h.store.shows.shown (address m a n) f found.0 is found.2 aligned ∙ sym read in (
      with_register s slot m d w,
      Calls.acts (attached roots t y s slot m h at) (subst (λ v. Acts s slot m (Load d a n) (Word v) (with_register s slot m d v)) word (Acts.loaded aligned found.1)),
      stands_set roots roots' t t y y s (with_register s slot m d w) slot d w m h at sets refl refl refl (record { pages = h.store.pages; shows = h.store.shows }) h.links,
    ))

stores_step : (roots : RootSet) (t t' : Store) (y y' : Cycle) {ls : List Link} (slot a n r : ℕ) (m : HeapMutator) (f : Found) → IsLawful t.states → length t.words ≡ PAGE_WORDS * length t.states → HasMutator roots slot m → address m a n % 8 ≡ 0 → restrict (is_kept t.pending y.marker.marks) (found_in t.states) (address m a n) ≡ Some f
    → t' ≡ record t { words = with_word_at t.words (address m a n) (register m r) } → y'.marker.marks ≡ y.marker.marks → IsStep (StandsFor (core_of roots t y ls)) (Mutator slot (StoreCall a n r)) Done (StandsFor (core_of roots t' y' ls))
stores_step roots t t' y y' {ls = ls} slot a n r m f lawful long at aligned is writes marks_same s h =
    let found = finds (is_kept t.pending y.marker.marks) t s (address m a n) f lawful h.store is in
    let here = is_word (restrict (is_kept t.pending y.marker.marks) (found_in t.states)) (length t.states) (kept_map (length t.states) (is_kept t.pending y.marker.marks) (found_in t.states) lawful.map) t.words long (address m a n) f is aligned in
    let after : Heap = with_object s f.base (Some (record found.0 { words = set found.0.words ((address m a n - f.base) / 8) (register m r) })) in (
      after,
      Calls.acts (attached roots t y s slot m h at) (Acts.stored aligned found.1),
      subst (λ (x : Store). StandsFor (core_of roots x y' ls) after) (sym writes)
          (record {
            mutators = h.mutators;
            globals = h.globals;
            request_words = h.request_words;
            links = named_kept s.objects after.objects (stored_same s f.base found.0 ((address m a n - f.base) / 8) (register m r) found.1.0) h.links;
            store = record {
              pages = h.store.pages;
              shows = subst (λ ms. Shows (restrict (is_kept t.pending ms) (found_in t.states)) (with_word_at t.words (address m a n) (register m r)) after.objects after.births) (sym marks_same) (shows_stored (restrict (is_kept t.pending y.marker.marks) (found_in t.states)) (length t.states) (kept_map (length t.states) (is_kept t.pending y.marker.marks) (found_in t.states) lawful.map) t.words s.objects s.births h.store.shows (address m a n) (register m r) f found.0 is found.1.0 found.2 aligned (in_row here));
            };
          }),
    )
  where
    in_row : IsWordAddress t.words (address m a n) → word_index (address m a n) < length t.words
    in_row here = let above = here.above in let below = here.below in let even = here.aligned in omega arith

pub stores : (roots : RootSet) (t t' : Store) (y y' : Cycle) {ls : List Link} (slot a n r : ℕ) (m : HeapMutator) (f : Found) → IsLawful t.states → length t.words ≡ PAGE_WORDS * length t.states → HasMutator roots slot m → address m a n % 8 ≡ 0 → restrict (is_kept t.pending y.marker.marks) (found_in t.states) (address m a n) ≡ Some f
    → t' ≡ record t { words = with_word_at t.words (address m a n) (register m r) }
    → NotesWrite (address m a n) y.marker y'.marker → y'.is_marking ≡ y.is_marking → y'.count ≡ y.count → y'.reads ≡ y.reads → y'.needs_full ≡ y.needs_full → IsCall (core_of roots t y ls) (Mutator slot (StoreCall a n r)) Done (core_of roots t' y' ls)
stores roots t t' y y' {ls = ls} slot a n r m f lawful long at aligned is writes notes phase count reads needs = record {
  steps = stores_step roots t t' y y' slot a n r m f lawful long at aligned is writes notes.marks;
  phase = phase;
  count = count;
  reads = reads;
  freed = λ h. absurd (no_free (frees_event (Mutator slot (StoreCall a n r)) Done h));
  needs_full = λ _. needs;
  idle = λ is g there marked. (sym (same g.base) ∙ there, subst (λ ms. Has ms (granule g.base)) notes.marks marked);
  carried = notes.carried;
  marks = λ g there marked. inl (subst (λ ms. Has ms (granule g.base)) notes.marks marked);
  stays = λ g there marked. subst (λ ms. Has ms (granule g.base)) (sym notes.marks) marked;
  came = λ is g there none. absurd (none_some g (sym none ∙ sym (same g.base) ∙ there));
  dirty = λ p h. ⊎_elim (λ old. inl old) (λ new. inr (MakesDirty.store m at new)) (notes.dirty p h);
  written = wrote;
  stays_dirty = notes.stays_dirty;
  current = notes.current;
  stack = notes.stack;
  fewer = λ p h. subst (λ (x : Store). Has x.pending p) writes h;
  swept = λ p h. inl (subst (λ (x : Store). Has x.pending p) (sym writes) h);
  forgotten = forgotten_same (core_of roots t y ls) (core_of roots t' y' ls) (ap (λ (x : Store). x.states) writes) (ap (λ (x : Store). x.pending) writes) notes.marks;
  full = λ h. absurd (not_done (Mutator slot (StoreCall a n r)) h);
  cuts = λ placement kind is. inr (record { free = ap (λ (x : Store). x.free) writes; pending = ap (λ (x : Store). x.pending) writes });
  stored = λ b w h. wrote_word b w h;
  roots_alone = λ not. absurd (not tt);
}
  where
    mutator_one : {x z : HeapMutator} → Some (Some x) ≡ Some (Some z) → x ≡ z
    mutator_one e = cc

    no_free : ((s q : ℕ) × (Mutator slot (StoreCall a n r) ≡ Mutator s (FreeCall q))) → ⊥
    no_free (s, q, e) = cc

    -- the slot's mutator is the one that stored
    wrote : (p : ℕ) → MakesDirty (core_of roots t y ls) (Mutator slot (StoreCall a n r)) Done p → Has y'.marker.dirty p
    wrote p (MakesDirty.store other here same) = subst (Has y'.marker.dirty) (ap (λ (x : HeapMutator). page_of (address x a n)) (mutator_one (sym at ∙ here)) ∙ sym same) notes.written

    wrote_word : (b w : ℕ) → StoresAt (core_of roots t y ls) (Mutator slot (StoreCall a n r)) Done b w → t' ≡ record t { words = with_word_at t.words b w }
    wrote_word b w (StoresAt.store other here is_at is_word) =
        writes
        ∙ ap (λ (x : HeapMutator). record t { words = with_word_at t.words (address x a n) (register x r) }) (mutator_one (sym at ∙ here))
        ∙ ap (λ (i : ℕ). record t { words = with_word_at t.words i (register other r) }) (sym is_at)
        ∙ ap (λ (v : ℕ). record t { words = with_word_at t.words b v }) (sym is_word)

    same : (b : ℕ) → restrict (is_kept t'.pending y'.marker.marks) (found_in t'.states) b ≡ restrict (is_kept t.pending y.marker.marks) (found_in t.states) b
    same b = ap (λ (x : Store). restrict (is_kept x.pending y'.marker.marks) (found_in x.states) b) writes ∙ ap (λ ms. restrict (is_kept t.pending ms) (found_in t.states) b) notes.marks

pub based : (roots roots' : RootSet) (t : Store) (y : Cycle) {ls : List Link} (slot d a : ℕ) (m : HeapMutator) (f : Found) → IsLawful t.states → HasMutator roots slot m → restrict (is_kept t.pending y.marker.marks) (found_in t.states) (register m a) ≡ Some f
    → SetsWord roots slot d f.base roots' → IsCall (core_of roots t y ls) (Mutator slot (Base d a)) (Word f.base) (core_of roots' t y ls)
based roots roots' t y {ls = ls} slot d a m f lawful at is sets = quiet (core_of roots t y ls) roots' (Mutator slot (Base d a)) (Word f.base) (λ h. h) (λ s h.
    let found = finds (is_kept t.pending y.marker.marks) t s (register m a) f lawful h.store is in (
      with_register s slot m d f.base,
      Calls.acts (attached roots t y s slot m h at) (Acts.based found.1),
      stands_set roots roots' t t y y s (with_register s slot m d f.base) slot d f.base m h at sets refl refl refl (record { pages = h.store.pages; shows = h.store.shows }) h.links,
    ))

pub sized : (roots : RootSet) (t : Store) (y : Cycle) {ls : List Link} (slot r : ℕ) (m : HeapMutator) (f : Found) → IsLawful t.states → HasMutator roots slot m → restrict (is_kept t.pending y.marker.marks) (found_in t.states) (register m r) ≡ Some f
    → IsCall (core_of roots t y ls) (Mutator slot (Size r)) (Count f.len) (core_of roots t y ls)
sized roots t y {ls = ls} slot r m f lawful at is = quiet (core_of roots t y ls) roots (Mutator slot (Size r)) (Count f.len) (λ h. h) (λ s h.
    let found = finds (is_kept t.pending y.marker.marks) t s (register m r) f lawful h.store is in
    (s, Calls.acts (attached roots t y s slot m h at) (subst (λ n. Acts s slot m (Size r) (Count n) s) found.2.size (Acts.sized found.1)), h))
