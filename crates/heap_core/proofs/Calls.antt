-- The calls that allocate and free.
use Rattle.std.proofs.Common.{◌≤◌, get_or, cond, replicate, true, false, length, inl, inr, ⊎_elim, ◌≡◌, ℕ, ◌+◌, [], ◌∷◌, Some, None, refl, sym, ap, ◌∙◌, subst, List}
use Rattle.std.specs.Prelude.{◌≢◌, ◌⊎◌}
use Rattle.words.specs.declared.class.Kind.{Kind}
use Rattle.words.specs.declared.class.Placement.{Placement}
use Rattle.words.specs.declared.refusal.Refusal.TheVariants.{Full, NotBase}
use Rattle.words.specs.Placing.{placement_of}
use Rattle.heap_spec.specs.declared.call.Call.TheVariants.{Alloc, Free, Store as StoreCall}
use Rattle.heap_spec.specs.declared.event.Event.TheVariants.{Mutator}
use Rattle.heap_spec.specs.declared.reply.Reply.TheVariants.{Refused, Done}
use Rattle.heap_spec.specs.Heap.{Heap, Object, HasObject, Mutator as HeapMutator}
use Rattle.heap_spec.proofs.Objects.{with_at-other}
use Rattle.links.proofs.Named.{named_kept}
use Rattle.std.specs.Prelude.{filter, slice_index}
use Rattle.object_space.specs.Along.{TakesAlong, stays, clears}
use Rattle.heap_core.proofs.Along.{less, beside_is, reads_one, shows_along, named_along}
use Rattle.heap_spec.specs.Replies.{IsStep}
use Rattle.heap_spec.specs.Steps.{Acts, Calls, register, with_new, with_register}
use Rattle.words.specs.Bits.{Has}
use Rattle.block_map.specs.Objects.{IsInside, IsPlaced}
use Rattle.words.specs.declared.limits.TheConstants.{FIRST_ADDRESS}
use Rattle.words.specs.Layout.{granule, page_of}
use Rattle.heap_spec.specs.Heap.{with_at, without, without_at}
use Rattle.heap_spec.specs.Room.{length_of}
use Rattle.std.specs.Prelude.{Bool}
use Rattle.std.proofs.lemmas.Bool.{false≢true, cases_eq}
use Rattle.marker.specs.Mutations.{IsFreed}
use Rattle.marker.specs.Marking.{Marking, IsMarked}
use Rattle.block_map.specs.Objects.{IsMap}
use Rattle.block_map.specs.Changes.{IsRemoved}
use Rattle.std.proofs.Common.{get_or-set_other}
use Rattle.std.proofs.lemmas.Option.{same_Some}
use Rattle.marker.proofs.Closures.{same_object}
use Rattle.block_map.specs.FoundIn.{found_in, IsLawful}
use Rattle.block_map.specs.declared.found.Found.{Found}
use Rattle.links.specs.declared.row.Link.{Link}
use Rattle.roots.specs.Roots.{RootSet, HasMutator, SetsWord}
use Rattle.object_space.specs.Store.{Store, IsSwept}
use Rattle.heap_core.specs.CoreContents.{Cycle}
use Rattle.heap_core.specs.MutatorCalls.{IsCall, Frees}
use Rattle.heap_core.specs.Beside.{NotesObject}
use Rattle.object_space.specs.Sweeps.{Gains, Loses, Sweeps}
use Rattle.heap_view.specs.Shows.{Shows}
use Rattle.object_space.specs.Stores.{Stores}
use Rattle.heap_core.specs.Standing.{StandsFor}
use Rattle.object_space.specs.Kept.{restrict, is_kept, kept_in}
use Rattle.object_space.proofs.Kept.{kept_cases, kept_map, kept_added, kept_removed, kept_none, kept_same, kept_is, nothing_pending}
use Rattle.object_space.proofs.Changes.{shows_added, shows_removed}
use Rattle.object_space.proofs.Allocations.{shows_same}
use Rattle.object_space.proofs.Words.{shows_kept}
use Rattle.heap_view.proofs.Shows.{at_base}
use Rattle.object_space.proofs.Sweeping.{read_or_not}
use Rattle.object_space.specs.Many.{HasNoneReady, LeavesPages}
use Rattle.object_space.specs.Rooms.{HasRoomAt, HasNoRoom}
use Rattle.heap_core.proofs.Lookups.{finds}
use Rattle.heap_core.proofs.Forgotten.{forgotten_added, forgotten_removed, forgotten_swept}
use Rattle.heap_core.proofs.Roots.{allocation_event, not_done, dirty_event, refused_clean, stored_dirty, core_of, attached, stands_set, none_some, frees_event, frees_reply}

-- where a request goes in the heap that is stood for
limit_is : (roots : RootSet) (t : Store) (y : Cycle) {ls : List Link} (s : Heap) (n : ℕ) (placement : Placement) → StandsFor (core_of roots t y ls) s → placement_of roots.request_words n ≡ Some placement → placement_of s.request_words n ≡ Some placement
limit_is roots t y s n placement h is = ap (λ limit. placement_of limit n) h.request_words ∙ is

-- pages were swept
pub swept_stands : (roots : RootSet) (t0 t : Store) (y : Cycle) {ls : List Link} → Sweeps t0 y.marker.marks t → (s : Heap) → StandsFor (core_of roots t0 y ls) s → StandsFor (core_of roots t y ls) s
swept_stands roots t0 t y {ls = ls} sweeps s h = record {
  mutators = h.mutators;
  globals = h.globals;
  request_words = h.request_words;
  links = h.links;
  store = record {
    pages = h.store.pages ∙ sym sweeps.pages;
    shows = shows_kept (kept_in t.states t.pending y.marker.marks) t0.words t.words s.objects s.births low (λ f i there lt. sweeps.words f i (kept_cases (is_kept t.pending y.marker.marks) (found_in t.states) f.base f there).0 lt)
        (shows_same (kept_in t0.states t0.pending y.marker.marks) (kept_in t.states t.pending y.marker.marks) t0.words s.objects s.births sweeps.same h.store.shows);
  };
}
  where
    low : (f : Found) → kept_in t.states t.pending y.marker.marks f.base ≡ Some f → FIRST_ADDRESS ≤ f.base
    low f there = (sweeps.before.placed f.base f (kept_cases (is_kept t0.pending y.marker.marks) (found_in t0.states) f.base f (sym (sweeps.same.same f.base) ∙ there)).0).above

-- what was kept is kept, and so is the object that came
module _ (t t' : Store) (y y' : Cycle) (placement : Placement) (kind : Kind) (base : ℕ) (gains : Gains t placement kind base t') (notes : NotesObject y.is_marking base y.marker y'.marker) where
  here : found_in t'.states gains.object.base ≡ Some gains.object
  here = ap (found_in t'.states) gains.at ∙ gains.found

  -- no object that was there has the granule of the one that came
  apart : (w : ℕ) (x : Found) → found_in t.states w ≡ Some x → granule x.base ≡ granule base → ⊥
  apart w x there same = ⊎_elim (λ r. clash (sym (gains.added.before x.base r) ∙ was)) (λ not. not (read not)) (read_or_not x.base gains.object)
    where
      was : found_in t.states x.base ≡ Some x
      was = at_base (found_in t.states) (length t.states) gains.before w x there

      clash : None ≡ Some x → ⊥
      clash e = cc

      read : (IsInside x.base gains.object → ⊥) → IsInside x.base gains.object
      read not =
          let now : found_in t'.states x.base ≡ Some x = gains.added.others x.base not ∙ was in
          let one : x ≡ gains.object = same_object (length t'.states) (found_in t'.states) gains.map x gains.object now here (same ∙ ap granule (sym gains.at)) in
          subst (IsInside x.base) one (gains.map.reads x.base x now)

  keeps_same : (w : ℕ) (x : Found) → found_in t.states w ≡ Some x → is_kept t'.pending y'.marker.marks x ≡ is_kept t.pending y.marker.marks x
  keeps_same w x there =
      ap (λ row. is_kept row y'.marker.marks x) gains.pending
      ∙ ap (λ b. cond (get_or t.pending x.page false) b true) (notes.others (granule x.base) (apart w x there))

  keeps_new : is_kept t'.pending y'.marker.marks gains.object ≡ true
  keeps_new = nothing_pending t'.pending y'.marker.marks gains.object (λ h. false≢true (sym (ap (λ row. get_or row gains.object.page false) gains.pending ∙ gains.swept) ∙ h))

  pub stores_new : (s : Heap) → Stores (is_kept t.pending y.marker.marks) t s → Stores (is_kept t'.pending y'.marker.marks) t' (with_new s base kind placement)
  stores_new s stores = record {
    pages = stores.pages ∙ sym gains.pages;
    shows = subst (λ b. Shows (restrict (is_kept t'.pending y'.marker.marks) (found_in t'.states)) t'.words (with_at s.objects b (Some (record { birth = s.births + 1; kind = kind; words = replicate (length_of placement) 0 }))) (s.births + 1)) gains.at
        (shows_added (restrict (is_kept t.pending y.marker.marks) (found_in t.states)) (restrict (is_kept t'.pending y'.marker.marks) (found_in t'.states)) (length t.states)
        (kept_map (length t.states) (is_kept t.pending y.marker.marks) (found_in t.states) gains.before) t.words t'.words s.objects s.births stores.shows gains.object (length_of placement) kind
        (kept_added (is_kept t.pending y.marker.marks) (is_kept t'.pending y'.marker.marks) (found_in t.states) (found_in t'.states) gains.object gains.added keeps_new keeps_same)
        (λ g i there lt. gains.words g i (kept_cases (is_kept t.pending y.marker.marks) (found_in t.states) g.base g there).0 lt) gains.zeroed gains.size gains.of_kind placed.some placed.above placed.aligned);
  }
    where
      placed : IsPlaced (length t'.states) gains.object
      placed = gains.map.placed gains.object.base gains.object here

  -- no object of the heap has its base
  pub none_at : (s : Heap) → Stores (is_kept t.pending y.marker.marks) t s → (b : ℕ) (o : Object) → b ≡ base → HasObject s b o → ⊥
  none_at s stores b o same has =
      let f = stores.shows.shown.only b o has in
      let there = (kept_cases (is_kept t.pending y.marker.marks) (found_in t.states) b f.0 f.1).0 in
      none_some f.0 (sym (gains.added.before b (subst (λ x. IsInside x gains.object) (gains.at ∙ sym same) (gains.map.reads gains.object.base gains.object here))) ∙ there)

allocated_step : (roots roots' : RootSet) (t t' : Store) (y y' : Cycle) {ls : List Link} (slot d n base : ℕ) (kind : Kind) (placement : Placement) (m : HeapMutator) → HasMutator roots slot m → placement_of roots.request_words n ≡ Some placement
    → HasRoomAt t placement kind base → Gains t placement kind base t' → SetsWord roots slot d base roots' → NotesObject y.is_marking base y.marker y'.marker → IsStep (StandsFor (core_of roots t y ls)) (Mutator slot (Alloc d n kind)) Done (StandsFor (core_of roots' t' y' ls))
allocated_step roots roots' t t' y y' {ls = ls} slot d n base kind placement m at is room gains sets notes s h =
    let new = stores_new t t' y y' placement kind base gains notes s h.store in
    let after : Heap = with_register (with_new s base kind placement) slot m d base in (
      after,
      Calls.acts (attached roots t y s slot m h at) (Acts.allocated base (limit_is roots t y s n placement h is) (room (is_kept t.pending y.marker.marks) s h.store)),
      stands_set roots roots' t t' y y' s after slot d base m h at sets refl refl refl (record { pages = new.pages; shows = new.shows }) (named_kept s.objects after.objects (λ b o has. (o, with_at-other s.objects base _ b (λ same. none_at t t' y y' placement kind base gains notes s h.store b o same has) ∙ has, record { birth = refl; kind = refl; size = refl })) h.links),
    )

pub allocated : (roots roots' : RootSet) (t0 t t' : Store) (y y' : Cycle) {ls : List Link} (slot d n base : ℕ) (kind : Kind) (placement : Placement) (m : HeapMutator) → HasMutator roots slot m → placement_of roots.request_words n ≡ Some placement
    → Sweeps t0 y.marker.marks t → HasRoomAt t placement kind base → (gains : Gains t placement kind base t') → SetsWord roots slot d base roots' → NotesObject y.is_marking base y.marker y'.marker → (IsMarked y.marker gains.object.base → ⊥) → y'.is_marking ≡ y.is_marking → y'.count ≡ y.count → y'.reads ≡ y.reads → y'.needs_full ≡ y.needs_full
    → HasNoneReady t0 placement kind ⊎ LeavesPages t0 t' → IsCall (core_of roots t0 y ls) (Mutator slot (Alloc d n kind)) Done (core_of roots' t' y' ls)
allocated roots roots' t0 t t' y y' {ls = ls} slot d n base kind placement m at is sweeps room gains sets notes unmarked phase count reads needs cuts = record {
  steps = λ s h. allocated_step roots roots' t t' y y' slot d n base kind placement m at is room gains sets notes s (swept_stands roots t0 t y sweeps s h);
  phase = phase;
  count = count;
  reads = reads;
  freed = λ h. absurd (no_free (frees_event (Mutator slot (Alloc d n kind)) Done h));
  needs_full = λ _. needs;
  idle = λ is f there marked. let now = kept_cases (is_kept t'.pending y'.marker.marks) (found_in t'.states) f.base f there in was_there is f now.0 now.1 (subst (λ (m : Marking). IsMarked m f.base) (notes.idle is) marked);
  carried = notes.carried;
  stays = λ f there marked. notes.stays (granule f.base) marked;
  came = λ is f there none. let now = kept_cases (is_kept t'.pending y'.marker.marks) (found_in t'.states) f.base f there in came_marked is f now.0 now.1 none;
  stays_dirty = λ p h. subst (λ ds. Has ds p) (sym notes.dirty) h;
  current = notes.current;
  stack = notes.stack;
  marks = λ f there marked. ⊎_elim (λ old. inl old) (λ same. inr (new f (kept_cases (is_kept t'.pending y'.marker.marks) (found_in t'.states) f.base f there).0 same)) (notes.marks (granule f.base) marked);
  dirty = λ p h. inl (subst (λ ds. Has ds p) notes.dirty h);
  fewer = λ p h. sweeps.fewer p (subst (λ row. Has row p) gains.pending h);
  swept = λ p h. inr tt;
  forgotten = λ w f.
      let came = forgotten_added t t' y.marker.marks y'.marker.marks gains.object gains.added (keeps_new t t' y y' placement kind base gains notes) (keeps_same t t' y y' placement kind base gains notes) w f in
      let swept = forgotten_swept t0 t y.marker.marks sweeps w f in (
        λ h. let was = swept.0 (came.0 h) in (was.0, subst (λ row. Has row f.page) (sym gains.pending) was.1),
        λ h. came.1 (swept.1 (h.0, subst (λ row. Has row f.page) gains.pending h.1)),
      );
  full = λ h. absurd (not_done (Mutator slot (Alloc d n kind)) h);
  cuts = λ p k h. cut_in_need p k (allocation_event (core_of roots t0 y ls) (Mutator slot (Alloc d n kind)) Done p k h);
  written = λ p h. absurd (clean (dirty_event (core_of roots t0 y ls) (Mutator slot (Alloc d n kind)) Done p h));
  stored = λ b w h. absurd (clean (dirty_event (core_of roots t0 y ls) (Mutator slot (Alloc d n kind)) Done (page_of b) (stored_dirty (core_of roots t0 y ls) (Mutator slot (Alloc d n kind)) Done b w h)));
  roots_alone = λ not. absurd (not tt);
}
  where
    clean : ((s a i q : ℕ) × (Mutator slot (Alloc d n kind) ≡ Mutator s (StoreCall a i q))) → ⊥
    clean (s, a, i, q, e) = cc

    no_free : ((s q : ℕ) × (Mutator slot (Alloc d n kind) ≡ Mutator s (Free q))) → ⊥
    no_free (s, q, e) = cc

    cut_in_need : (p : Placement) (k : Kind) → ((s x w : ℕ) × (Mutator slot (Alloc d n kind) ≡ Mutator s (Alloc x w k)) × (Done ≡ Done) × (placement_of roots.request_words w ≡ Some p))
        → HasNoneReady t0 p k ⊎ LeavesPages t0 t'
    cut_in_need p k (s, x, w, e, _, found) =
        let same : w ≡ n = cc in
        let of_kind : kind ≡ k = cc in
        let one : placement ≡ p = same_Some placement p (sym is ∙ ap (placement_of roots.request_words) (sym same) ∙ found) in
        subst (λ q. HasNoneReady t0 p q ⊎ LeavesPages t0 t') of_kind (subst (λ q. HasNoneReady t0 q kind ⊎ LeavesPages t0 t') one cuts)

    -- the object at the granule is the one that came
    new : (f : Found) → found_in t'.states f.base ≡ Some f → granule f.base ≡ granule base → restrict (is_kept t0.pending y.marker.marks) (found_in t0.states) f.base ≡ None
    new f there same =
        let one : f ≡ gains.object = same_object (length t'.states) (found_in t'.states) gains.map f gains.object there (ap (found_in t'.states) gains.at ∙ gains.found) (same ∙ ap granule (sym gains.at)) in
        sym (sweeps.same.same f.base) ∙ kept_none (is_kept t.pending y.marker.marks) (found_in t.states) f.base (gains.added.before f.base (subst (IsInside f.base) one (gains.map.reads f.base f there)))

    -- an object that was not there is the one that came
    came_marked : y.is_marking ≡ true → (f : Found) → found_in t'.states f.base ≡ Some f → is_kept t'.pending y'.marker.marks f ≡ true → restrict (is_kept t0.pending y.marker.marks) (found_in t0.states) f.base ≡ None → IsMarked y'.marker f.base
    came_marked is f there kept none = ⊎_elim
        (λ r. subst (IsMarked y'.marker) (sym gains.at ∙ ap (λ (x : Found). x.base) (sym (same_Some f gains.object (sym there ∙ gains.added.after f.base r)))) (notes.marked is))
        (λ not. absurd (none_some f (sym none ∙ sym (sweeps.same.same f.base) ∙ kept_is (is_kept t.pending y.marker.marks) (found_in t.states) f.base f (was not) (sym (keeps_same t t' y y' placement kind base gains notes f.base f (was not)) ∙ kept))))
        (read_or_not f.base gains.object)
      where
        was : (IsInside f.base gains.object → ⊥) → found_in t.states f.base ≡ Some f
        was not = sym (gains.added.others f.base not) ∙ there

    -- an object that has a mark of before was there
    was_there : y.is_marking ≡ false → (f : Found) → found_in t'.states f.base ≡ Some f → is_kept t'.pending y'.marker.marks f ≡ true → IsMarked y.marker f.base → (restrict (is_kept t0.pending y.marker.marks) (found_in t0.states) f.base ≡ Some f) × IsMarked y.marker f.base
    was_there is f there kept marked = (
      ⊎_elim
          (λ r. absurd (unmarked (subst (IsMarked y.marker) (ap (λ (x : Found). x.base) (same_Some f gains.object (sym there ∙ gains.added.after f.base r))) marked)))
          (λ not. sym (sweeps.same.same f.base) ∙ kept_is (is_kept t.pending y.marker.marks) (found_in t.states) f.base f (was not) (sym (keeps_same t t' y y' placement kind base gains notes f.base f (was not)) ∙ kept))
          (read_or_not f.base gains.object),
      marked,
    )
      where
        was : (IsInside f.base gains.object → ⊥) → found_in t.states f.base ≡ Some f
        was not = sym (gains.added.others f.base not) ∙ there

-- a store with nothing to be swept keeps all its objects
all_kept : (keep : Found → Bool) (t : Store) (s : Heap) → ((f : Found) → keep f ≡ true) → Stores keep t s → Stores (λ _. true) t s
all_kept keep t s all stores = record {
  pages = stores.pages;
  shows = shows_same (restrict keep (found_in t.states)) (restrict (λ _. true) (found_in t.states)) t.words s.objects s.births (kept_same keep (λ _. true) (found_in t.states) (λ w f there. sym (all f))) stores.shows;
}

refused_done : Refused Full ≡ Done → ⊥
refused_done e = cc

pub full : (roots : RootSet) (t0 t : Store) (y : Cycle) {ls : List Link} (slot d n : ℕ) (kind : Kind) (placement : Placement) (m : HeapMutator) → HasMutator roots slot m → placement_of roots.request_words n ≡ Some placement → Sweeps t0 y.marker.marks t → IsSwept t → HasNoRoom t placement kind
    → IsCall (core_of roots t0 y ls) (Mutator slot (Alloc d n kind)) (Refused Full) (core_of roots t y ls)
full roots t0 t y {ls = ls} slot d n kind placement m at is sweeps swept none = record {
  freed = λ h. absurd (refused_done (frees_reply (Mutator slot (Alloc d n kind)) (Refused Full) h));
  needs_full = λ _. refl;
  idle = λ is f there marked. (sym (sweeps.same.same f.base) ∙ there, marked);
  carried = refl;
  steps = λ s h.
      let now = swept_stands roots t0 t y sweeps s h in
      (s, Calls.acts (attached roots t0 y s slot m h at) (Acts.full (limit_is roots t y s n placement now is) (none s (all_kept (is_kept t.pending y.marker.marks) t s (λ f. nothing_pending t.pending y.marker.marks f (swept f.page)) now.store))), now);
  phase = refl;
  count = refl;
  reads = refl;
  marks = λ f there marked. inl marked;
  stays = λ f there marked. marked;
  came = λ is f there none. absurd (none_some f (sym none ∙ sym (sweeps.same.same f.base) ∙ there));
  dirty = λ p h. inl h;
  stays_dirty = λ p h. h;
  current = refl;
  stack = refl;
  fewer = sweeps.fewer;
  swept = λ p h. inr tt;
  forgotten = forgotten_swept t0 t y.marker.marks sweeps;
  full = λ h. swept;
  cuts = λ p k h. absurd (refused_done (allocation_event (core_of roots t0 y ls) (Mutator slot (Alloc d n kind)) (Refused Full) p k h).4);
  written = λ p h. absurd (refused_clean (core_of roots t0 y ls) (Mutator slot (Alloc d n kind)) Full p h);
  stored = λ b w h. absurd (refused_clean (core_of roots t0 y ls) (Mutator slot (Alloc d n kind)) Full (page_of b) (stored_dirty (core_of roots t0 y ls) (Mutator slot (Alloc d n kind)) (Refused Full) b w h));
  roots_alone = λ not. absurd (not tt);
}

-- a kept object whose base was looked for is there
pub kept_there : (t : Store) (marks : List Bool) (w : ℕ) (f : Found) → f.base ≡ w → kept_in t.states t.pending marks w ≡ Some f → found_in t.states f.base ≡ Some f
kept_there t marks w f base is = (kept_cases (is_kept t.pending marks) (found_in t.states) f.base f (ap (kept_in t.states t.pending marks) base ∙ is)).0

-- an object goes, and its mark at most with it: of those that are kept it alone goes
module _ (t t' : Store) (y y' : Cycle) (f : Found) (map : IsMap (length t.states) (found_in t.states)) (is : restrict (is_kept t.pending y.marker.marks) (found_in t.states) f.base ≡ Some f) (loses : Loses t f t')
    (others : (k : ℕ) → k ≢ granule f.base → get_or y'.marker.marks k false ≡ get_or y.marker.marks k false) where
  -- no object that is left has the granule of the one that went
  apart_left : (w : ℕ) (x : Found) → found_in t'.states w ≡ Some x → granule x.base ≡ granule f.base → ⊥
  apart_left w x there same = ⊎_elim (λ r. clash (sym (loses.removed.before w r) ∙ there)) (λ not. not (read not)) (read_or_not w f)
    where
      clash : None ≡ Some x → ⊥
      clash e = cc

      read : (IsInside w f → ⊥) → IsInside w f
      read not =
          let was : found_in t.states w ≡ Some x = loses.removed.others w not ∙ there in
          let gone = (kept_cases (is_kept t.pending y.marker.marks) (found_in t.states) f.base f is).0 in
          let one : x ≡ f = same_object (length t.states) (found_in t.states) map x f (at_base (found_in t.states) (length t.states) map w x was) gone same in
          subst (IsInside w) one (map.reads w x was)

  keeps_left : (w : ℕ) (x : Found) → found_in t'.states w ≡ Some x → is_kept t'.pending y'.marker.marks x ≡ is_kept t.pending y.marker.marks x
  keeps_left w x there =
      ap (λ b. cond b (get_or y'.marker.marks (granule x.base) false) true) (loses.pending w x there)
      ∙ ap (λ b. cond (get_or t.pending x.page false) b true) (others (granule x.base) (apart_left w x there))

  kept_left : IsRemoved (restrict (is_kept t.pending y.marker.marks) (found_in t.states)) (restrict (is_kept t'.pending y'.marker.marks) (found_in t'.states)) f
  kept_left = kept_removed (is_kept t.pending y.marker.marks) (is_kept t'.pending y'.marker.marks) (found_in t.states) (found_in t'.states) f loses.removed
      (kept_cases (is_kept t.pending y.marker.marks) (found_in t.states) f.base f is).1 keeps_left

  -- what is left was there
  still_there : (g : Found) → restrict (is_kept t'.pending y'.marker.marks) (found_in t'.states) g.base ≡ Some g → restrict (is_kept t.pending y.marker.marks) (found_in t.states) g.base ≡ Some g
  still_there g there = ⊎_elim (λ r. absurd (none_some g (sym (kept_left.before g.base r) ∙ there))) (λ not. kept_left.others g.base not ∙ there) (read_or_not g.base f)

  stores_less : (s : Heap) → Stores (is_kept t.pending y.marker.marks) t s → Stores (is_kept t'.pending y'.marker.marks) t' (less s (f.base ∷ []))
  stores_less s stores = record {
    pages = stores.pages ∙ sym loses.pages;
    shows = shows_kept (kept_in t'.states t'.pending y'.marker.marks) t.words t'.words (without_at s.objects (f.base ∷ [])) s.births
        (λ g there. (map.placed g.base g (kept_cases (is_kept t.pending y.marker.marks) (found_in t.states) g.base g (still_there g there)).0).above)
        (λ g i there lt. loses.words g i (kept_cases (is_kept t'.pending y'.marker.marks) (found_in t'.states) g.base g there).0 lt)
        (shows_removed (restrict (is_kept t.pending y.marker.marks) (found_in t.states)) (restrict (is_kept t'.pending y'.marker.marks) (found_in t'.states)) (length t.states)
        (kept_map (length t.states) (is_kept t.pending y.marker.marks) (found_in t.states) map) t.words s.objects s.births stores.shows f is kept_left);
  }

  -- what is there now was there before
  was_kept : (g : Found) → restrict (is_kept t'.pending y'.marker.marks) (found_in t'.states) g.base ≡ Some g → restrict (is_kept t.pending y.marker.marks) (found_in t.states) g.base ≡ None → ⊥
  was_kept g there none = ⊎_elim (λ r. none_some g (sym (kept_left.before g.base r) ∙ there)) (λ not. none_some g (sym none ∙ kept_left.others g.base not ∙ there)) (read_or_not g.base f)

freed_along : (roots : RootSet) (t t1 : Store) (words : List ℕ) (y y' : Cycle) {ls : List Link} (slot r : ℕ) (m : HeapMutator) (f : Found) → IsLawful t.states → HasMutator roots slot m → restrict (is_kept t.pending y.marker.marks) (found_in t.states) (register m r) ≡ Some f → f.base ≡ register m r
    → Loses t f t1 → IsFreed f.base y.marker y'.marker → y'.is_marking ≡ y.is_marking → y'.count ≡ y.count → y'.reads ≡ y.reads → IsLawful t1.states
    → ((k : ℕ) → slice_index words k ≡ cond (clears (kept_in t1.states t1.pending y'.marker.marks) ls k) 0 (slice_index t1.words k))
    → y'.needs_full ≡ true → IsCall (core_of roots t y ls) (Mutator slot (Free r)) Done (core_of roots (record t1 { words = words }) y' (filter (stays (kept_in t1.states t1.pending y'.marker.marks)) ls))
freed_along roots t t' words y y' {ls = ls} slot r m f lawful at is base loses frees phase count reads lawful' changed needs = record {
  freed = λ _. needs;
  needs_full = λ not. absurd (not Frees.freed);
  idle = λ marking g now marked. (still_there t t' y y' f lawful.map there loses others g now, sym (others (granule g.base) (left g now)) ∙ marked);
  carried = frees.carried;
  steps = λ s h.
      let found = finds (is_kept t.pending y.marker.marks) t s (register m r) f lawful h.store is in
      let has = ap s.objects (sym base) ∙ found.1.0 in
      let left = stores_less t t' y y' f lawful.map there loses others s h.store in
      let map' = kept_map (length t'.states) (is_kept t'.pending y'.marker.marks) (found_in t'.states) lawful'.map in
      let one = reads_one (kept_in t.states t.pending y.marker.marks) (length t.states) (kept_map (length t.states) (is_kept t.pending y.marker.marks) (found_in t.states) lawful.map) t.words s h.store.shows.shown in (
        without s (register m r ∷ []),
        Calls.acts (attached roots t y s slot m h at) (Acts.freed has),
        subst (λ b. StandsFor (core_of roots (record t' { words = words }) y' (filter (stays (kept_in t'.states t'.pending y'.marker.marks)) ls)) (without s (b ∷ []))) base (record {
          mutators = h.mutators;
          globals = h.globals;
          request_words = h.request_words;
          store = record { pages = left.pages; shows = shows_along (kept_in t'.states t'.pending y'.marker.marks) (length t'.states) map' t'.words words s (f.base ∷ []) ls left.shows h.store.shows.distinct one h.links changed };
          links = named_along (kept_in t'.states t'.pending y'.marker.marks) (length t'.states) map' t'.words words s (f.base ∷ []) ls left.shows h.store.shows.distinct one h.links;
        }),
      );
  phase = phase;
  count = count;
  reads = reads;
  marks = λ g now marked. inl (sym (others (granule g.base) (left g now)) ∙ marked);
  stays = λ g now marked. others (granule g.base) (left g now) ∙ marked;
  came = λ marking g now none. absurd (was_kept t t' y y' f lawful.map there loses others g now none);
  dirty = λ p h. inl (subst (λ ds. Has ds p) frees.dirty h);
  stays_dirty = λ p h. subst (λ ds. Has ds p) (sym frees.dirty) h;
  current = frees.current;
  stack = frees.stack;
  fewer = loses.fewer;
  swept = λ p h. ⊎_elim (λ same. inr (m, at, f, is, same)) (λ ne. inl (loses.rest p ne ∙ h)) (cases_eq p f.page);
  forgotten = forgotten_removed t t' y.marker.marks y'.marker.marks f loses.removed (kept_cases (is_kept t.pending y.marker.marks) (found_in t.states) f.base f there).1
      (keeps_left t t' y y' f lawful.map there loses others);
  full = λ h. absurd (not_done (Mutator slot (Free r)) h);
  cuts = λ p k h. absurd (no_allocation (allocation_event (core_of roots t y ls) (Mutator slot (Free r)) Done p k h));
  written = λ p h. absurd (clean (dirty_event (core_of roots t y ls) (Mutator slot (Free r)) Done p h));
  stored = λ b w h. absurd (clean (dirty_event (core_of roots t y ls) (Mutator slot (Free r)) Done (page_of b) (stored_dirty (core_of roots t y ls) (Mutator slot (Free r)) Done b w h)));
  roots_alone = λ not. absurd (not tt);
}
  where
    clean : ((s a n q : ℕ) × (Mutator slot (Free r) ≡ Mutator s (StoreCall a n q))) → ⊥
    clean (s, a, n, q, e) = cc

    no_allocation : {p : Placement} {k : Kind} → ((s d n : ℕ) × (Mutator slot (Free r) ≡ Mutator s (Alloc d n k)) × (Done ≡ Done) × (placement_of roots.request_words n ≡ Some p)) → ⊥
    no_allocation (s, d, n, e, _, found) = cc

    there : restrict (is_kept t.pending y.marker.marks) (found_in t.states) f.base ≡ Some f
    there = ap (restrict (is_kept t.pending y.marker.marks) (found_in t.states)) base ∙ is

    others : (k : ℕ) → k ≢ granule f.base → get_or y'.marker.marks k false ≡ get_or y.marker.marks k false
    others k ne = ap (λ ms. get_or ms k false) frees.marks ∙ get_or-set_other y.marker.marks (granule f.base) k false false ne

    left : (g : Found) → restrict (is_kept t'.pending y'.marker.marks) (found_in t'.states) g.base ≡ Some g → granule g.base ≡ granule f.base → ⊥
    left g now = apart_left t t' y y' f lawful.map there loses others g.base g (kept_cases (is_kept t'.pending y'.marker.marks) (found_in t'.states) g.base g now).0

pub freed : (roots : RootSet) (t t1 t' : Store) (y y' : Cycle) {ls : List Link} (ls' : List Link) (slot r : ℕ) (m : HeapMutator) (f : Found) → IsLawful t.states → HasMutator roots slot m → restrict (is_kept t.pending y.marker.marks) (found_in t.states) (register m r) ≡ Some f → f.base ≡ register m r
    → Loses t f t1 → IsFreed f.base y.marker y'.marker → y'.is_marking ≡ y.is_marking → y'.count ≡ y.count → y'.reads ≡ y.reads → IsLawful t1.states
    → TakesAlong (kept_in t1.states t1.pending y'.marker.marks) ls t1 t' → ls' ≡ filter (stays (kept_in t1.states t1.pending y'.marker.marks)) ls → y'.needs_full ≡ true
    → IsCall (core_of roots t y ls) (Mutator slot (Free r)) Done (core_of roots t' y' ls')
freed roots t t1 t' y y' {ls = ls} ls' slot r m f lawful at is base loses frees phase count reads lawful' along same needs =
    subst (λ x. IsCall (core_of roots t y ls) (Mutator slot (Free r)) Done (core_of roots x y' ls')) (sym (beside_is t1 t' along.beside))
    (subst (λ row. IsCall (core_of roots t y ls) (Mutator slot (Free r)) Done (core_of roots (record t1 { words = t'.words }) y' row)) (sym same)
    (freed_along roots t t1 t'.words y y' slot r m f lawful at is base loses frees phase count reads lawful' along.words needs))

pub inside : (keep : Found → Bool) (t : Store) (s : Heap) (slot r : ℕ) (m : HeapMutator) (f : Found) → IsLawful t.states → restrict keep (found_in t.states) (register m r) ≡ Some f → f.base ≢ register m r → Stores keep t s → Acts s slot m (Free r) (Refused NotBase) s
inside keep t s slot r m f lawful is ne stores = let found = finds keep t s (register m r) f lawful stores is in Acts.free_inside found.1 ne
