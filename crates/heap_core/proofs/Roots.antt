-- What the roots of a core are to the heap that it stands for.
use Rattle.std.proofs.Common.{List, inl, inr, ◌≡◌, ℕ, set, Some, None, refl, sym, ap, ◌∙◌, subst}
use Rattle.std.specs.Prelude.{slice_get}
use Rattle.words.specs.declared.class.Kind.{Kind}
use Rattle.words.specs.declared.class.Placement.{Placement}
use Rattle.words.specs.Layout.{page_of}
use Rattle.words.specs.Placing.{placement_of}
use Rattle.words.specs.declared.refusal.Refusal.{Refusal}
use Rattle.words.specs.declared.refusal.Refusal.TheVariants.{NoSlot, Full}
use Rattle.heap_spec.specs.declared.call.Call.{Call}
use Rattle.heap_spec.specs.declared.call.Call.TheVariants.{Alloc, Store as StoreCall, Free as FreeCall}
use Rattle.heap_spec.specs.declared.event.Event.{Event}
use Rattle.heap_spec.specs.declared.event.Event.TheVariants.{Mutator}
use Rattle.heap_spec.specs.declared.reply.Reply.{Reply}
use Rattle.heap_spec.specs.declared.reply.Reply.TheVariants.{Refused, Done}
use Rattle.heap_spec.specs.Heap.{Heap, Mutator as HeapMutator, IsAttached}
use Rattle.heap_spec.specs.Replies.{IsStep}
use Rattle.heap_spec.specs.Steps.{Acts, Calls, Step}
use Rattle.block_map.specs.declared.found.Found.{Found}
use Rattle.links.specs.declared.row.Link.{Link}
use Rattle.roots.specs.Roots.{RootSet, HasMutator, HasNoMutator, with_word, with_roots, SetsWord, StepsRoots}
use Rattle.roots.proofs.Steps.{set_mutators}
use Rattle.object_space.specs.Store.{Store}
use Rattle.heap_core.specs.CoreContents.{CoreContents, Cycle}
use Rattle.heap_core.specs.MutatorCalls.{IsAllocation, IsCall, IsFullAlloc, Frees, MakesDirty, ReachesPages, StoresAt}
use Rattle.object_space.specs.Kept.{is_kept}
use Rattle.links.specs.Named.{AreNamed}
use Rattle.object_space.specs.Stores.{Stores}
use Rattle.heap_core.specs.Standing.{StandsFor}
use Rattle.heap_core.proofs.Forgotten.{forgotten_same}

-- the core of these
abbrev pub core_of : RootSet → Store → Cycle → List Link → CoreContents
core_of roots t y ls = record { roots = roots; store = t; cycle = y; links = ls }

pub none_some : (f : Found) → None ≡ Some f → ⊥
none_some f e = cc

-- an allocation for which there is no place reaches the pages
full_reaches : (event : Event) (reply : Reply) → IsFullAlloc event reply → ReachesPages event reply
full_reaches event reply IsFullAlloc.full = tt

full_reply : (event : Event) (reply : Reply) → IsFullAlloc event reply → reply ≡ Refused Full
full_reply event reply IsFullAlloc.full = refl

-- a store that was done reaches them
dirty_reaches : (c : CoreContents) (event : Event) (reply : Reply) (p : ℕ) → MakesDirty c event reply p → ReachesPages event reply
dirty_reaches c event reply p (MakesDirty.store m at same) = tt

-- and so does a free that was done
frees_reaches : (event : Event) (reply : Reply) → Frees event reply → ReachesPages event reply
frees_reaches event reply Frees.freed = tt

pub frees_reply : (event : Event) (reply : Reply) → Frees event reply → reply ≡ Done
frees_reply event reply Frees.freed = refl

pub frees_event : (event : Event) (reply : Reply) → Frees event reply → (slot r : ℕ) × (event ≡ Mutator slot (FreeCall r))
frees_event event reply (Frees.freed {slot = slot} {r = r}) = (slot, r, refl)

-- what makes a page dirty was done, and is a store
dirty_reply : (c : CoreContents) (event : Event) (reply : Reply) (p : ℕ) → MakesDirty c event reply p → reply ≡ Done
dirty_reply c event reply p (MakesDirty.store m at same) = refl

pub dirty_event : (c : CoreContents) (event : Event) (reply : Reply) (p : ℕ) → MakesDirty c event reply p → (slot a n r : ℕ) × (event ≡ Mutator slot (StoreCall a n r))
dirty_event c event reply p (MakesDirty.store {slot = slot} {a = a} {n = n} {r = r} m at same) = (slot, a, n, r, refl)

-- a store that was done makes the page of its address dirty
pub stored_dirty : (c : CoreContents) (event : Event) (reply : Reply) (at w : ℕ) → StoresAt c event reply at w → MakesDirty c event reply (page_of at)
stored_dirty c event reply at w (StoresAt.store m has here word) = MakesDirty.store m has (ap page_of here)

-- an allocation that was done is one
pub allocation_event : (c : CoreContents) (event : Event) (reply : Reply) (placement : Placement) (kind : Kind) → IsAllocation c event reply placement kind
    → (slot d n : ℕ) × (event ≡ Mutator slot (Alloc d n kind)) × (reply ≡ Done) × (placement_of c.roots.request_words n ≡ Some placement)
allocation_event c event reply placement kind (IsAllocation.allocation {slot = slot} {d = d} {n = n} is) = (slot, d, n, refl, refl, is)

-- nor is one that was done
pub not_done : (event : Event) → IsFullAlloc event Done → ⊥
not_done event h = other (full_reply event Done h)
  where
    other : Done ≡ Refused Full → ⊥
    other e = cc

-- a call that leaves the store and the cycle as they are
changes_beside : (c : CoreContents) (roots : RootSet) (ls : List Link) (event : Event) (reply : Reply) → (IsFullAlloc event reply → ⊥) → ((p : ℕ) → MakesDirty c event reply p → ⊥) → (Frees event reply → ⊥)
    → IsStep (StandsFor c) event reply (StandsFor (record c { roots = roots; links = ls })) → IsCall c event reply (record c { roots = roots; links = ls })
changes_beside c roots ls event reply not_full not_dirty need steps = record {
  steps = steps;
  phase = refl;
  count = refl;
  reads = refl;
  freed = λ f. absurd (need f);
  needs_full = λ _. refl;
  idle = λ is f there marked. (there, marked);
  carried = refl;
  marks = λ f is m. inl m;
  stays = λ f is m. m;
  came = λ is f there none. absurd (none_some f (sym none ∙ there));
  dirty = λ p h. inl h;
  written = λ p h. absurd (not_dirty p h);
  stays_dirty = λ p h. h;
  current = refl;
  stack = refl;
  fewer = λ p h. h;
  swept = λ p h. inl h;
  forgotten = forgotten_same c (record c { roots = roots; links = ls }) refl refl refl;
  full = λ h. absurd (not_full h);
  cuts = λ placement kind is. inr (record { free = refl; pending = refl });
  stored = λ at w h. absurd (not_dirty (page_of at) (stored_dirty c event reply at w h));
  roots_alone = λ not. (refl, refl);
}

roots_change : (c : CoreContents) (roots : RootSet) (event : Event) (reply : Reply) → (IsFullAlloc event reply → ⊥) → ((p : ℕ) → MakesDirty c event reply p → ⊥) → (Frees event reply → ⊥)
    → IsStep (StandsFor c) event reply (StandsFor (record c { roots = roots })) → IsCall c event reply (record c { roots = roots })
roots_change c roots event reply not_full not_dirty need steps = changes_beside c roots c.links event reply not_full not_dirty need steps

-- one that changes the links
pub links_change : (c : CoreContents) (ls : List Link) (event : Event) (reply : Reply) → (ReachesPages event reply → ⊥)
    → IsStep (StandsFor c) event reply (StandsFor (record c { links = ls })) → IsCall c event reply (record c { links = ls })
links_change c ls event reply apart steps = changes_beside c c.roots ls event reply (λ h. apart (full_reaches event reply h)) (λ p h. apart (dirty_reaches c event reply p h)) (λ f. apart (frees_reaches event reply f)) steps

-- one that doesn't reach the pages
pub quiet : (c : CoreContents) (roots : RootSet) (event : Event) (reply : Reply) → (ReachesPages event reply → ⊥)
    → IsStep (StandsFor c) event reply (StandsFor (record c { roots = roots })) → IsCall c event reply (record c { roots = roots })
quiet c roots event reply apart steps = roots_change c roots event reply (λ h. apart (full_reaches event reply h)) (λ p h. apart (dirty_reaches c event reply p h)) (λ f. apart (frees_reaches event reply f)) steps

-- a step that changes no more than the roots
pub steps_roots : (roots roots' : RootSet) (t : Store) (y : Cycle) {ls : List Link} (event : Event) (reply : Reply) → (ReachesPages event reply → ⊥) → StepsRoots roots event reply roots'
    → IsCall (core_of roots t y ls) event reply (core_of roots' t y ls)
steps_roots roots roots' t y {ls = ls} event reply apart steps = quiet (core_of roots t y ls) roots' event reply apart (λ s h.
    let same : with_roots s roots ≡ s =
    ap (λ ms. record s { mutators = ms; globals = roots.globals; request_words = roots.request_words }) (sym h.mutators)
    ∙ ap (λ gs. record s { globals = gs; request_words = roots.request_words }) (sym h.globals) ∙ ap (λ n. record s { request_words = n }) (sym h.request_words) in (
      with_roots s roots',
      subst (λ (x : Heap). Step x event reply (with_roots s roots')) same (steps s),
      record { mutators = refl; globals = refl; request_words = refl; store = record { pages = h.store.pages; shows = h.store.shows }; links = h.links },
    ))

-- the mutator of a slot is the heap's
pub attached : (roots : RootSet) (t : Store) (y : Cycle) {ls : List Link} (s : Heap) (slot : ℕ) (m : HeapMutator) → StandsFor (core_of roots t y ls) s → HasMutator roots slot m → IsAttached s slot m
attached roots t y {ls = ls} s slot m h at = ap (λ ms. slice_get ms slot) h.mutators ∙ at

-- what is refused makes no page dirty
pub refused_clean : (c : CoreContents) (event : Event) (refusal : Refusal) (p : ℕ) → MakesDirty c event (Refused refusal) p → ⊥
refused_clean c event refusal p h = other (dirty_reply c event (Refused refusal) p h)
  where
    other : Refused refusal ≡ Done → ⊥
    other e = cc

-- a call for a slot that has no mutator
pub refused_vacant : (c : CoreContents) (slot : ℕ) (call : Call) → HasNoMutator c.roots slot → IsCall c (Mutator slot call) (Refused NoSlot) c
refused_vacant c slot call none = roots_change c c.roots (Mutator slot call) (Refused NoSlot) (λ h. other (full_reply (Mutator slot call) (Refused NoSlot) h)) (refused_clean c (Mutator slot call) NoSlot) (λ f. other_done (frees_reply (Mutator slot call) (Refused NoSlot) f)) (λ s h. (s, Calls.vacant (ap (λ ms. slice_get ms slot) h.mutators ∙ none), h))
  where
    other : Refused NoSlot ≡ Refused Full → ⊥
    other e = cc

    other_done : Refused NoSlot ≡ Done → ⊥
    other_done e = cc

-- a call of a mutator that is refused
pub refused : (roots : RootSet) (t : Store) (y : Cycle) {ls : List Link} (slot : ℕ) (m : HeapMutator) (call : Call) (refusal : Refusal) → HasMutator roots slot m → (ReachesPages (Mutator slot call) (Refused refusal) → ⊥)
    → ((s : Heap) → Stores (is_kept t.pending y.marker.marks) t s → Acts s slot m call (Refused refusal) s) → IsCall (core_of roots t y ls) (Mutator slot call) (Refused refusal) (core_of roots t y ls)
refused roots t y {ls = ls} slot m call refusal at apart acts = quiet (core_of roots t y ls) roots (Mutator slot call) (Refused refusal) apart (λ s h. (s, Calls.acts (attached roots t y s slot m h at) (acts s h.store), h))

-- one that is refused by what the heap has that is stood for
pub refused_here : (roots : RootSet) (t : Store) (y : Cycle) {ls : List Link} (slot : ℕ) (m : HeapMutator) (call : Call) (refusal : Refusal) → HasMutator roots slot m → (ReachesPages (Mutator slot call) (Refused refusal) → ⊥)
    → ((s : Heap) → StandsFor (core_of roots t y ls) s → Acts s slot m call (Refused refusal) s) → IsCall (core_of roots t y ls) (Mutator slot call) (Refused refusal) (core_of roots t y ls)
refused_here roots t y {ls = ls} slot m call refusal at apart acts = quiet (core_of roots t y ls) roots (Mutator slot call) (Refused refusal) apart (λ s h. (s, Calls.acts (attached roots t y s slot m h at) (acts s h), h))

-- the roots stand for those of a heap in which a register was set
pub stands_set : (roots roots' : RootSet) (t t' : Store) (y y' : Cycle) {ls : List Link} (s after : Heap) (slot r w : ℕ) (m : HeapMutator) → StandsFor (core_of roots t y ls) s → HasMutator roots slot m → SetsWord roots slot r w roots'
    → after.mutators ≡ set s.mutators slot (Some (with_word m r w)) → after.globals ≡ s.globals → after.request_words ≡ s.request_words → Stores (is_kept t'.pending y'.marker.marks) t' after → AreNamed after.objects ls after.links → StandsFor (core_of roots' t' y' ls) after
stands_set roots roots' t t' y y' {ls = ls} s after slot r w m h at is mutators globals limit stores named = record {
  links = named;
  mutators = mutators ∙ ap (λ ms. set ms slot (Some (with_word m r w))) h.mutators ∙ sym (set_mutators roots roots' slot r w m at is);
  globals = globals ∙ h.globals ∙ sym is.0.globals;
  request_words = limit ∙ h.request_words ∙ sym is.0.request_words;
  store = stores;
}
