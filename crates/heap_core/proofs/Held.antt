-- Sound heaps that cores stand for, and a held word in them.
use Rattle.std.proofs.Common.{Result, Ok, Err, ◌≡◌, ◌≢◌, ℕ, ◌<◌, ◌%◌, ◌⊎◌, inl, inr, Bool, List, length, Some, None, refl, sym, ap, ◌∙◌, subst, arith, ⊎_elim, get_or-set_same}
use Rattle.std.specs.Prelude.{slice_get, slice_index, slice_set}
use Rattle.std.proofs.lemmas.Bool.{cases_eq}
use Rattle.std.proofs.lemmas.Option.{none-some, slice_get_within}
use Rattle.std.proofs.lemmas.List.{length-set}
use Rattle.words.specs.declared.refusal.Refusal.{Refusal}
use Rattle.words.specs.declared.refusal.Refusal.TheVariants.{NoSlot, Full}
use Rattle.words.specs.declared.class.Kind.{Kind}
use Rattle.words.specs.declared.class.Kind.TheVariants.{Normal}
use Rattle.words.specs.Placing.{placement_of}
use Rattle.pages.specs.Opening.{IsPageCount}
use Rattle.words.specs.declared.limits.TheConstants.{WORD_BYTES}
use Rattle.heap_spec.specs.declared.call.Call.{Call}
use Rattle.heap_spec.specs.declared.call.Call.TheVariants.{Alloc, Load, Set, Store}
use Rattle.heap_spec.specs.declared.event.Event.{Event}
use Rattle.heap_spec.specs.declared.event.Event.TheVariants.{Attach, Mutator, Begin, BeginPartial, Roots, Mark, Retrace, Finish, Sweep, Collect, Number}
use Rattle.heap_spec.specs.declared.reply.Reply.{Reply}
use Rattle.heap_spec.specs.declared.reply.Reply.TheVariants.{Done, Word, Refused}
use Rattle.heap_spec.specs.Cycles.{TakesOut}
use Rattle.heap_spec.specs.Heap.{Heap, Mutator as HeapMutator, HasObject, IsAttached}
use Rattle.heap_spec.specs.Layout.{index_in}
use Rattle.heap_spec.specs.Ranges.{CallInRange}
use Rattle.heap_spec.specs.Sound.{IsSound}
use Rattle.heap_spec.specs.Steps.{Acts, Attaches, Calls, attached, no_slot, acts, vacant, newcomer, register, address}
use Rattle.heap_spec.proofs.Calls.{attached_is, calls_kept, attaches_kept, takes_out_kept, opening_is}
use Rattle.heap_spec.proofs.Loads.{same_mutator}
use Rattle.heap_spec.proofs.Objects.{object_lies}
use Rattle.heap_history.specs.Laws.{LeavesRegister}
use Rattle.heap_history.proofs.Slots.{slice_get-set_same, slice_get-set_other, not_both, calls_leave as slots_left}
use Rattle.heap_history.proofs.Stored.{set_is}
use Rattle.heap_history.proofs.Held.{held_reached}
use Rattle.heap_history.proofs.Keeping.{KeepsWord, calls_keep}
use Rattle.heap_history.proofs.Loaded.{load_is, calls_leave, attaches_leave, takes_leave}
use Rattle.heap_history.proofs.Owning.{alloc_is}
use Rattle.heap_history.proofs.OwnObjects.{HasOwn, Place, place_is, calls_acts, store_own}
use Rattle.heap_core.specs.Acts.{IsAct}
use Rattle.heap_core.specs.MutatorCalls.{IsCall}
use Rattle.heap_core.specs.Collections.{IsGrantedInPhase, IsGrantedPartial, IsAlwaysGranted}
use Rattle.heap_core.specs.CoreContents.{CoreContents}
use Rattle.heap_core.specs.Held.{IsSoundCore, IsHeldWord, IsHeld, NamesInRange, LeavesHeld}
use Rattle.heap_core.specs.Opening.{IsNew}
use Rattle.heap_core.specs.Standing.{StandsFor}

pub new_sound : (pages : ℕ) (c : CoreContents) → IsPageCount pages → IsNew pages c → IsSoundCore c
new_sound pages c count is = (_, is.stands, opening_is pages count.0 count.1)

-- What an event makes of the heap: nothing, a mutator that came, a call, or objects that were not reached are taken out.
data Moves (s : Heap) (event : Event) (reply : Reply) (s' : Heap) : Type 0 where
  stays : s' ≡ s → Moves s event reply s'
  came : Attaches s reply s' → Moves s event reply s'
  called : (by : ℕ) (call : Call) → event ≡ Mutator by call → Calls s by call reply s' → Moves s event reply s'
  taken : (bases : List ℕ) (count : Reply) → TakesOut s bases count s' → Moves s event reply s'

-- the core stands for a heap to which the event leads
record Led (s : Heap) (event : Event) (reply : Reply) (new : CoreContents) : Type 0 where
  heap : Heap
  stands : StandsFor new heap
  moves : Moves s event reply heap

-- a call that is granted in one phase, or in any
by_phase : {A : Type 0} (phase : Bool) (old new : CoreContents) (r : Result A Refusal) (P : A → Type 0) {Q : Type 0} → IsGrantedInPhase phase old r new P → ((x : A) → P x → Q) → (new ≡ old → Q) → Q
by_phase phase old new (Ok x) P granted some none = some x granted.1
by_phase phase old new (Err why) P granted some none = none granted.2

always : {A : Type 0} (r : Result A Refusal) (P : A → Type 0) {Q : Type 0} → IsAlwaysGranted r P → ((x : A) → P x → Q) → Q
always (Ok x) P granted some = some x granted
always (Err why) P granted some = absurd granted

by_grant : {A P : Type 0} (old new : CoreContents) (r : Result A Refusal) {Q : Type 0} → IsGrantedPartial old r new P → (P → Q) → (new ≡ old → Q) → Q
by_grant old new (Ok x) granted some none = some granted.2
by_grant old new (Err why) granted some none = none granted.1

led : (old new : CoreContents) (event : Event) (reply : Reply) (s : Heap) → StandsFor old s → IsAct old event reply new → Led s event reply new
led old new Attach reply s h act = let step = act.steps s h in record { heap = step.0; stands = step.2; moves = Moves.came step.1 }
led old new (Mutator by call) reply s h act = let step = act.steps s h in record { heap = step.0; stands = step.2; moves = Moves.called by call refl step.1 }
led old new Begin reply s h act = by_phase _ old new act.0 _ act.2 (λ x b. record { heap = s; stands = b.stands s h; moves = Moves.stays refl }) (λ e. record { heap = s; stands = subst (λ (c : CoreContents). StandsFor c s) (sym e) h; moves = Moves.stays refl })
led old new BeginPartial reply s h act = by_grant old new act.0 act.2 (λ b. record { heap = s; stands = b.stands s h; moves = Moves.stays refl }) (λ e. record { heap = s; stands = subst (λ (c : CoreContents). StandsFor c s) (sym e) h; moves = Moves.stays refl })
led old new Roots reply s h act = by_phase _ old new act.0 _ act.2 (λ x b. record { heap = s; stands = b.marks.stands s h; moves = Moves.stays refl }) (λ e. record { heap = s; stands = subst (λ (c : CoreContents). StandsFor c s) (sym e) h; moves = Moves.stays refl })
led old new (Mark n) reply s h act = by_phase _ old new act.0 _ act.2 (λ x b. record { heap = s; stands = b.marks.stands s h; moves = Moves.stays refl }) (λ e. record { heap = s; stands = subst (λ (c : CoreContents). StandsFor c s) (sym e) h; moves = Moves.stays refl })
led old new Retrace reply s h act = by_phase _ old new act.0 _ act.2 (λ x b. record { heap = s; stands = b.marks.stands s h; moves = Moves.stays refl }) (λ e. record { heap = s; stands = subst (λ (c : CoreContents). StandsFor c s) (sym e) h; moves = Moves.stays refl })
led old new Finish reply s h act = by_phase _ old new act.0 _ act.2
    (λ x b. let to = b.forgets s h in record { heap = to.0; stands = to.2; moves = Moves.taken to.1.bases _ to.1.takes })
    (λ e. record { heap = s; stands = subst (λ (c : CoreContents). StandsFor c s) (sym e) h; moves = Moves.stays refl })
led old new Sweep reply s h act = always act.0 _ act.2 (λ x b. record { heap = s; stands = b.stands s h; moves = Moves.stays refl })
led old new Collect reply s h act = always act.0 _ act.2 (λ x b. let to = b.collects s h in record { heap = to.0; stands = to.2; moves = Moves.taken to.1.bases _ to.1.takes })
led old new Number reply s h act = record { heap = s; stands = subst (λ (c : CoreContents). StandsFor c s) (sym act.1) h; moves = Moves.stays refl }

moves_sound : (s s' : Heap) (event : Event) (reply : Reply) → IsSound s → NamesInRange event → Moves s event reply s' → IsSound s'
moves_sound s s' event reply sound range (Moves.stays e) = subst IsSound (sym e) sound
moves_sound s s' event reply sound range (Moves.came attaches) = attaches_kept s sound attaches
moves_sound s s' event reply sound range (Moves.called by call e calls) = calls_kept s by call sound (subst NamesInRange e range) calls
moves_sound s s' event reply sound range (Moves.taken bases count takes) = takes_out_kept s bases count s' sound takes

pub acts_sound : (old new : CoreContents) (event : Event) (reply : Reply) → IsSoundCore old → NamesInRange event → IsAct old event reply new → IsSoundCore new
acts_sound old new event reply is range act = let to = led old new event reply is.0 is.1 act in (to.heap, to.stands, moves_sound is.0 to.heap event reply is.2 range to.moves)

-- the object that is held is the mutator's own
abbrev held_own : (s : Heap) → IsSound s → (slot r k w : ℕ) → (held : IsHeldWord s slot r k w) → HasOwn s held.mutator r (length held.object.words) (λ _. None)
held_own s sound slot r k w held = record {
  object = held.object;
  there = (let size = (attached_is s slot held.mutator sound held.attached).registers.size in let few = held.range in omega (arith, size, few));
  has = held.has;
  kind = held.kind;
  size = omega arith;
  known = λ i v e lt. absurd (none-some v e);
}

-- Where the mutator's register and the object stay, the word is held.
still : (s s' : Heap) (slot r k w : ℕ) → (held : IsHeldWord s slot r k w) → KeepsWord s' slot held.mutator r → HasObject s' (register held.mutator r) held.object → IsHeldWord s' slot r k w
still s s' slot r k w held keeps has = record {
  mutator = keeps.mutator;
  attached = keeps.at;
  range = held.range;
  object = held.object;
  has = ap s'.objects keeps.word ∙ has;
  kind = held.kind;
  within = held.within;
  word = held.word;
}

same_slot : (s : Heap) (slot r : ℕ) (m : HeapMutator) → IsAttached s slot m → KeepsWord s slot m r
same_slot s slot r m at = record { mutator = m; at = at; word = refl; size = refl }

attach_keeps : (s : Heap) (slot r : ℕ) (m : HeapMutator) → IsAttached s slot m → {reply : Reply} {s' : Heap} → Attaches s reply s' → KeepsWord s' slot m r
attach_keeps s slot r m at (attached {slot = k} lowest) = ⊎_elim
    (λ (same : slot ≡ k). absurd (not_both s k m (subst (λ (i : ℕ). IsAttached s i m) same at) lowest.0))
    (λ other. same_slot _ slot r m (slice_get-set_other s.mutators k slot (Some newcomer) other ∙ at))
    (cases_eq slot k)
attach_keeps s slot r m at (no_slot none) = same_slot s slot r m at

other_keeps : (s : Heap) (slot r by : ℕ) (m : HeapMutator) → IsAttached s slot m → slot ≢ by → {call : Call} {reply : Reply} {s' : Heap} → Calls s by call reply s' → KeepsWord s' slot m r
other_keeps s slot r by m at ne {call = call} {s' = s'} (acts {m = k} at' act) = same_slot s' slot r m ((slots_left s by k call at' (acts at' act)).else slot ne ∙ at)
other_keeps s slot r by m at ne (vacant none) = same_slot s slot r m at

call_keeps : (s : Heap) (slot r by : ℕ) (m : HeapMutator) → IsAttached s slot m → {call : Call} {reply : Reply} {s' : Heap} → Calls s by call reply s' → (by ≡ slot → LeavesRegister r call) → KeepsWord s' slot m r
call_keeps s slot r by m at {call = call} {reply = reply} {s' = s'} calls leaves = ⊎_elim
    (λ (same : slot ≡ by). calls_keep s slot m r at (subst (λ (i : ℕ). Calls s i call reply s') (sym same) calls) (leaves (sym same)))
    (λ other. other_keeps s slot r by m at other calls)
    (cases_eq slot by)

moves_held : (s s' : Heap) (event : Event) (reply : Reply) (slot r k w : ℕ) → IsSound s → IsHeldWord s slot r k w → LeavesHeld slot r event → Moves s event reply s' → IsHeldWord s' slot r k w
moves_held s s' event reply slot r k w sound held leaves (Moves.stays e) = subst (λ (x : Heap). IsHeldWord x slot r k w) (sym e) held
moves_held s s' event reply slot r k w sound held leaves (Moves.came attaches) =
    still s s' slot r k w held (attach_keeps s slot r held.mutator held.attached attaches) (attaches_leave s attaches (register held.mutator r) held.object held.has)
moves_held s s' event reply slot r k w sound held leaves (Moves.called by call e calls) =
    let left : LeavesHeld slot r (Mutator by call) = subst (LeavesHeld slot r) e leaves in
    still s s' slot r k w held (call_keeps s slot r by held.mutator held.attached calls left.1) (calls_leave s by sound calls left.0 (register held.mutator r) held.object held.has)
moves_held s s' event reply slot r k w sound held leaves (Moves.taken bases count takes) =
    let own = held_own s sound slot r k w held in
    let reached = held_reached s sound slot held.mutator r (register held.mutator r) held.object held.attached own.there refl held.has in
    still s s' slot r k w held (same_slot s' slot r held.mutator (ap (λ (x : Heap). slice_get x.mutators slot) takes.after ∙ held.attached)) (takes_leave s sound bases count s' takes (register held.mutator r) held.object held.has reached held.kind)

pub held_stays : (old new : CoreContents) (event : Event) (reply : Reply) (slot r k w : ℕ) → IsHeld old slot r k w → NamesInRange event → LeavesHeld slot r event → IsAct old event reply new → IsHeld new slot r k w
held_stays old new event reply slot r k w is range leaves act =
    let to = led old new event reply is.heap is.stands act in record {
      heap = to.heap;
      stands = to.stands;
      sound = moves_sound is.heap to.heap event reply is.sound range to.moves;
      held = moves_held is.heap to.heap event reply slot r k w is.sound is.held leaves to.moves;
    }

pub granted_held : (old new : CoreContents) (slot r n k : ℕ) → IsSoundCore old → CallInRange (Alloc r n Normal) → k < n → IsCall old (Mutator slot (Alloc r n Normal)) Done new → IsHeld new slot r k 0
granted_held old new slot r n k is range lt act =
    let step = act.steps is.0 is.1 in
    let made = alloc_is is.0 slot r n Normal is.2 range.0 step.1 in
    let long = made.owned.size in
    let within : k < length made.owned.object.words = omega (arith, long, lt) in
    record {
      heap = step.0;
      stands = step.2;
      sound = calls_kept is.0 slot (Alloc r n Normal) is.2 range step.1;
      held = record {
        mutator = made.owned.mutator;
        attached = made.owned.at;
        range = range.0;
        object = made.owned.object;
        has = ap step.0.objects made.owned.holds ∙ made.owned.has;
        kind = made.kind_is;
        within = within;
        word = made.zeros k within;
      };
    }

alloc_refused : (s : Heap) (slot r n : ℕ) (kind : Kind) (why : Refusal) → placement_of s.request_words n ≢ None → {s' : Heap} → Calls s slot (Alloc r n kind) (Refused why) s' → (why ≡ NoSlot) ⊎ (why ≡ Full)
alloc_refused s slot r n kind why placed (acts at (Acts.bad_size none)) = absurd (placed none)
alloc_refused s slot r n kind why placed (acts at (Acts.full e none)) = inr refl
alloc_refused s slot r n kind why placed (vacant none) = inl refl

pub few_refused : (old new : CoreContents) (slot r n : ℕ) (kind : Kind) (why : Refusal) → IsSoundCore old → placement_of old.roots.request_words n ≢ None → IsCall old (Mutator slot (Alloc r n kind)) (Refused why) new → (why ≡ NoSlot) ⊎ (why ≡ Full)
few_refused old new slot r n kind why is placed act = alloc_refused is.0 slot r n kind why (λ none. placed (sym (ap (λ limit. placement_of limit n) is.1.request_words) ∙ none)) (act.steps is.0 is.1).1

-- where a held word lies
held_place : (s : Heap) → IsSound s → (slot r k w : ℕ) → (held : IsHeldWord s slot r k w) → (address held.mutator r k % WORD_BYTES ≡ 0) × Place s held.mutator r k held.object
held_place s sound slot r k w held =
    let place = place_is s sound held.mutator r k (length held.object.words) (λ _. None) (held_own s sound slot r k w held) held.within in
    let at = place.address_is in
    let even = (object_lies s sound (register held.mutator r) held.object held.has).aligned in
    (omega (arith, at, even), place)

set_done : (s : Heap) (slot x w : ℕ) (m : HeapMutator) {reply : Reply} {s' : Heap} → Acts s slot m (Set x w) reply s' → reply ≡ Done
set_done s slot x w m Acts.set = refl

pub holders_set : (old new : CoreContents) (reply : Reply) (slot r k v x w : ℕ) → IsHeld old slot r k v → IsCall old (Mutator slot (Set x w)) reply new → reply ≡ Done
holders_set old new reply slot r k v x w is act = set_done is.heap slot x w is.held.mutator (calls_acts is.heap slot is.held.mutator is.held.attached (act.steps is.heap is.stands).1)

store_done : (s : Heap) → IsSound s → (slot r k v x : ℕ) → (held : IsHeldWord s slot r k v) → {reply : Reply} {s' : Heap} → Acts s slot held.mutator (Store r k x) reply s' → reply ≡ Done
store_done s sound slot r k v x held (Acts.stored al reads) = refl
store_done s sound slot r k v x held (Acts.store_misaligned ne) = absurd (ne (held_place s sound slot r k v held).0)
store_done s sound slot r k v x held (Acts.store_nothing al none) = absurd (none (register held.mutator r) held.object (held_place s sound slot r k v held).1.reads)

pub holders_store : (old new : CoreContents) (reply : Reply) (slot r k v x : ℕ) → IsHeld old slot r k v → IsCall old (Mutator slot (Store r k x)) reply new → reply ≡ Done
holders_store old new reply slot r k v x is act = store_done is.heap is.sound slot r k v x is.held (calls_acts is.heap slot is.held.mutator is.held.attached (act.steps is.heap is.stands).1)

-- the register that was set has the word, and the other one what it had
set_held : (s s' : Heap) (slot r k x v w : ℕ) → IsSound s → IsHeldWord s slot r k v → x < 16 → r ≢ x → Calls s slot (Set x w) Done s' → (held : IsHeldWord s' slot r k v) × (register held.mutator x ≡ w)
set_held s s' slot r k x v w sound held few ne calls =
    let m = held.mutator in
    let kept = calls_keep s slot m r held.attached calls ne in
    let after = still s s' slot r k v held kept (calls_leave s slot sound calls tt (register m r) held.object held.has) in
    let is = set_is s slot x w calls in
    let size = (attached_is s slot is.0 sound is.1).registers.size in
    let there : x < length is.0.registers = omega (arith, size, few) in
    let changed : HeapMutator = record is.0 { registers = slice_set is.0.registers x w } in
    let now : IsAttached s' slot changed = ap (λ (y : Heap). slice_get y.mutators slot) is.2 ∙ slice_get-set_same s.mutators slot (Some changed) (slice_get_within s.mutators slot (Some is.0) is.1) in
    (after, ap (λ (y : HeapMutator). register y x) (same_mutator s' slot after.mutator changed after.attached now) ∙ get_or-set_same is.0.registers x w 0 there)

store_held : (s s' : Heap) (slot r k x v w : ℕ) → IsSound s → (held : IsHeldWord s slot r k v) → register held.mutator x ≡ w → Calls s slot (Store r k x) Done s' → IsHeldWord s' slot r k w
store_held s s' slot r k x v w sound held is calls =
    let m = held.mutator in
    let stored = store_own s sound slot r k x m (length held.object.words) (λ _. None) (held_own s sound slot r k v held) held.within (calls_acts s slot m held.attached calls) in
    let long = length-set held.object.words k (register m x) in
    let within = held.within in
    record {
      mutator = m;
      attached = ap (λ l. slice_get l slot) stored.0 ∙ held.attached;
      range = held.range;
      object = record held.object { words = slice_set held.object.words k (register m x) };
      has = stored.1;
      kind = held.kind;
      within = omega (arith, long, within);
      word = get_or-set_same held.object.words k (register m x) 0 within ∙ is;
    }

pub stored_held : (old mid new : CoreContents) (slot r k x v w : ℕ) → IsHeld old slot r k v → CallInRange (Set x w) → CallInRange (Store r k x) → r ≢ x
    → IsCall old (Mutator slot (Set x w)) Done mid → IsCall mid (Mutator slot (Store r k x)) Done new → IsHeld new slot r k w
stored_held old mid new slot r k x v w is range range' ne first second =
    let one = first.steps is.heap is.stands in
    let sound = calls_kept is.heap slot (Set x w) is.sound range one.1 in
    let set = set_held is.heap one.0 slot r k x v w is.sound is.held range.0 ne one.1 in
    let two = second.steps one.0 one.2 in record {
      heap = two.0;
      stands = two.2;
      sound = calls_kept one.0 slot (Store r k x) sound range' two.1;
      held = store_held one.0 two.0 slot r k x v w sound set.0 set.1 two.1;
    }

pub held_loaded : (old new : CoreContents) (reply : Reply) (slot d r k w : ℕ) → IsHeld old slot r k w → IsCall old (Mutator slot (Load d r k)) reply new → reply ≡ Word w
held_loaded old new reply slot d r k w is act =
    let held = is.held in
    let place = held_place is.heap is.sound slot r k w held in
    let at = place.1.address_is in
    let index : index_in (register held.mutator r) (address held.mutator r k) ≡ k = omega (arith, at) in
    load_is is.heap is.sound slot held.mutator r k w (record {
      at = held.attached;
      aligned = place.0;
      base = register held.mutator r;
      object = held.object;
      reads = place.1.reads;
      word = ap (λ i. slice_index held.object.words i) index ∙ held.word;
    }) (act.steps is.heap is.stands).1
