-- Which slots have a mutator, before and after a step.
use Rattle.std.proofs.Common.{◌≡◌, ◌≢◌, ℕ, zero, suc, ◌<◌, Bool, true, false, not, List, [], ◌∷◌, length, refl, sym, ap, ◌∙◌, subst, arith, ⊎_elim}
use Rattle.std.specs.Prelude.{Option, Some, None, slice_get, slice_set}
use Rattle.std.proofs.lemmas.Option.{slice_get_within, slice_get-get_or, none-some, same_Some}
use Rattle.std.proofs.lemmas.List.{length-set, get_or-set_same}
use Rattle.std.proofs.lemmas.Bool.{cases_order, true≢false}
use Rattle.history.specs.Histories.{is_last}
use Rattle.heap_spec.specs.declared.call.Call.{Call}
use Rattle.heap_spec.specs.declared.call.Call.TheVariants.{Detach}
use Rattle.heap_spec.specs.declared.event.Event.{Event}
use Rattle.heap_spec.specs.declared.event.Event.TheVariants.{Attach, Mutator, Begin, BeginPartial, Roots, Mark, Retrace, Finish, Sweep, Collect, Number}
use Rattle.heap_spec.specs.declared.reply.Reply.{Reply}
use Rattle.heap_spec.specs.declared.reply.Reply.TheVariants.{Slot}
use Rattle.heap_spec.specs.Heap.{Heap, Mutator as HeapMutator, IsAttached, IsVacant}
use Rattle.heap_spec.specs.Steps.{Attaches, attached, no_slot, Calls, acts, vacant, IsLowestVacant, with_mutator, newcomer}
use Rattle.heap_spec.proofs.Shapes.{IsNoDetach, LeavesSlot, acts_slot}
use Rattle.heap_history.specs.Ranks.{rank_of, rank_of_call}
use Rattle.heap_spec.specs.SequentialObject.{HeapState, heap_of, StateStep}

pub slice_get-set_same : {A : Type 0} (l : List A) (i : ℕ) (x : A) → i < length l → slice_get (slice_set l i x) i ≡ Some x
slice_get-set_same l i x lt = slice_get-get_or (slice_set l i x) i x (rw (length-set l i x) lt) ∙ ap Some (get_or-set_same l i x x lt)

pub slice_get-set_other : {A : Type 0} (l : List A) (i j : ℕ) (x : A) → j ≢ i → slice_get (slice_set l i x) j ≡ slice_get l j
slice_get-set_other [] i j x ne = refl
slice_get-set_other (y ∷ ys) zero zero x ne = absurd (ne refl)
slice_get-set_other (y ∷ ys) zero (suc j) x ne = refl
slice_get-set_other (y ∷ ys) (suc i) zero x ne = refl
slice_get-set_other (y ∷ ys) (suc i) (suc j) x ne = slice_get-set_other ys i j x (λ e. ne (ap suc e))

-- whether there is a mutator
abbrev pub is_some : Option HeapMutator → Bool
is_some None = false
is_some (Some m) = true

abbrev pub is_there : Option (Option HeapMutator) → Bool
is_there None = false
is_there (Some m) = is_some m

abbrev pub is_attached : Heap → ℕ → Bool
is_attached s who = is_there (slice_get s.mutators who)

-- the slot has a mutator afterwards or not, and the others are as before
pub record Leaves (s s' : Heap) (slot : ℕ) (b : Bool) : Type 0 where
  pub there : is_attached s' slot ≡ b
  pub else : (who : ℕ) → who ≢ slot → slice_get s'.mutators who ≡ slice_get s.mutators who

keeps : (s s' : Heap) (slot : ℕ) (m : HeapMutator) → IsAttached s slot m → s'.mutators ≡ s.mutators → Leaves s s' slot true
keeps s s' slot m at e = record { there = ap is_there (ap (λ l. slice_get l slot) e ∙ at); else = λ who ne. ap (λ l. slice_get l who) e }

puts : (s s' : Heap) (slot : ℕ) (x : Option HeapMutator) → slot < length s.mutators → s'.mutators ≡ slice_set s.mutators slot x → Leaves s s' slot (is_some x)
puts s s' slot x lt e = record {
  there = ap is_there (ap (λ l. slice_get l slot) e ∙ slice_get-set_same s.mutators slot x lt);
  else = λ who ne. ap (λ l. slice_get l who) e ∙ slice_get-set_other s.mutators slot who x ne;
}

-- a call that isn't the last leaves the slot its mutator
is_not_last : (call : Call) → IsNoDetach call → not (is_last (rank_of_call call)) ≡ true
is_not_last Detach none = absurd none
is_not_last _ stays = refl

slot_leaves : (s s' : Heap) (slot : ℕ) (m : HeapMutator) (call : Call) → IsAttached s slot m → LeavesSlot s slot m call s' → Leaves s s' slot (not (is_last (rank_of_call call)))
slot_leaves s s' slot m call at (LeavesSlot.gone is goes) =
    subst (λ k. Leaves s s' slot (not (is_last (rank_of_call k)))) (sym is) (puts s s' slot None (slice_get_within s.mutators slot (Some m) at) goes)
slot_leaves s s' slot m call at (LeavesSlot.same stays goes) = subst (Leaves s s' slot) (sym (is_not_last call stays)) (keeps s s' slot m at goes)
slot_leaves s s' slot m call at (LeavesSlot.other k stays goes writes) =
    subst (Leaves s s' slot) (sym (is_not_last call stays)) (puts s s' slot (Some k) (slice_get_within s.mutators slot (Some m) at) goes)

-- a slot is vacant or has a mutator
pub not_both : (s : Heap) (slot : ℕ) (m : HeapMutator) → IsAttached s slot m → IsVacant s slot → ⊥
not_both s slot m at none = none-some m (same_Some None (Some m) (sym none ∙ at))

pub calls_leave : (s : Heap) (slot : ℕ) (m : HeapMutator) (call : Call) → IsAttached s slot m → {reply : Reply} {s' : Heap} → Calls s slot call reply s' → Leaves s s' slot (not (is_last (rank_of_call call)))
calls_leave s slot m call at {s' = s'} (acts {m = k} at' act) = slot_leaves s s' slot k call at' (acts_slot s slot k act)
calls_leave s slot m call at (vacant none) = absurd (not_both s slot m at none)

-- the lowest vacant slot is one
one_lowest : (s : Heap) (a b : ℕ) → IsLowestVacant s a → IsLowestVacant s b → a ≡ b
one_lowest s a b la lb = ⊎_elim (λ e. e) (λ apart. ⊎_elim (λ lt. absurd (lb.1 a lt la.0)) (λ gt. absurd (la.1 b gt lb.0)) apart) (cases_order a b)

-- an attach is granted to the slot that makes it
pub attach_is : (s : Heap) (who : ℕ) → IsLowestVacant s who → {reply : Reply} {s' : Heap} → Attaches s reply s' → (reply ≡ Slot who) × Leaves s s' who true
attach_is s who low (attached {slot = k} lowest) =
    let e = one_lowest s k who lowest low in
    (ap Slot e, subst (λ (n : ℕ). Leaves s (with_mutator s k (Some newcomer)) n true) e (puts s (with_mutator s k (Some newcomer)) k (Some newcomer) (slice_get_within s.mutators k None lowest.0) refl))
attach_is s who low (no_slot none) = absurd (none who low.0)

-- what an event of a slot leaves
event_leaves : (s t : HeapState) (who : ℕ) (event : Event) (reply : Reply) → who < 16 → StateStep s who event reply t → Leaves (heap_of s) (heap_of t) who (not (is_last (rank_of event)))
event_leaves s t who Attach reply lt h = subst (λ (x : HeapState). Leaves (heap_of s) (heap_of x) who true) (sym h.goes) (attach_is (heap_of s) who h.fits.1 h.happens).1
event_leaves s t who (Mutator slot call) reply lt h =
    subst (λ (x : HeapState). Leaves (heap_of s) (heap_of x) who (not (is_last (rank_of_call call)))) (sym h.goes)
    (subst (λ (n : ℕ). Leaves (heap_of s) h.heap n (not (is_last (rank_of_call call)))) (sym h.fits.own)
    (calls_leave (heap_of s) slot h.fits.mutator call (subst (λ (n : ℕ). IsAttached (heap_of s) n h.fits.mutator) h.fits.own h.fits.attached) h.happens))
event_leaves s t who Begin reply lt h = absurd (omega (arith, h.fits))
event_leaves s t who BeginPartial reply lt h = absurd (omega (arith, h.fits))
event_leaves s t who Finish reply lt h = absurd (omega (arith, h.fits))
event_leaves s t who Collect reply lt h = absurd (omega (arith, h.fits))
event_leaves s t who Roots reply lt h = absurd h.fits
event_leaves s t who (Mark n) reply lt h = absurd h.fits
event_leaves s t who Retrace reply lt h = absurd h.fits
event_leaves s t who Sweep reply lt h = absurd h.fits
event_leaves s t who Number reply lt h = absurd h.fits

-- a step by a slot is such an event, or the collector's, which leaves all slots
pub step_mutators : (s t : HeapState) (by who : ℕ) (event : Event) (reply : Reply) → by ≢ who → StateStep s by event reply t → slice_get (heap_of t).mutators who ≡ slice_get (heap_of s).mutators who
step_mutators s t by who Attach reply ne h = (event_leaves s t by Attach reply h.fits.0 h).else who (λ e. ne (sym e))
step_mutators s t by who (Mutator slot call) reply ne h = (event_leaves s t by (Mutator slot call) reply h.fits.range h).else who (λ e. ne (sym e))
step_mutators s t by who Begin reply ne h = ap (λ (x : HeapState). slice_get (heap_of x).mutators who) h.goes ∙ ap (λ (x : Heap). slice_get x.mutators who) h.happens.1.1
step_mutators s t by who BeginPartial reply ne h = ap (λ (x : HeapState). slice_get (heap_of x).mutators who) h.goes ∙ ap (λ (x : Heap). slice_get x.mutators who) h.happens.2.1
step_mutators s t by who Finish reply ne h = ap (λ (x : HeapState). slice_get (heap_of x).mutators who) h.goes ∙ ap (λ (x : Heap). slice_get x.mutators who) h.happens.1.takes.after
step_mutators s t by who Collect reply ne h = ap (λ (x : HeapState). slice_get (heap_of x).mutators who) h.goes ∙ ap (λ (x : Heap). slice_get x.mutators who) h.happens.takes.after
step_mutators s t by who Roots reply ne h = absurd h.fits
step_mutators s t by who (Mark n) reply ne h = absurd h.fits
step_mutators s t by who Retrace reply ne h = absurd h.fits
step_mutators s t by who Sweep reply ne h = absurd h.fits
step_mutators s t by who Number reply ne h = absurd h.fits

pub step_other : (s t : HeapState) (by who : ℕ) (event : Event) (reply : Reply) → by ≢ who → StateStep s by event reply t → is_attached (heap_of t) who ≡ is_attached (heap_of s) who
step_other s t by who event reply ne h = ap is_there (step_mutators s t by who event reply ne h)

pub step_here : (s t : HeapState) (who : ℕ) (event : Event) (reply : Reply) → who < 16 → StateStep s who event reply t → is_attached (heap_of t) who ≡ not (is_last (rank_of event))
step_here s t who event reply lt h = (event_leaves s t who event reply lt h).there

-- what is there where there is a mutator
pub found : (o : Option (Option HeapMutator)) → is_there o ≡ true → (m : HeapMutator) × (o ≡ Some (Some m))
found None e = absurd (true≢false (sym e))
found (Some None) e = absurd (true≢false (sym e))
found (Some (Some m)) e = (m, refl)
