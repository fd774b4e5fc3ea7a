-- What a call leaves of its mutator and of the globals, by what it writes.
use Rattle.std.proofs.Common.{◌≡◌, ℕ, List, length, refl, sym, ap, ◌∙◌, subst}
use Rattle.std.specs.Prelude.{Option, Some, None, get_or, slice_get, slice_index, slice_set}
use Rattle.std.proofs.lemmas.Option.{same_Some, none-some, slice_get_within, slice_get-get_or}
use Rattle.std.proofs.lemmas.List.{length-set, get_or-set_same, get_or-set_other}
use Rattle.heap_spec.specs.declared.call.Call.{Call}
use Rattle.heap_spec.specs.declared.call.Call.TheVariants.{Detach}
use Rattle.heap_spec.specs.declared.reply.Reply.{Reply}
use Rattle.heap_spec.specs.Heap.{Heap, Mutator as HeapMutator, IsAttached}
use Rattle.heap_spec.specs.Steps.{Acts, Calls, acts, vacant, register}
use Rattle.heap_spec.specs.Shapes.{written_register, written_global, IsOther}
use Rattle.heap_spec.proofs.Loads.{same_mutator}

-- Registers are as they were, or one of them has another word, which may be written.
pub data HasWritten (old new : List ℕ) : Option ℕ → Type 0 where
  nothing : {r : Option ℕ} → new ≡ old → HasWritten old new r
  a_word : {d : ℕ} (w : ℕ) → new ≡ slice_set old d w → HasWritten old new (Some d)

-- a call after which its slot has a mutator
abbrev pub IsNoDetach : Call → Type 0
IsNoDetach Detach = ⊥
IsNoDetach _ = Unit {0}

-- The mutator of the slot goes, or all stay as they are, or that one alone is another, in no more than the register that the call writes.
pub data LeavesSlot (s : Heap) (slot : ℕ) (m : HeapMutator) (call : Call) (s' : Heap) : Type 0 where
  gone : call ≡ Detach → s'.mutators ≡ slice_set s.mutators slot None → LeavesSlot s slot m call s'
  same : IsNoDetach call → s'.mutators ≡ s.mutators → LeavesSlot s slot m call s'
  other : (k : HeapMutator) → IsNoDetach call → s'.mutators ≡ slice_set s.mutators slot (Some k) → HasWritten m.registers k.registers (written_register call) → LeavesSlot s slot m call s'

pub acts_slot : (s : Heap) (slot : ℕ) (m : HeapMutator) {call : Call} {reply : Reply} {s' : Heap} → Acts s slot m call reply s' → LeavesSlot s slot m call s'
acts_slot s slot m Acts.detached = LeavesSlot.gone refl refl
acts_slot s slot m Acts.set = LeavesSlot.other _ tt refl (HasWritten.a_word _ refl)
acts_slot s slot m Acts.copied = LeavesSlot.other _ tt refl (HasWritten.a_word _ refl)
acts_slot s slot m Acts.added = LeavesSlot.other _ tt refl (HasWritten.a_word _ refl)
acts_slot s slot m Acts.subtracted = LeavesSlot.other _ tt refl (HasWritten.a_word _ refl)
acts_slot s slot m (Acts.pushed few) = LeavesSlot.other _ tt refl (HasWritten.nothing refl)
acts_slot s slot m (Acts.popped rest e) = LeavesSlot.other _ tt refl (HasWritten.a_word _ refl)
acts_slot s slot m (Acts.loaded al reads) = LeavesSlot.other _ tt refl (HasWritten.a_word _ refl)
acts_slot s slot m (Acts.allocated a e room) = LeavesSlot.other _ tt refl (HasWritten.a_word _ refl)
acts_slot s slot m (Acts.based reads) = LeavesSlot.other _ tt refl (HasWritten.a_word _ refl)
acts_slot s slot m Acts.global_got = LeavesSlot.other _ tt refl (HasWritten.a_word _ refl)
acts_slot s slot m _ = LeavesSlot.same tt refl

-- another mutator at a slot that has one
pub now_at : (s s' : Heap) (slot : ℕ) (m k : HeapMutator) → IsAttached s slot m → s'.mutators ≡ slice_set s.mutators slot (Some k) → IsAttached s' slot k
now_at s s' slot m k at goes =
    let lt = slice_get_within s.mutators slot (Some m) at in
    ap (λ l. slice_get l slot) goes
    ∙ (slice_get-get_or (slice_set s.mutators slot (Some k)) slot None (rw (length-set s.mutators slot (Some k)) lt) ∙ ap Some (get_or-set_same s.mutators slot (Some k) None lt))

pub written_size : {old new : List ℕ} {r : Option ℕ} → HasWritten old new r → length new ≡ length old
written_size (HasWritten.nothing e) = ap length e
written_size {old = old} (HasWritten.a_word {d = r} w e) = ap length e ∙ length-set old r w

-- the word of a register that isn't written
pub unwritten : {old new : List ℕ} {r : Option ℕ} → HasWritten old new r → (d : ℕ) → IsOther d r → get_or new d 0 ≡ get_or old d 0
unwritten (HasWritten.nothing e) d ne = ap (λ l. get_or l d 0) e
unwritten {old = old} (HasWritten.a_word {d = r} w e) d ne = ap (λ l. get_or l d 0) e ∙ get_or-set_other old r d w 0 ne

slot_leaves : (s s' : Heap) (slot : ℕ) (m m' : HeapMutator) (call : Call) → IsAttached s slot m → IsAttached s' slot m' → LeavesSlot s slot m call s' → (d : ℕ) → IsOther d (written_register call) → register m' d ≡ register m d
slot_leaves s s' slot m m' call at at' (LeavesSlot.gone is goes) d ne =
    let lt = slice_get_within s.mutators slot (Some m) at in
    let none = ap (λ l. slice_get l slot) goes ∙ (slice_get-get_or (slice_set s.mutators slot None) slot None (rw (length-set s.mutators slot None) lt) ∙ ap Some (get_or-set_same s.mutators slot None None lt)) in
    absurd (none-some m' (same_Some None (Some m') (sym none ∙ at')))
slot_leaves s s' slot m m' call at at' (LeavesSlot.same stays goes) d ne = ap (λ (x : HeapMutator). register x d) (same_mutator s slot m' m (sym (ap (λ l. slice_get l slot) goes) ∙ at') at)
slot_leaves s s' slot m m' call at at' (LeavesSlot.other k stays goes writes) d ne =
    ap (λ (x : HeapMutator). register x d) (same_mutator s' slot m' k at' (now_at s s' slot m k at goes)) ∙ unwritten writes d ne

pub calls_leave_registers : (s : Heap) (slot : ℕ) (call : Call) (reply : Reply) (s' : Heap) → Calls s slot call reply s' → (m m' : HeapMutator) → IsAttached s slot m → IsAttached s' slot m' → (d : ℕ) → IsOther d (written_register call)
    → register m' d ≡ register m d
calls_leave_registers s slot call reply s' (acts {m = k} at' act) m m' at is =
    slot_leaves s s' slot m m' call at is (subst (λ (x : HeapMutator). LeavesSlot s slot x call s') (same_mutator s slot k m at' at) (acts_slot s slot k act))
calls_leave_registers s slot call reply s' (vacant none) m m' at is = absurd (none-some m (same_Some None (Some m) (sym none ∙ at)))

acts_globals : (s : Heap) (slot : ℕ) (m : HeapMutator) {call : Call} {reply : Reply} {s' : Heap} → Acts s slot m call reply s' → (g : ℕ) → IsOther g (written_global call) → slice_index s'.globals g ≡ slice_index s.globals g
acts_globals s slot m (Acts.global_put {g = d} {r = r}) g ne = get_or-set_other s.globals d g (register m r) 0 ne
acts_globals s slot m _ g ne = refl

pub calls_leave_globals : (s : Heap) (slot : ℕ) (call : Call) (reply : Reply) (s' : Heap) → Calls s slot call reply s' → (g : ℕ) → IsOther g (written_global call) → slice_index s'.globals g ≡ slice_index s.globals g
calls_leave_globals s slot call reply s' (acts {m = m} at act) g ne = acts_globals s slot m act g ne
calls_leave_globals s slot call reply s' (vacant none) g ne = refl
