-- A call that leaves a register of its mutator.
use Rattle.std.proofs.Common.{◌≡◌, ℕ, length, refl, ◌∙◌, subst, ap}
use Rattle.std.specs.Prelude.{slice_get}
use Rattle.heap_spec.specs.declared.call.Call.{Call}
use Rattle.heap_spec.specs.declared.call.Call.TheVariants.{Detach, Free}
use Rattle.heap_spec.specs.declared.reply.Reply.{Reply}
use Rattle.heap_spec.specs.Heap.{Heap, Mutator as HeapMutator, IsAttached}
use Rattle.heap_spec.specs.Steps.{Calls, acts, vacant, register}
use Rattle.heap_spec.specs.Shapes.{written_register, IsOther}
use Rattle.heap_spec.proofs.Loads.{same_mutator}
use Rattle.heap_spec.proofs.Shapes.{LeavesSlot, acts_slot, now_at, unwritten, written_size}
use Rattle.heap_history.specs.Laws.{LeavesRegister}
use Rattle.heap_history.proofs.Slots.{not_both}

-- the slot's mutator has the register's word still
pub record KeepsWord (s : Heap) (slot : ℕ) (m : HeapMutator) (d : ℕ) : Type 0 where
  pub mutator : HeapMutator
  pub at : IsAttached s slot mutator
  pub word : register mutator d ≡ register m d
  pub size : length mutator.registers ≡ length m.registers

-- a register that a call leaves isn't the one that it writes
leaves_other : (d : ℕ) (call : Call) → LeavesRegister d call → IsOther d (written_register call)
leaves_other d Detach none = tt
leaves_other d (Free r) none = tt
leaves_other d call ne = ne

slot_keeps : (s s' : Heap) (slot : ℕ) (m : HeapMutator) (d : ℕ) (call : Call) → IsAttached s slot m → LeavesRegister d call → LeavesSlot s slot m call s' → KeepsWord s' slot m d
slot_keeps s s' slot m d call at leaves (LeavesSlot.gone is goes) = absurd (subst (LeavesRegister d) is leaves)
slot_keeps s s' slot m d call at leaves (LeavesSlot.same stays goes) = record { mutator = m; at = ap (λ l. slice_get l slot) goes ∙ at; word = refl; size = refl }
slot_keeps s s' slot m d call at leaves (LeavesSlot.other k stays goes writes) = record {
  mutator = k;
  at = now_at s s' slot m k at goes;
  word = unwritten writes d (leaves_other d call leaves);
  size = written_size writes;
}

pub calls_keep : (s : Heap) (slot : ℕ) (m : HeapMutator) (d : ℕ) → IsAttached s slot m → {call : Call} {reply : Reply} {s' : Heap} → Calls s slot call reply s' → LeavesRegister d call → KeepsWord s' slot m d
calls_keep s slot m d at {call = call} {s' = s'} (acts {m = k} at' act) leaves =
    let e = same_mutator s slot k m at' at in
    subst (λ (x : HeapMutator). KeepsWord s' slot x d) e (slot_keeps s s' slot k d call at' leaves (acts_slot s slot k act))
calls_keep s slot m d at (vacant none) leaves = absurd (not_both s slot m at none)
