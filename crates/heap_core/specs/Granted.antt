-- An allocation that answers the base.
use Rattle.std.specs.Prelude.{◌≡◌, ℕ, Result, Ok, Err}
use Rattle.words.specs.declared.refusal.Refusal.{Refusal}
use Rattle.heap_spec.specs.declared.reply.Reply.{Reply}
use Rattle.heap_spec.specs.declared.reply.Reply.TheVariants.{Done, Refused}
use Rattle.heap_spec.specs.Heap.{Mutator as HeapMutator}
use Rattle.heap_spec.specs.Steps.{register}
use Rattle.roots.specs.Roots.{RootSet, HasMutator}

-- the reply of a call that is done or refused, whatever it answers where it is done
abbrev pub granted_reply : Result ℕ Refusal → Reply
granted_reply (Ok answer) = Done
granted_reply (Err refusal) = Refused refusal

-- a mutator is attached at the slot, and the word stands in its register
abbrev pub HoldsWord : RootSet → ℕ → ℕ → ℕ → Type 0
HoldsWord roots slot r w = (m : HeapMutator) × HasMutator roots slot m × (register m r ≡ w)
