-- What is left of a mutator.
use Rattle.std.specs.Prelude.{◌≡◌, ℕ, ◌<◌, true}
use Rattle.words.specs.declared.limits.TheConstants.{SLOTS}
use Rattle.heap_history.specs.Passes.{HeapPass, begins_with_attach}

-- What the mutator of the slot had seen when it left: its own events begin with its attach.
pub record IsPastOf (slot : ℕ) (past : HeapPass) : Type 0 where
  pub slot_is : past.slot ≡ slot
  pub range : slot < SLOTS
  pub begins : begins_with_attach past.mine ≡ true
