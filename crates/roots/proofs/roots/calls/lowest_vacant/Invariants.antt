use Rattle.std.proofs.Common.{◌≡◌, ℕ, ◌<◌}
use Rattle.std.specs.Prelude.{slice_get, Some, None}
use Rattle.roots.proofs.roots.calls.lowest_vacant.Given as goal

-- each slot so far has a mutator
abbrev pub invariant-loop-number : goal.invariant-loop-number
invariant-loop-number l = (k : ℕ) → k < l.number → slice_get l.mutators k ≡ Some None → ⊥
