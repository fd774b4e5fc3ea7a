use Rattle.std.proofs.Common.{◌≡◌, ℕ, take}
use Rattle.std.specs.Prelude.{All}
use Rattle.plain_heap.proofs.paths.place_of.Given as goal

-- so far
abbrev pub invariant-loop-place : goal.invariant-loop-place
invariant-loop-place l = All (λ (i : ℕ). i ≡ l.own → ⊥) (take l.place l.order)
