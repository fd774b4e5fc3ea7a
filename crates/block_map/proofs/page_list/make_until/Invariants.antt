use Rattle.std.proofs.Common.{ℕ, ◌+◌, ◌-◌, ◌<◌, ◌≤◌, length, map, vec_capacity, vec_len}
use Rattle.block_map.specs.Shown.{shown, IsSameStates}
use Rattle.block_map.proofs.page_list.make_until.Given as goal

abbrev pub invariant-loop-made : goal.invariant-loop-made
invariant-loop-made l = (l.page < vec_capacity l.made) × (vec_capacity l.initial.made ≤ vec_capacity l.made) × ((n : ℕ) → length l.initial.made.items ≤ n → l.page < n → length l.made.items ≤ n) × IsSameStates (map shown l.initial.made.items) (map shown l.made.items)

abbrev pub decreases-loop-made : goal.decreases-loop-made
decreases-loop-made l = l.page + 1 - vec_len l.made
