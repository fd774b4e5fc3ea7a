use Rattle.std.proofs.Common.{◌≡◌, ℕ, ◌-◌, ◌≤◌, length, get_or, take}
use Rattle.heap_core.specs.Many.{Grants}
use Rattle.heap_core.proofs.heap.Core.alloc_many.Given as goal

-- so far all were granted
abbrev pub invariant-loop-done : goal.invariant-loop-done
invariant-loop-done l = record {
  size : length l.bases ≡ length l.initial.bases;
  few : l.done ≤ length l.bases;
  count : l.count ≡ l.done;
  rest : (k : ℕ) → l.done ≤ k → get_or l.bases k 0 ≡ get_or l.initial.bases k 0;
  granted : Grants l.slot l.request.into l.request.words l.request.kind l.initial.self (take l.done l.bases) l.self;
}

abbrev pub decreases-loop-done : goal.decreases-loop-done
decreases-loop-done l = length l.initial.bases - l.done
