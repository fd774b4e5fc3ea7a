use Rattle.std.proofs.Common.{ℕ, ◌≡◌, ◌<◌, ◌≤◌, ◌+◌, ◌⊎◌, get_or}
use Rattle.plain_heap.proofs.owners.fill.Given as goal

abbrev pub invariant-loop-i : goal.invariant-loop-i
invariant-loop-i l = record {
  filled : (k : ℕ) → l.start ≤ k → k < l.i → get_or l.row k 0 ≡ l.word;
  others : (k : ℕ) → (k < l.start) ⊎ (l.start + l.count ≤ k) → get_or l.row k 0 ≡ get_or l.fn.row k 0;
}
