use Rattle.std.proofs.Common.{ℕ, ◌≡◌, ◌<◌, get_or, eqb, false}
use Rattle.scripts.proofs.words_of_line.next_word.Given as goal

-- no space so far
abbrev pub invariant-loop-i : goal.invariant-loop-i
invariant-loop-i l = (k : ℕ) → k < l.i → eqb (get_or l.line k 0) 32 ≡ false
