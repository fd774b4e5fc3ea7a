use Rattle.std.proofs.Common.{◌≡◌, ℕ, ◌/◌, ◌<◌, ◌≤◌, length}
use Rattle.std.specs.Slots.{slots_items}
use Rattle.words.specs.Bits.{bit}
use Rattle.mark_bits.specs.Claims.{has}
use Rattle.mark_bits.proofs.table.copy_words.Given as goal

-- the words below j are in place, and from there on the marks are as they were
abbrev pub invariant-loop-j : goal.invariant-loop-j
invariant-loop-j l = (length l.marks ≡ length l.initial.marks) × ((k : ℕ) → k / 64 < l.j → has l.marks k ≡ bit (slots_items l.closed.words) k)
    × ((k : ℕ) → l.j ≤ k / 64 → has l.marks k ≡ has l.initial.marks k)
