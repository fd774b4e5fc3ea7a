use Rattle.std.proofs.Common.{arith}
use Rattle.words.proofs.Scans.{clear_from_of_row, full_from_of_row}
use Rattle.words.proofs.bit_row.BitRow.next_clear.Goals as goal

pub returns-then-clear-self : goal.returns-then-clear-self
returns-then-clear-self c =
    let found = rw c.as_slice.ensures.value at c.first_from-clear.ensures in
    rw (← c.self.view_is) (clear_from_of_row _ _ _ _ c.if-clear-self.true (omega arith) found)

pub returns-else-clear-self : goal.returns-else-clear-self
returns-else-clear-self c =
    let found = rw c.as_slice.ensures.value at c.first_from-clear.ensures in
    rw (← c.self.view_is) (full_from_of_row _ _ _ _ c.if-clear-self.false found)
