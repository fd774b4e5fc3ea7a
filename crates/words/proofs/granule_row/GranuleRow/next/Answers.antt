use Rattle.std.proofs.Common.{length, sym, ap, ◌∙◌, arith}
use Rattle.words.proofs.Rows.{length-bits}
use Rattle.words.proofs.Scans.{first_of_row, none_of_row}
use Rattle.words.proofs.granule_row.GranuleRow.next.Goals as goal

pub returns-then-low : goal.returns-then-low
returns-then-low c k from below =
    let size = ap length (sym c.self.view_is) ∙ length-bits c.self.inside.words 256 in let past = c.if-low.true in absurd (omega (arith, size, past, from, below))

pub returns-then-member : goal.returns-then-member
returns-then-member c = rw (← c.self.view_is) (first_of_row _ _ _ _ c.if-member.true (omega (arith, c.self.told)) c.first_from-member.ensures)

pub returns-else-member : goal.returns-else-member
returns-else-member c = rw (← c.self.view_is) (none_of_row _ _ _ _ c.if-member.false c.first_from-member.ensures)
