use Rattle.std.proofs.Common.{arith}
use Rattle.words.proofs.Scans.{first_of_row, none_of_row}
use Rattle.dirty_pages.proofs.row.SummedRow.next.Goals as goal

pub returns-then-i-self : goal.returns-then-i-self
returns-then-i-self c = rw (← c.self.view_is)
    (first_of_row c.self.inside.words c.self.inside.len c.args.low c.first_bit-i.result c.if-i-self.true (let size = c.self.invariant.0 in omega (arith, size)) c.first_bit-i.ensures)

pub returns-else-i-self : goal.returns-else-i-self
returns-else-i-self c = rw (← c.self.view_is) (none_of_row c.self.inside.words c.self.inside.len c.args.low c.first_bit-i.result c.if-i-self.false c.first_bit-i.ensures)
