use Rattle.std.proofs.Common.{arith}
use Rattle.plain_heap.proofs.Cells.{whole_cells}
use Rattle.plain_heap.proofs.given_place.is_cell.Goals as goal

pub returns-else-offset-size-eq0-clause-no : goal.returns-else-offset-size-eq0-clause-no
returns-else-offset-size-eq0-clause-no c refused p = c.if-offset-size-eq0.false (whole_cells c.args.page c.args.length c.args.address _ (let is = c.page_start.ensures in let low = c.requires.on.0 in omega arith) p)
