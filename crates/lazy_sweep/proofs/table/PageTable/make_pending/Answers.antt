use Rattle.std.proofs.Common.{arith}
use Rattle.lazy_sweep.proofs.Pending.{block_of, rows_pending}
use Rattle.lazy_sweep.proofs.table.PageTable.make_pending.Goals as goal

pub returns-clause-rows : goal.returns-clause-rows
returns-clause-rows c =
    let size = c.requires.rows.size in let inside = c.requires.inside in
    let b = block_of _ _ _ c.requires.block in
    rows_pending c.args.self.now _ _ _ c.args.class c.args.kind c.args.page b.0 b.1 b.2 b.3 (omega arith) c.requires.rows c.set.ensures c.leave.ensures c.enter.ensures
