use Rattle.std.proofs.Common.{refl, sym, subst, arith}
use Rattle.words.specs.Classes.{IsSizeClass}
use Rattle.lazy_sweep.proofs.Pending.{rows_full, rows_swept}
use Rattle.lazy_sweep.proofs.table.PageTable.settle.Goals as goal

pub returns-then-not-full-clause-rows : goal.returns-then-not-full-clause-rows
returns-then-not-full-clause-rows c =
    let size = c.requires.rows.size in let inside = c.requires.inside in
    rows_swept c.args.self.now _ _ _ _ _ c.args.page c.in-Some.block.now c.in-Some.ensures c.class-class.ensures.class c.kind-kind.ensures (omega arith) c.requires.rows c.clear.ensures c.enter.ensures c.leave.ensures (rw c.if-not-full.true at c.is_full-full.ensures)

pub returns-else-not-full-clause-rows : goal.returns-else-not-full-clause-rows
returns-else-not-full-clause-rows c =
    let size = c.requires.rows.size in let inside = c.requires.inside in
    rows_full c.args.self.now _ _ _ _ _ c.args.page c.in-Some.block.now c.in-Some.ensures c.class-class.ensures.class c.kind-kind.ensures (omega arith) c.requires.rows refl c.clear.ensures c.leave.ensures
    (subst IsSizeClass (sym c.class-class.ensures.class) c.class-class.ensures.cells.class) (rw c.if-not-full.false at c.is_full-full.ensures)
