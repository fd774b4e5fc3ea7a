use Rattle.std.proofs.Common.{[], sym, ◌∙◌}
use Rattle.lazy_sweep.proofs.Swept.{some_more}
use Rattle.lazy_sweep.proofs.table.PageTable.sweep_all.Goals as goal

pub step-requires-clause-pages : goal.step-requires-clause-pages
step-requires-clause-pages c = c.requires.pages ∙ sym (c.loop.invariant.sweeps []).pages

pub loop-preserved : goal.loop-preserved
loop-preserved c = some_more _ _ _ _ c.loop.invariant c.step.ensures.sweeps
