use Rattle.std.proofs.Common.{sym, ◌∙◌}
use Rattle.lazy_sweep.proofs.FreePages.{sweeps_unmarked}
use Rattle.lazy_sweep.proofs.table.PageTable.sweep_page.Goals as goal

pub returns-then-marks_on-eq0-clause-sweeps : goal.returns-then-marks_on-eq0-clause-sweeps
returns-then-marks_on-eq0-clause-sweeps c = record {
  sweeps = λ words. sweeps_unmarked _ _ _ _ c.laws.ensures.laid c.laws.ensures.lawful (sym c.marks_on.ensures ∙ c.if-marks_on-eq0.true) (c.free_page.ensures.sweeps words);
  sound = c.free_page.ensures.sound;
  lists = c.free_page.ensures.lists;
}
