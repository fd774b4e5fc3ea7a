use Rattle.std.proofs.Common.{arith}
use Rattle.heap_core.specs.Acts.{AreActs}
use Rattle.heap_core.proofs.Acting.{acts_lines, run_more, run_all}
use Rattle.heap_core.proofs.heap.Core.run.Goals as goal

pub loop-i-init : goal.loop-i-init
loop-i-init c = AreActs.none

pub loop-i-preserved : goal.loop-i-preserved
loop-i-preserved c = run_more _ _ _ _ _ _ _ _ (omega arith) (omega arith) c.index-events-i.is c.loop-i.invariant c.act.ensures.acts c.laws-in-loop-i.ensures

pub returns-clause-acts : goal.returns-clause-acts
returns-clause-acts c = run_all _ _ _ _ c.loop-i.i (omega arith) (omega arith) c.loop-i.invariant

pub returns-clause-lines : goal.returns-clause-lines
returns-clause-lines c = acts_lines _ c.laws.ensures.lawful (run_all _ _ _ _ c.loop-i.i (omega arith) (omega arith) c.loop-i.invariant)
