use Rattle.std.proofs.Common.{arith}
use Rattle.std.proofs.lemmas.Bool.Decides.{nat_tests}
use Rattle.written_runs.proofs.Digits.{shorter}
use Rattle.written_runs.proofs.Hints.{read_none, no_number, read_more, read_all}
use Rattle.written_runs.proofs.behind.bases_of.Goals as goal

pub loop-rest-init : goal.loop-rest-init
loop-rest-init c = rw c.new-bases.ensures.items (read_none _)

pub loop-rest-preserved : goal.loop-rest-preserved
loop-rest-preserved c = rw c.in_ok-push.ensures.items (read_more _ _ _ _ _ c.loop-rest.invariant (grind (arith, nat_tests)) c.in-Some.ensures)

pub loop-rest-smaller : goal.loop-rest-smaller
loop-rest-smaller c = shorter _ _ _ c.in-Some.ensures

pub returns-in_default : goal.returns-in_default
returns-in_default c = no_number _ _ _ c.loop-rest.invariant (grind (arith, nat_tests)) c.in_default.ensures

pub returns : goal.returns
returns c = read_all _ _ _ c.loop-rest.invariant (grind (arith, nat_tests))
