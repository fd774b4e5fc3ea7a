use Rattle.words.proofs.Scans.{scan_more, scan_found}
use Rattle.words.proofs.scan.first_from.Goals as goal

pub returns-in-Some : goal.returns-in-Some
returns-in-Some c = scan_found _ _ _ _ _ _ c.loop-j-test.true c.loop-j.invariant c.in-Some.ensures

pub loop-j-preserved : goal.loop-j-preserved
loop-j-preserved c = scan_more _ _ _ _ _ c.loop-j.invariant c.in_default.ensures
