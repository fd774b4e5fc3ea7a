use Rattle.std.proofs.Common.{arith}
use Rattle.pages.proofs.Runs.{start_found}
use Rattle.pages.proofs.pool.find_run.Goals as goal

pub returns-in-1 : goal.returns-in-1
returns-in-1 c = rw c.in-1.is c.find_page.ensures

pub returns-in-2-to-64 : goal.returns-in-2-to-64
returns-in-2-to-64 c = start_found _ _ _ _ (let within = c.in-2-to-64 in omega (arith, within)) c.requires.none c.next_start.ensures
