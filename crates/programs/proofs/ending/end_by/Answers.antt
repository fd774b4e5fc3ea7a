use Rattle.programs.proofs.Told.{told_whole, told_front}
use Rattle.programs.proofs.ending.end_by.Goals as goal

pub returns-in-Ok : goal.returns-in-Ok
returns-in-Ok g c = told_whole c.args.fault c.status-status.result _ _ _ _ c.status-status.ensures c.in-Ok.ensures.ok c.in-Ok.ensures.none

pub returns-in-Err : goal.returns-in-Err
returns-in-Err g c = told_front c.args.fault c.status-status.result _ _ _ _ c.status-status.ensures c.in-Err.ensures.err c.in-Err.ensures.fault
