use Rattle.std.proofs.Common.{arith}
use Rattle.written_runs.proofs.Digits.{no_slot}
use Rattle.written_runs.proofs.reply.slot_at.Goals as goal

pub returns-then-n-from : goal.returns-then-n-from
returns-then-n-from c = no_slot _ _ _ c.in-Some.ensures (omega arith)

pub returns-in_default-new : goal.returns-in_default-new
returns-in_default-new c = no_slot _ _ _ c.in-Some.ensures c.in_default-new.ensures
