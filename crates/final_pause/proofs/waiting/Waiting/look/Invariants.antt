use Rattle.std.specs.Prelude.{Contains}
use Rattle.final_pause.specs.declared.waiting.Unread.{Unread}
use Rattle.final_pause.proofs.waiting.Waiting.look.Given as goal

abbrev pub invariant-loop-i : goal.invariant-loop-i
invariant-loop-i l = (o : Unread) → Contains l.waiting o → Contains l.fn.self o
