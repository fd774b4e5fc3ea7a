use Rattle.final_pause.specs.Waiting.{IsMoved}
use Rattle.final_pause.proofs.waiting.Waiting.look_ahead.Given as goal

abbrev pub invariant-loop : goal.invariant-loop
invariant-loop l = IsMoved l.fn.self l.self
