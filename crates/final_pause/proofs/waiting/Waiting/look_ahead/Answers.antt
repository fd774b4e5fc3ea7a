use Rattle.std.proofs.Common.{sym, subst}
use Rattle.final_pause.specs.Waiting.{IsMoved}
use Rattle.final_pause.proofs.Waits.{moved_refl, moved_trans}
use Rattle.final_pause.proofs.waiting.Waiting.look_ahead.Goals as goal

pub loop-init : goal.loop-init
loop-init c = subst (λ l. IsMoved c.args.self.now l) (sym c.look.ensures) (moved_refl c.args.self.now)

pub loop-preserved : goal.loop-preserved
loop-preserved c = moved_trans c.args.self.now c.loop.self c.move_one.new.self c.loop.invariant c.move_one.ensures
