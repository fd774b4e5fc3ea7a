use Rattle.std.proofs.Common.{subst, sym}
use Rattle.final_pause.specs.Serving.{IsServing}
use Rattle.final_pause.specs.Pauses.{pause_view}
use Rattle.final_pause.proofs.Serving.{serves_any}
use Rattle.final_pause.proofs.round.Round.help.Goals as goal

pub help-requires-after_bounds : goal.help-requires-after_bounds
help-requires-after_bounds c κs = let h = c.args.helper.now in
    subst (λ p. IsServing p (record h { left = c.args.most })) (sym c.pause.ensures) (serves_any _ h c.args.most c.requires)
