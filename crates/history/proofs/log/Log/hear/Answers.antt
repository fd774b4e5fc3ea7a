use Rattle.std.proofs.Common.{◌∙◌, sym, ap, arith}
use Rattle.history.proofs.LookingLemmas.{kept_hears}
use Rattle.history.proofs.log.Log.hear.Goals as goal

pub load-requires : goal.load-requires
load-requires g c =
    let told = c.tell.ensures in
    (told.other_here ∙ sym c.args.self.now.named, omega (arith, c.args.self.now.one_word), kept_hears _ _ _ _ _ (ap (λ m. m.0.holds) told.other_is ∙ c.pass.invariant.holds_it))
