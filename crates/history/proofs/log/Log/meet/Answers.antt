use Rattle.std.proofs.Common.{◌∙◌, sym, ap, arith}
use Rattle.history.proofs.LookingLemmas.{kept_meets}
use Rattle.history.proofs.log.Log.meet.Goals as goal

pub load-requires : goal.load-requires
load-requires g c =
    let lent = c.lend.ensures in
    (lent.host_here ∙ sym c.args.self.now.named, omega (arith, c.args.self.now.one_word), kept_meets _ _ _ _ _ (ap (λ m. m.0.holds) lent.host_is ∙ c.a.invariant.holds_it) (ap (λ m. m.0.hosts) lent.host_is ∙ c.b.invariant.holds_it))
