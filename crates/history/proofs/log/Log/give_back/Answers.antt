use Rattle.std.proofs.Common.{◌∙◌, sym, ap, arith}
use Rattle.history.proofs.LendingLemmas.{kept_returns, kept_takes_back}
use Rattle.history.proofs.log.Log.give_back.Goals as goal

pub split_seat-rights-requires : goal.split_seat-rights-requires
split_seat-rights-requires g c = (c.requires.host ∙ sym c.args.self.now.named, omega (arith, c.args.self.now.one_word), kept_returns _ _ _ _)

pub join_seat-requires : goal.join_seat-requires
join_seat-requires g c =
    let s = c.split_seat-rights.ensures in
    (c.requires.owner ∙ sym c.args.self.now.named, s.3 ∙ (c.requires.host ∙ sym c.args.self.now.named), ap (λ m. m.1) s.4, omega (arith, c.args.self.now.one_word), kept_takes_back _ _ _ _ _ _)
