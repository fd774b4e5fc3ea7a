use Rattle.std.proofs.Common.{◌∙◌, sym, arith}
use Rattle.history.proofs.LendingLemmas.{kept_recalls}
use Rattle.history.proofs.log.Log.recall.Goals as goal

pub split_seat-requires : goal.split_seat-requires
split_seat-requires g c = (c.requires.knower ∙ sym c.args.self.now.named, omega (arith, c.args.self.now.one_word), kept_recalls _ _ _ _)
