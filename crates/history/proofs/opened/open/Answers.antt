use Rattle.std.proofs.Common.{refl, arith}
use Rattle.history.specs.Histories.{Legal}
use Rattle.history.proofs.AppendingLemmas.{kept_opens}
use Rattle.history.proofs.LendingLemmas.{kept_lends}
use Rattle.history.proofs.opened.open.Goals as goal

pub of_words-requires : goal.of_words-requires
of_words-requires g c = kept_opens g.O.Object.rank_of (Legal (g.O.Object.opens c.args.origin) g.O.Object.step) (c.requires.0, (c.requires.0, c.requires.1, refl))

pub split_seat-pass-requires : goal.split_seat-pass-requires
split_seat-pass-requires g c = let t = c.in_ok-table.ensures in (t.2, omega (arith, t.0), kept_lends _ _ _ _)
