use Rattle.std.proofs.Common.{◌∙◌, arith}
use Rattle.pages.proofs.RunStarts.{pair_is}
use Rattle.pages.proofs.starts.pair_at.Goals as goal

pub returns : goal.returns
returns c = pair_is _ _ _ _ c.from-2.ensures (rw c.from-2.ensures (c.type_inv.words c.args.j).fits) (omega (arith, c.word_at.type_inv, c.from.ensures)) (c.from.ensures ∙ c.word_at.ensures)
