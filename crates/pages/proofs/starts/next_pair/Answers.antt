use Rattle.std.proofs.Common.{sym, ◌∙◌}
use Rattle.pages.proofs.RunStarts.{pass_more}
use Rattle.pages.proofs.starts.next_pair.Goals as goal

pub loop-j-preserved : goal.loop-j-preserved
loop-j-preserved c = pass_more _ _ _ _ _ c.loop-j.invariant c.pair_at.ensures c.pairs_of.ensures (sym c.first_half.ensures ∙ c.if-first_half-ne0.false)
