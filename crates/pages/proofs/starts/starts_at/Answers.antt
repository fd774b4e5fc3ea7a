use Rattle.std.proofs.Common.{◌∙◌, sym, arith}
use Rattle.pages.proofs.RunStarts.{shrunk_more, starts_all, starts_none}
use Rattle.pages.proofs.starts.starts_at.Goals.{then-loop-have-test+else-first_half-ne0, else-loop-have-test}
use Rattle.pages.proofs.starts.starts_at.Goals as goal

pub loop-have-preserved : goal.loop-have-preserved
loop-have-preserved c =
    let inv = c.loop-have.invariant in let few = c.min-step.ensures in let more = c.loop-have-test.true in
    (omega (arith, inv.0), omega (arith, few, more), shrunk_more _ _ _ _ inv.2 (omega (arith, few)))

pub returns : goal.returns
returns c =
    let inv = c.loop-have.invariant in
    rw c.first_half-2.ensures (elim c.loop-have-test.branch [
      | then-loop-have-test+else-first_half-ne0 w ↦ starts_none _ _ _ _ _ _ c.pair_at-both.ensures inv.2 c.requires.few inv.1 (sym w.first_half.ensures ∙ w.if-first_half-ne0.false)
      | else-loop-have-test w ↦ starts_all _ _ _ _ _ _ c.pair_at-both.ensures inv.2 c.requires.few (omega (arith, w.loop-have-test.false, inv.1))
    ])
