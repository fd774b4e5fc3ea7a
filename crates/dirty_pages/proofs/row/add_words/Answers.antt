use Rattle.std.proofs.Common.{◌∙◌, ap, get_or}
use Rattle.std.specs.Int.RustNames.{bit_or}
use Rattle.dirty_pages.proofs.Adding.{ors_step}
use Rattle.dirty_pages.proofs.row.add_words.Goals as goal

pub loop-j-preserved : goal.loop-j-preserved
loop-j-preserved c =
    rw c.put.ensures (ors_step _ _ _ _ _ _ c.requires.size c.loop-j.invariant c.in-Some.ensures (ap (λ a. bit_or a c.at-in-Some.result) c.at.ensures ∙ ap (bit_or (get_or c.loop-j.words c.in-Some.j 0)) c.at-in-Some.ensures))
