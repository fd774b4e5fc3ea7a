use Rattle.std.proofs.Common.{◌%◌, ◌==◌, false, get_or, sym, ap, ◌∙◌, arith}
use Rattle.std.specs.Int.{bit_at}
use Rattle.words.specs.Bits.{bit}
use Rattle.words.proofs.Rows.{get_or-bits}
use Rattle.words.proofs.granule_row.GranuleRow.word.Goals as goal

pub returns : goal.returns
unfolding bit
returns c k e =
    ap (λ r. get_or r k false) (sym c.self.view_is)
    ∙ get_or-bits c.self.inside.words 256 k false (let lt = c.requires in omega arith)
    ∙ ap (λ i. bit_at (get_or c.self.inside.words i 0) (k % 64) == 1) e
