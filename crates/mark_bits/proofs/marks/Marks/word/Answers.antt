use Rattle.std.proofs.Common.{◌%◌, ◌∙◌, ◌==◌, get_or, ap}
use Rattle.std.specs.Int.{bit_at}
use Rattle.mark_bits.proofs.Words.{has-bits, bit_is}
use Rattle.mark_bits.proofs.marks.Marks.word.Goals as goal

pub returns : goal.returns
returns c = λ k e.
    has-bits c.as_words.result.now c.args.self.now k c.as_words.ensures.bits c.as_words.ensures.size
    ∙ bit_is c.as_words.result.now k
    ∙ ap (λ i. bit_at (get_or c.as_words.result.now i 0) (k % 64) == 1) e
