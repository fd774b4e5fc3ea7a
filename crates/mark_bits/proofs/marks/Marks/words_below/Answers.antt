use Rattle.std.proofs.Common.{sym, ◌∙◌, arith}
use Rattle.mark_bits.proofs.Words.{bit-take, has-bits}
use Rattle.mark_bits.proofs.marks.Marks.words_below.Goals as goal

pub returns-clause-bits : goal.returns-clause-bits
returns-clause-bits c = λ k lt.
    bit-take c.as_words.result.now _ k (omega arith)
    ∙ sym (has-bits c.as_words.result.now c.args.self.now k c.as_words.ensures.bits c.as_words.ensures.size)
