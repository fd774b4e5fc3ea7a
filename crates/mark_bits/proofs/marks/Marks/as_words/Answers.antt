use Rattle.std.proofs.Common.{◌/◌, length, take, ap, ◌∙◌, arith}
use Rattle.words.specs.Bits.{bits}
use Rattle.mark_bits.proofs.Words.{bits-take}
use Rattle.mark_bits.proofs.marks.Marks.as_words.Goals as goal

pub returns-clause-bits : goal.returns-clause-bits
returns-clause-bits c =
    let whole = c.self.invariant.whole in
    rw (← c.self.view_is)
    (ap (λ n. bits (take (n / 64) c.as_words.result.now) (length c.self.inside.row)) c.len.ensures
    ∙ bits-take _ _ (omega arith) ∙ c.as_words.ensures.bits)
