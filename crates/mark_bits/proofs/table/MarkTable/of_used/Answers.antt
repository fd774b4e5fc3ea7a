use Rattle.std.proofs.Common.{refl, ap, ◌∙◌}
use Rattle.mark_bits.specs.Claims.{has}
use Rattle.mark_bits.proofs.Passing.{opens}
use Rattle.mark_bits.proofs.Words.{has-below}
use Rattle.mark_bits.proofs.table.MarkTable.of_used.Goals as goal

pub of_words-requires : goal.of_words-requires
of_words-requires c =
    let words = c.words_below-words.ensures in
    opens _ _ _ refl (λ k. ap (λ row. has row k) c.of.ensures ∙ has-below _ c.args.marks.now _ k words.size c.requires.none words.bits)
