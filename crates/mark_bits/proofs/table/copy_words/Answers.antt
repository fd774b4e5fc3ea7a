use Rattle.std.proofs.Common.{◌≡◌, ◌≢◌, ◌/◌, arith, ◌∙◌, ⊎_elim}
use Rattle.std.proofs.lemmas.Bool.{cases_eq}
use Rattle.mark_bits.proofs.Words.{bit_of_word}
use Rattle.mark_bits.proofs.table.copy_words.Goals as goal

pub loop-j-preserved : goal.loop-j-preserved
loop-j-preserved c =
    let i = c.loop-j.invariant in let put = c.set_word.ensures in (
      put.size ∙ i.0,
      (λ k lt. ⊎_elim
          (λ (e : k / 64 ≡ c.loop-j.j). put.inside k e ∙ bit_of_word _ k _ _ e c.word.ensures)
          (λ ne. put.others k ne ∙ i.1 k (omega arith))
          (cases_eq (k / 64) c.loop-j.j)),
      (λ k past. let ne : k / 64 ≢ c.loop-j.j = omega arith in put.others k ne ∙ i.2 k (omega arith)),
    )
