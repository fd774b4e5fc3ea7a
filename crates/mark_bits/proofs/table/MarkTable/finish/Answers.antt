use Rattle.std.proofs.Common.{length, ap, ◌∙◌, arith}
use Rattle.mark_bits.specs.Claims.{has}
use Rattle.mark_bits.proofs.Passing.{copied-gathers, copied-known}
use Rattle.mark_bits.proofs.table.MarkTable.finish.Goals as goal

pub returns-clause-gathered : goal.returns-clause-gathered
returns-clause-gathered c =
    let last = c.close_with-closed.ensures.values.2 in let count = c.close_with-closed.ensures.counts.0 in let told = c.args.self.told in let copy = c.copy_words.ensures in
    copied-gathers _ _ _ last.0 _ _ _ last.1.0 last.1.1 last.2
    (λ k lt. copy.copied k (omega arith)) (λ k past. copy.past k (omega arith) ∙ ap (λ row. has row k) c.requires.same)
    (copy.size ∙ ap length c.requires.same) c.requires.all

pub returns-clause-known : goal.returns-clause-known
returns-clause-known c =
    let last = c.close_with-closed.ensures.values.2 in let count = c.close_with-closed.ensures.counts.0 in let told = c.args.self.told in let copy = c.copy_words.ensures in
    copied-known _ _ _ last.0 _ _ _ last.1.0 last.1.1 last.2
    (λ k lt. copy.copied k (omega arith)) (λ k past. copy.past k (omega arith) ∙ ap (λ row. has row k) c.requires.same)
