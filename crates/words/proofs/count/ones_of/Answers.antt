use Rattle.std.proofs.Common.{◌≡◌, ◌/◌, arith, refl, sym, ap, get_or}
use Rattle.words.proofs.Counts.{word_counted, rest_counted, count_small}
use Rattle.words.proofs.count.ones_of.Goals as goal

pub loop-j-preserved : goal.loop-j-preserved
loop-j-preserved c =
    let whole = c.requires.whole in let from = c.loop-j.auto.j in
    word_counted _ _ _ _ _ c.loop-j.invariant (omega arith) refl (c.type_inv.words c.loop-j.j).fits

pub overflow_add-count : goal.overflow_add-count
overflow_add-count c =
    let whole = c.requires.whole in let from = c.loop-j.auto.j in let few = c.requires.few in let test = c.loop-j-test.true in
    let most = count_small _ _ _ _ (word_counted _ _ _ _ _ c.loop-j.invariant (omega arith) refl (c.type_inv.words c.loop-j.j).fits) in
    record { fits = omega arith }

pub returns : goal.returns
returns c =
    let whole = c.requires.whole in let from = c.loop-j.auto.j in let end = c.loop-j.auto.j-end in let past = c.loop-j-test.false in
    let at : c.loop-j.j ≡ c.args.high / 64 = omega arith in
    rest_counted _ _ _ _ _ _ c.loop-j.invariant (omega arith) at (ap (λ j. get_or c.args.words.now j 0) (sym at))

pub overflow_add-result : goal.overflow_add-result
overflow_add-result c = let most = count_small _ _ _ _ (returns c) in let few = c.requires.few in record { fits = omega arith }
