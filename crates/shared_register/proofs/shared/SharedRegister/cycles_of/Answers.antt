use Rattle.std.proofs.Common.{◌%◌, sym, ap, ◌∙◌}
use Rattle.history.specs.Histories.{count, own}
use Rattle.shared_register.specs.Steps.{rank_of}
use Rattle.shared_register.proofs.Chains.{count_own}
use Rattle.shared_register.proofs.shared.SharedRegister.cycles_of.Goals as goal

pub returns-clause-count : goal.returns-clause-count
returns-clause-count g c =
    let f = c.count.ensures in
    let slot = ap (λ p. p.slot) f.pass ∙ c.me.invariant in
    let mine = f.agrees.owned.own_is ∙ ap (λ n. own rank_of n c.count.new.pass.seen) slot in
    f.count ∙ ap (λ n. n % 18446744073709551616) (sym (count_own c.count.new.pass.seen f.agrees.legal) ∙ ap (count rank_of) (sym mine))
