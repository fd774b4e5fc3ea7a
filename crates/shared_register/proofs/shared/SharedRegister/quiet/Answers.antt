use Rattle.std.proofs.Common.{sym, ap, ◌∙◌}
use Rattle.history.specs.Histories.{own}
use Rattle.shared_register.specs.Steps.{rank_of}
use Rattle.shared_register.proofs.Chains.{phase}
use Rattle.shared_register.proofs.shared.SharedRegister.quiet.Goals as goal

pub returns-clause-gives : goal.returns-clause-gives
returns-clause-gives g c =
    let st = c.object-object.ensures.stands in
    let l = c.learn.ensures in
    let slot = ap (λ p. p.slot) l.pass ∙ c.me.invariant in
    let seen = ap (λ p. p.seen) l.pass ∙ ap (λ x. x.history) (sym l.logged) in
    let mine = ap (λ p. p.mine) (sym c.me.view_is) ∙ (ap (λ p. p.mine) (sym l.pass) ∙ (l.agrees.owned.own_is ∙ (λ i. own rank_of (slot i) (seen i)))) in
    (c.learn.new.logged.object, c.quiet.new.self.object, c.quiet.ensures.gives, phase c.learn.new.logged.object st.state c.learn.new.logged.history c.args.me.now.mine mine st.reached st.stood_for)
