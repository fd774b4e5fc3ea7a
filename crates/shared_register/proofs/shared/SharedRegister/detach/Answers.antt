use Rattle.std.proofs.Common.{◌<◌, sym, ap, subst, ◌∙◌, ℕ}
use Rattle.history.specs.Histories.{is_live}
use Rattle.shared_register.specs.Steps.{rank_of}
use Rattle.shared_register.proofs.Chains.{detach_can}
use Rattle.shared_register.proofs.shared.SharedRegister.detach.Goals as goal

pub last-requires-clause-can : goal.last-requires-clause-can
last-requires-clause-can g c =
    let st = c.object-object.ensures.stands in
    let l = c.learn.ensures in
    let slot = ap (λ p. p.slot) l.pass in
    let seen = ap (λ p. p.seen) l.pass ∙ ap (λ x. x.history) (sym l.logged) in
    let live = ap (λ y. is_live rank_of c.learn.new.pass.slot y) (sym seen) ∙ l.agrees.owned.live in
    detach_can c.learn.new.logged.object st.state c.learn.new.logged.history c.learn.new.pass.slot (subst (λ (n : ℕ). n < 16) (sym slot) c.me.invariant) live st.reached st.stood_for
