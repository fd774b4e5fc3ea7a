use Rattle.std.proofs.Common.{◌≡◌, sym, ap, ◌∙◌, true≢false, rules}
use Rattle.history.specs.Histories.{own}
use Rattle.shared_register.specs.declared.register.Call.TheVariants.{Finish}
use Rattle.shared_register.specs.declared.register.Reply.TheVariants.{Done}
use Rattle.shared_register.specs.Steps.{rank_of}
use Rattle.shared_register.specs.LockedCalls.{Extends}
use Rattle.shared_register.proofs.Chains.{phase}
use Rattle.shared_register.proofs.shared.SharedRegister.finish.Goals as goal

pub returns-then-not-object-clause-granted : goal.returns-then-not-object-clause-granted
returns-then-not-object-clause-granted g c =
    let st = c.object.ensures.stands in
    let l = c.learn.ensures in
    let slot = ap (λ p. p.slot) l.pass ∙ c.me.invariant in
    let seen = ap (λ p. p.seen) l.pass ∙ ap (λ x. x.history) (sym l.logged) in
    let mine = ap (λ p. p.mine) (sym c.me.view_is) ∙ (ap (λ p. p.mine) (sym l.pass) ∙ (l.agrees.owned.own_is ∙ (λ i. own rank_of (slot i) (seen i)))) in
    let is = phase c.learn.new.logged.object st.state c.learn.new.logged.history c.args.me.now.mine mine st.reached st.stood_for in
    sym (sym is ∙ (ap (λ x. x.running) (sym c.object.ensures.object) ∙ c.if-not-object.true))

pub returns-clause-granted : goal.returns-clause-granted
returns-clause-granted g c =
    let st = c.object.ensures.stands in
    let l = c.learn.ensures in
    let slot = ap (λ p. p.slot) l.pass ∙ c.me.invariant in
    let seen = ap (λ p. p.seen) l.pass ∙ ap (λ x. x.history) (sym l.logged) in
    let mine = ap (λ p. p.mine) (sym c.me.view_is) ∙ (ap (λ p. p.mine) (sym l.pass) ∙ (l.agrees.owned.own_is ∙ (λ i. own rank_of (slot i) (seen i)))) in
    let is = phase c.learn.new.logged.object st.state c.learn.new.logged.history c.args.me.now.mine mine st.reached st.stood_for in
    sym (sym is ∙ (ap (λ x. x.running) (sym c.object.ensures.object) ∙ c.if-not-object.false))

pub returns-clause-call : goal.returns-clause-call
returns-clause-call g c =
    let st = c.object.ensures.stands in
    let said : c.act.result ≡ Done = (c.act.ensures.step st.state st.stood_for).1.0 in
    let by_reply : Extends g.J.Naming.origin c.args.me.now Finish c.act.result c.act.new.pass = search rules in
    (λ _. rw (← said) by_reply, λ e. absurd (true≢false e))
