use Rattle.std.proofs.Common.{◌≡◌, true, false, sym, ap, subst, refl, ◌∙◌}
use Rattle.words.specs.declared.refusal.Refusal.TheVariants.{WrongPhase}
use Rattle.heap_spec.specs.declared.event.Event.TheVariants.{Finish}
use Rattle.heap_spec.specs.declared.reply.Reply.TheVariants.{Count}
use Rattle.heap_spec.specs.SequentialObject.{Opens, StateStep}
use Rattle.history.proofs.Headlines.{extended, looked}
use Rattle.heap_history.specs.Ranks.{rank_of}
use Rattle.heap_history.specs.Passes.{HeapPass, is_marking as marks}
use Rattle.heap_history.specs.Headline.{Looks, IsGrantedByOwnEvents}
use Rattle.shared.proofs.Passing.{phase_is}
use Rattle.shared.proofs.Granting.{is_count, finished}
use Rattle.shared.proofs.heap.SharedHeap.finish_after.Goals as goal

pub returns-then-not-is_marking : goal.returns-then-not-is_marking
returns-then-not-is_marking g c =
    let st = c.object.ensures.stands in
    let l = c.learn.ensures in
    let new = c.learn.new.self in
    let phase = phase_is new.object st.state c.me.inside.pass c.learn.new.pass c.deref_mut-held.result.now.history new.history l.pass (ap (λ x. x.history) l.same) c.me.invariant l.agrees.owned st.reached st.stood_for in
    let was = sym phase ∙ (ap (λ x. x.cycle.is_marking) (sym c.object.ensures.object) ∙ (sym c.is_marking.ensures.phase ∙ c.if-not-is_marking.true)) in
    subst (λ (p : HeapPass). (marks p.mine ≡ false) × (WrongPhase ≡ WrongPhase) × Looks g.J.Naming.origin p c.learn.new.pass) c.me.view_is
    (was, refl, looked rank_of (Opens g.J.Naming.origin) StateStep c.me.inside.pass c.learn.new.pass c.deref_mut-held.result.now.history l.before l.pass l.agrees)

-- after the work the core stands for what it stood for, so it is still marking
pub act-requires-clause-can : goal.act-requires-clause-can
act-requires-clause-can g c =
    let st = c.object.ensures.stands in
    let before : c.learn.new.self.object.cycle.is_marking ≡ true = ap (λ x. x.cycle.is_marking) (sym c.object.ensures.object) ∙ (sym c.is_marking.ensures.phase ∙ c.if-not-is_marking.false) in
    (ap (λ (p : HeapPass). p.slot) c.learn.ensures.pass ∙ c.me.invariant, (c.quiet_by-answer.ensures.keeps st.state st.stood_for).phase ∙ (sym st.stood_for.phase ∙ before))

pub count_result-requires : goal.count_result-requires
count_result-requires g c =
    let st = c.object.ensures.stands in
    is_count c.act.result _ (c.act.ensures.step st.state (c.quiet_by-answer.ensures.keeps st.state st.stood_for)).1.happens.1.takes.number

pub returns : goal.returns
returns g c =
    let st = c.object.ensures.stands in
    let l = c.learn.ensures in
    let new = c.learn.new.self in
    let q = c.quiet_by-answer in
    let phase = phase_is new.object st.state c.me.inside.pass c.learn.new.pass c.deref_mut-held.result.now.history new.history l.pass (ap (λ x. x.history) l.same) c.me.invariant l.agrees.owned st.reached st.stood_for in
    let was = sym phase ∙ (ap (λ x. x.cycle.is_marking) (sym c.object.ensures.object) ∙ (sym c.is_marking.ensures.phase ∙ c.if-not-is_marking.false)) in
    let said = (c.act.ensures.step st.state (q.ensures.keeps st.state st.stood_for)).1.happens.1.takes.number in
    let asked = extended rank_of (Opens g.J.Naming.origin) StateStep c.me.inside.pass c.learn.new.pass c.act.new.pass c.deref_mut-held.result.now.history q.new.self.history c.act.new.self.history Finish c.act.result
    l.before l.pass (q.ensures.history ∙ ap (λ x. x.history) l.same) c.act.ensures.history c.act.ensures.pass c.act.ensures.agrees in
    subst (λ (p : HeapPass). IsGrantedByOwnEvents true g.J.Naming.origin p Finish Count c.count_result.result c.act.new.pass) c.me.view_is
    (finished g.J.Naming.origin c.me.inside.pass c.act.new.pass c.count_result.result c.act.result _ c.count_result.ensures said was asked)
