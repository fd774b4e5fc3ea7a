use Rattle.std.proofs.Common.{◌≡◌, false, sym, ap, subst, ◌∙◌}
use Rattle.words.specs.declared.refusal.Refusal.TheVariants.{WrongPhase, NeedsFull}
use Rattle.heap_spec.specs.declared.event.Event.TheVariants.{BeginPartial}
use Rattle.heap_spec.specs.declared.reply.Reply.{Reply}
use Rattle.heap_spec.specs.declared.reply.Reply.TheVariants.{Done}
use Rattle.heap_spec.specs.SequentialObject.{Opens, StateStep}
use Rattle.history.proofs.Headlines.{extended, looked}
use Rattle.heap_history.specs.Ranks.{rank_of}
use Rattle.heap_history.specs.Passes.{HeapPass, is_marking as marks}
use Rattle.heap_history.specs.Headline.{Extends, Looks, IsRefusedPartial}
use Rattle.shared.proofs.Passing.{phase_is, needs_is}
use Rattle.shared.proofs.heap.SharedHeap.begin_partial.Goals as goal

pub returns-then-is_marking : goal.returns-then-is_marking
returns-then-is_marking g c =
    let st = c.object-core.ensures.stands in
    let l = c.learn.ensures in
    let new = c.learn.new.self in
    let phase = phase_is new.object st.state c.me.inside.pass c.learn.new.pass c.deref_mut-held.result.now.history new.history l.pass (ap (λ x. x.history) l.same) c.me.invariant l.agrees.owned st.reached st.stood_for in
    let was = sym phase ∙ (ap (λ x. x.cycle.is_marking) (sym c.object-core.ensures.object) ∙ (sym c.is_marking.ensures.phase ∙ c.if-is_marking.true)) in
    subst (λ (p : HeapPass). IsRefusedPartial p c.learn.new.pass WrongPhase × Looks g.J.Naming.origin p c.learn.new.pass) c.me.view_is
    (IsRefusedPartial.wrong_phase was, looked rank_of (Opens g.J.Naming.origin) StateStep c.me.inside.pass c.learn.new.pass c.deref_mut-held.result.now.history l.before l.pass l.agrees)

pub returns-then-needs_full : goal.returns-then-needs_full
returns-then-needs_full g c =
    let st = c.object-core.ensures.stands in
    let l = c.learn.ensures in
    let new = c.learn.new.self in
    let phase = phase_is new.object st.state c.me.inside.pass c.learn.new.pass c.deref_mut-held.result.now.history new.history l.pass (ap (λ x. x.history) l.same) c.me.invariant l.agrees.owned st.reached st.stood_for in
    let need = needs_is new.object st.state c.me.inside.pass c.learn.new.pass c.deref_mut-held.result.now.history new.history l.pass (ap (λ x. x.history) l.same) st.reached st.stood_for in
    let was = sym phase ∙ (ap (λ x. x.cycle.is_marking) (sym c.object-core.ensures.object) ∙ (sym c.is_marking.ensures.phase ∙ c.if-is_marking.false)) in
    let needs = sym need ∙ (ap (λ x. x.cycle.needs_full) (sym c.object-core.ensures.object) ∙ (sym c.needs_full.ensures.needs ∙ c.if-needs_full.true)) in
    subst (λ (p : HeapPass). IsRefusedPartial p c.learn.new.pass NeedsFull × Looks g.J.Naming.origin p c.learn.new.pass) c.me.view_is
    (IsRefusedPartial.needs was needs, looked rank_of (Opens g.J.Naming.origin) StateStep c.me.inside.pass c.learn.new.pass c.deref_mut-held.result.now.history l.before l.pass l.agrees)

pub act-requires-clause-can : goal.act-requires-clause-can
act-requires-clause-can g c = (
  ap (λ (p : HeapPass). p.slot) c.learn.ensures.pass ∙ c.me.invariant,
  ap (λ x. x.cycle.is_marking) (sym c.object-core.ensures.object) ∙ (sym c.is_marking.ensures.phase ∙ c.if-is_marking.false),
  ap (λ x. x.cycle.needs_full) (sym c.object-core.ensures.object) ∙ (sym c.needs_full.ensures.needs ∙ c.if-needs_full.false),
)

pub returns : goal.returns
returns g c =
    let st = c.object-core.ensures.stands in
    let l = c.learn.ensures in
    let new = c.learn.new.self in
    let phase = phase_is new.object st.state c.me.inside.pass c.learn.new.pass c.deref_mut-held.result.now.history new.history l.pass (ap (λ x. x.history) l.same) c.me.invariant l.agrees.owned st.reached st.stood_for in
    let was = sym phase ∙ (ap (λ x. x.cycle.is_marking) (sym c.object-core.ensures.object) ∙ (sym c.is_marking.ensures.phase ∙ c.if-is_marking.false)) in
    let said = (c.act.ensures.step st.state st.stood_for).1.happens.2.0 in
    let asked = extended rank_of (Opens g.J.Naming.origin) StateStep c.me.inside.pass c.learn.new.pass c.act.new.pass c.deref_mut-held.result.now.history c.learn.new.self.history c.act.new.self.history BeginPartial c.act.result
    l.before l.pass (ap (λ x. x.history) l.same) c.act.ensures.history c.act.ensures.pass c.act.ensures.agrees in
    subst (λ (p : HeapPass). (marks p.mine ≡ false) × Extends g.J.Naming.origin p BeginPartial Done c.act.new.pass) c.me.view_is
    (was, subst (λ (r : Reply). Extends g.J.Naming.origin c.me.inside.pass BeginPartial r c.act.new.pass) said asked)
