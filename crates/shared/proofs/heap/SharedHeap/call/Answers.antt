use Rattle.std.proofs.Common.{sym, ap, subst, ℕ}
use Rattle.heap_spec.specs.declared.event.Event.TheVariants.{Mutator}
use Rattle.heap_spec.specs.SequentialObject.{Opens, StateStep}
use Rattle.history.proofs.Headlines.{extended}
use Rattle.heap_history.specs.Ranks.{rank_of}
use Rattle.heap_history.specs.Passes.{HeapPass}
use Rattle.heap_history.specs.Headline.{Extends, Makes}
use Rattle.heap_history.proofs.Telling.{has_slot, answers}
use Rattle.shared.proofs.Passing.{caller_can}
use Rattle.shared.proofs.heap.SharedHeap.call.Goals as goal

pub act-requires-clause-can : goal.act-requires-clause-can
act-requires-clause-can g c =
    let st = c.object-object.ensures.stands in
    let l = c.learn.ensures in
    let new = c.learn.new.self in
    caller_can new.object st.state c.me.inside.pass c.learn.new.pass c.deref_mut-held.result.now.history new.history c.me.inside.slot l.pass (ap (λ x. x.history) l.same) c.me.invariant l.agrees.owned st.reached st.stood_for

pub returns-clause-makes : goal.returns-clause-makes
returns-clause-makes g c =
    let st = c.object-object.ensures.stands in
    let l = c.learn.ensures in
    let step = (c.act.ensures.step st.state st.stood_for).1 in
    let asked = extended rank_of (Opens g.J.Naming.origin) StateStep c.me.inside.pass c.learn.new.pass c.act.new.pass c.deref_mut-held.result.now.history c.learn.new.self.history c.act.new.self.history (Mutator c.me.inside.slot c.args.call) c.act.result
    l.before l.pass (ap (λ x. x.history) l.same) c.act.ensures.history c.act.ensures.pass c.act.ensures.agrees in
    subst (λ (p : HeapPass). Makes g.J.Naming.origin p c.args.call c.act.result c.act.new.pass) c.me.view_is (record {
      extends = subst (λ (n : ℕ). Extends g.J.Naming.origin c.me.inside.pass (Mutator n c.args.call) c.act.result c.act.new.pass) (sym c.me.invariant.slot_is) asked;
      has_slot = has_slot _ _ _ _ c.args.call c.act.result step;
    })

pub returns-clause-answers : goal.returns-clause-answers
returns-clause-answers g c =
    let st = c.object-object.ensures.stands in
    answers _ _ _ _ c.args.call c.act.result (c.act.ensures.step st.state st.stood_for).1
