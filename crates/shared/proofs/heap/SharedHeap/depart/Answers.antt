use Rattle.std.proofs.Common.{◌∙◌, ap, subst}
use Rattle.heap_history.specs.Headline.{Departs}
use Rattle.heap_history.specs.Passes.{HeapPass}
use Rattle.shared.proofs.Passing.{caller_can}
use Rattle.shared.proofs.Departing.{departed}
use Rattle.shared.proofs.heap.SharedHeap.depart.Goals as goal

pub last-past-requires-clause-can : goal.last-past-requires-clause-can
last-past-requires-clause-can g c =
    let st = c.object-object.ensures.stands in
    let l = c.learn.ensures in
    let new = c.learn.new.self in
    caller_can new.object st.state c.me.inside.pass c.learn.new.pass c.deref_mut-held.result.now.history new.history c.me.inside.slot l.pass (ap (λ x. x.history) l.same) c.me.invariant l.agrees.owned st.reached st.stood_for

pub invariant_of-result : goal.invariant_of-result
invariant_of-result g c =
    let st = c.object-object.ensures.stands in
    let l = c.learn.ensures in
    let e = c.last-past.ensures in
    let left = departed g.J.Naming.origin c.me.inside.slot st.state (e.step st.state st.stood_for).0 c.me.inside.pass c.learn.new.pass c.last-past.result.0 c.deref_mut-held.result.now.history c.learn.new.self.history c.last-past.new.self.history c.last-past.result.1
    l.before l.pass (ap (λ x. x.history) l.same) e.history e.past c.me.invariant.slot_is c.me.invariant.range l.agrees (e.step st.state st.stood_for).1 e.recalls in
    record { slot_is = left.slot ∙ c.me.invariant.slot_is; range = c.me.invariant.range; begins = left.fine.begins }

pub returns : goal.returns
returns g c =
    let st = c.object-object.ensures.stands in
    let l = c.learn.ensures in
    let e = c.last-past.ensures in
    subst (λ (p : HeapPass). Departs g.J.Naming.origin p c.last-past.result.0) c.me.view_is
    (departed g.J.Naming.origin c.me.inside.slot st.state (e.step st.state st.stood_for).0 c.me.inside.pass c.learn.new.pass c.last-past.result.0 c.deref_mut-held.result.now.history c.learn.new.self.history c.last-past.new.self.history c.last-past.result.1
    l.before l.pass (ap (λ x. x.history) l.same) e.history e.past c.me.invariant.slot_is c.me.invariant.range l.agrees (e.step st.state st.stood_for).1 e.recalls)
