use Rattle.std.proofs.Common.{sym, ap, subst, ◌∙◌}
use Rattle.history.specs.Histories.{Reaches}
use Rattle.heap_spec.specs.SequentialObject.{Opens, StateStep}
use Rattle.heap_history.specs.Passes.{HeapPass, is_marking as marks}
use Rattle.heap_core.specs.CoreContents.{IsCore}
use Rattle.shared.specs.Lending.{IsLent}
use Rattle.shared.proofs.Passing.{phase_is}
use Rattle.shared.proofs.heap.SharedHeap.quiet.Goals as goal

pub returns-clause-gives : goal.returns-clause-gives
returns-clause-gives g c =
    let st = c.object.ensures.stands in
    let l = c.learn.ensures in
    let new = c.learn.new.self in
    let phase = phase_is new.object st.state c.me.inside.pass c.learn.new.pass c.deref_mut-held.result.now.history new.history l.pass (ap (λ x. x.history) l.same) c.me.invariant l.agrees.owned st.reached st.stood_for in
    let seen = ap (λ x. x.history) l.same ∙ sym (ap (λ (p : HeapPass). p.seen) l.pass) in
    let lent : IsLent g.J.Naming.origin c.learn.new.pass.seen c.learn.new.self.object c.quiet-answer.new.self.object = record {
      state = st.state;
      reached = subst (λ h. Reaches (Opens g.J.Naming.origin) StateStep h st.state) seen st.reached;
      stood_for = st.stood_for;
      still = c.quiet-answer.ensures.keeps st.state st.stood_for;
      core = subst IsCore c.object.ensures.object c.laws.ensures;
      core_after = subst IsCore c.object-2.ensures.object c.laws-2.ensures;
    } in
    (c.learn.new.self.object, c.quiet-answer.new.self.object, c.quiet-answer.ensures.gives, phase ∙ ap (λ (p : HeapPass). marks p.mine) c.me.view_is, lent)
