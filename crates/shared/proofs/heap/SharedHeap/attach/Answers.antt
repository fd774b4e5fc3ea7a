use Rattle.heap_history.proofs.Passing.{begun}
use Rattle.shared.proofs.Passing.{vacant_dead}
use Rattle.shared.proofs.heap.SharedHeap.attach.Goals as goal

pub first-pass-requires-clause-free : goal.first-pass-requires-clause-free
first-pass-requires-clause-free g c =
    let st = c.object.ensures.stands in
    let log = c.deref_mut-held.result.now in
    vacant_dead log.object c.object.result.now st.state log.history c.number.result c.in-Some.slot c.number.ensures.range c.number.ensures.value c.object.ensures.object c.in-Some.ensures st.reached st.stood_for

pub returns : goal.returns
returns g c =
    let st = c.object.ensures.stands in
    let f = c.first-pass.ensures in
    let log = c.deref_mut-held.result.now in
    let spent = vacant_dead log.object c.object.result.now st.state log.history c.number.result c.in-Some.slot c.number.ensures.range c.number.ensures.value c.object.ensures.object c.in-Some.ensures st.reached st.stood_for in
    begun _ _ log.history c.first-pass.new.self.history c.number.result c.first-pass.result.1 c.first-pass.result.0 (f.step st.state st.stood_for).1 spent f.history f.pass f.agrees
