use Rattle.std.proofs.Common.{sym, ap, subst, ◌∙◌, [], ◌∷◌, ◌++◌}
use Rattle.history.specs.Histories.{event}
use Rattle.history.specs.declared.view.Known.{Known}
use Rattle.shared_register.specs.declared.register.Call.{Call}
use Rattle.shared_register.specs.declared.register.Call.TheVariants.{Attach}
use Rattle.shared_register.specs.declared.register.Reply.{Reply}
use Rattle.shared_register.specs.declared.register.Reply.TheVariants.{Slot}
use Rattle.shared_register.specs.LockedCalls.{Begun, IsLegalPass}
use Rattle.shared_register.proofs.Chains.{free_slot_dead}
use Rattle.shared_register.proofs.shared.SharedRegister.attach.Goals as goal

pub first-pass-requires-clause-free : goal.first-pass-requires-clause-free
first-pass-requires-clause-free g c =
    let st = c.object.ensures.stands in
    let logged = c.deref_mut-logged.result.now in
    free_slot_dead logged.object c.object.result.now st.state logged.history c.in_ok-who.who c.object.ensures.object c.in_ok-who.ensures st.reached st.stood_for

pub returns : goal.returns
returns g c =
    let st = c.object.ensures.stands in
    let f = c.first-pass.ensures in
    let who = c.in_ok-who.who in
    let logged = c.deref_mut-logged.result.now in
    let old = logged.history in
    let said = (f.step st.state st.stood_for).1.0 in
    subst (λ (p : Known Call Reply). Begun g.J.Naming.origin p Attach (Slot p.slot)) (sym f.pass) (record {
      before = old;
      spent = free_slot_dead logged.object c.object.result.now st.state old who c.object.ensures.object c.in_ok-who.ensures st.reached st.stood_for;
      seen = f.history ∙ ap (λ r. old ++ event who Attach r ∷ []) said;
      mine = ap (λ r. event who Attach r ∷ []) said;
      fine = subst (IsLegalPass g.J.Naming.origin) f.pass f.agrees;
    })
