use Rattle.std.proofs.Common.{◌∙◌, true, false, refl, sym, ap, subst}
use Rattle.shared_register.specs.declared.register.Call.{Call}
use Rattle.std.specs.Prelude.{◌+◌, ◌%◌, ◌^◌}
use Rattle.shared_register.specs.declared.register.Reply.TheVariants.{Slot, Done, Value}
use Rattle.shared_register.specs.Steps.{State, Steps, Can}
use Rattle.shared_register.proofs.RegisterSteps.{turned, turns, stands_turned}
use Rattle.shared_register.proofs.register.RegisterObject.act.Goals as goal

pub returns-in-Attach : goal.returns-in-Attach
returns-in-Attach c = λ s h.
    let may = subst (λ (k : Call). Can c.args.self.now c.args.who k) c.in-Attach.is c.requires in
    (turned s c.args.who true, subst (λ (k : Call). Steps s c.args.who k (Slot c.args.who) (turned s c.args.who true)) (sym c.in-Attach.is) (refl, may.0, sym (h.attached c.args.who may.0) ∙ may.1, turns s c.args.who true), stands_turned c.args.self.now s c.args.who true may.0 h)

pub returns-in-Detach : goal.returns-in-Detach
returns-in-Detach c = λ s h.
    let may = subst (λ (k : Call). Can c.args.self.now c.args.who k) c.in-Detach.is c.requires in
    (turned s c.args.who false, subst (λ (k : Call). Steps s c.args.who k Done (turned s c.args.who false)) (sym c.in-Detach.is) (refl, may.0, sym (h.attached c.args.who may.0) ∙ may.1, turns s c.args.who false), stands_turned c.args.self.now s c.args.who false may.0 h)

pub returns-in-Set : goal.returns-in-Set
returns-in-Set c = λ s h.
    let may = subst (λ (k : Call). Can c.args.self.now c.args.who k) c.in-Set.is c.requires in
    let t : State = record { attached = s.attached; value = c.in-Set.n; running = s.running } in
    (t, subst (λ (k : Call). Steps s c.args.who k Done t) (sym c.in-Set.is) (refl, may.0, sym (h.attached c.args.who may.0) ∙ may.1, refl), record { slots = h.slots; attached = h.attached; value = refl; running = h.running })

pub returns-in-Begin : goal.returns-in-Begin
returns-in-Begin c = λ s h.
    let may = subst (λ (k : Call). Can c.args.self.now c.args.who k) c.in-Begin.is c.requires in
    let t : State = record { attached = s.attached; value = s.value; running = true } in
    (t, subst (λ (k : Call). Steps s c.args.who k Done t) (sym c.in-Begin.is) (refl, may.0, sym h.running ∙ may.1, refl), record { slots = h.slots; attached = h.attached; value = h.value; running = refl })

pub returns-in-Finish : goal.returns-in-Finish
returns-in-Finish c = λ s h.
    let may = subst (λ (k : Call). Can c.args.self.now c.args.who k) c.in-Finish.is c.requires in
    let t : State = record { attached = s.attached; value = s.value; running = false } in
    (t, subst (λ (k : Call). Steps s c.args.who k Done t) (sym c.in-Finish.is) (refl, may.0, sym h.running ∙ may.1, refl), record { slots = h.slots; attached = h.attached; value = h.value; running = refl })

pub returns-in-Collect : goal.returns-in-Collect
returns-in-Collect c = λ s h.
    let may = subst (λ (k : Call). Can c.args.self.now c.args.who k) c.in-Collect.is c.requires in
    let t : State = record { attached = s.attached; value = s.value; running = false } in
    (t, subst (λ (k : Call). Steps s c.args.who k Done t) (sym c.in-Collect.is) (refl, may, refl), record { slots = h.slots; attached = h.attached; value = h.value; running = refl })

pub returns-in-Add : goal.returns-in-Add
returns-in-Add c = λ s h.
    let may = subst (λ (k : Call). Can c.args.self.now c.args.who k) c.in-Add.is c.requires in
    let t : State = record { attached = s.attached; value = (s.value + c.in-Add.n) % 2 ^ 64; running = s.running } in
    (t, subst (λ (k : Call). Steps s c.args.who k (Value c.args.self.now.value) t) (sym c.in-Add.is) (ap Value h.value, may.0, sym (h.attached c.args.who may.0) ∙ may.1, refl), record { slots = h.slots; attached = h.attached; value = ap (λ v. (v + c.in-Add.n) % 2 ^ 64) h.value; running = h.running })
