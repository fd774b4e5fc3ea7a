use Rattle.heap_spec.specs.declared.call.Call.TheVariants.{Alloc}
use Rattle.replayer.proofs.Granting.{as_ever, never}
use Rattle.replayer.proofs.replayer.Replayer.step_anywhere.Goals as goal

pub returns-in_default : goal.returns-in_default
returns-in_default c = record {
  yes = λ done. as_ever _ _ _ _ _ _ (λ slot into words kind is. c.in_default.not-Mutator slot (Alloc into words kind) is) (c.step.ensures.yes done);
  no = λ refused. never _ _ _ _ _ (λ slot into words kind is. c.in_default.not-Mutator slot (Alloc into words kind) is) (c.step.ensures.no refused (λ slot into words kind is done. absurd (c.in_default.not-Mutator slot (Alloc into words kind) is)));
  same = c.step.ensures.same;
  origin = c.step.ensures.origin;
}

pub returns-in_default-call : goal.returns-in_default-call
returns-in_default-call c = record {
  yes = λ done. as_ever _ _ _ _ _ _ (λ slot into words kind is. c.in_default-call.not-Alloc into words kind (cc)) (c.step-in_default-call.ensures.yes done);
  no = λ refused. never _ _ _ _ _ (λ slot into words kind is. c.in_default-call.not-Alloc into words kind (cc)) (c.step-in_default-call.ensures.no refused (λ slot into words kind is done. absurd (c.in_default-call.not-Alloc into words kind (cc))));
  same = c.step-in_default-call.ensures.same;
  origin = c.step-in_default-call.ensures.origin;
}
