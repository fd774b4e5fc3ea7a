use Rattle.heap_spec.specs.declared.call.Call.TheVariants.{Alloc}
use Rattle.replayer.proofs.Granting.{expects_if, open_if}
use Rattle.replayer.proofs.replayer.Replayer.reply_anywhere_to.Goals as goal

pub returns-in_default : goal.returns-in_default
returns-in_default c = record {
  reply = expects_if _ _ _ (λ slot into words kind is. c.in_default.not-Mutator slot (Alloc into words kind) is) c.reply_to.ensures.reply;
  none = open_if _ _ _ c.reply_to.ensures.none;
  same = c.reply_to.ensures.same;
}

pub returns-in_default-call : goal.returns-in_default-call
returns-in_default-call c = record {
  reply = expects_if _ _ _ (λ slot into words kind is. c.in_default-call.not-Alloc into words kind (cc)) c.reply_to-in_default-call.ensures.reply;
  none = open_if _ _ _ c.reply_to-in_default-call.ensures.none;
  same = c.reply_to-in_default-call.ensures.same;
}
