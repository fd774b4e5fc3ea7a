use Rattle.std.proofs.Common.{refl}
use Rattle.std.proofs.lemmas.Result.{IfOk-from_err, IfErr-weaker}
use Rattle.recording.proofs.Noting.{noted_refused, noted, all_err}
use Rattle.recording.proofs.recorder.Recorder.act.Goals as goal

pub returns-clause-line : goal.returns-clause-line
returns-clause-line c = rw (← c.self.view_is) (noted_refused _ _ _ _ _ c.in-Refused.is refl c.act-reply.ensures.line)

pub returns-in_default : goal.returns-in_default
returns-in_default c = rw (← c.self.view_is) (record {
  acts = rw c.note.ensures.core c.act-reply.ensures.acts;
  line = noted _ _ _ _ _ c.in_default.not-Refused refl c.act-reply.ensures.line c.note.ensures.core c.in_ok-note.ensures.notes;
  made = tt;
})

pub returns-in_err-note : goal.returns-in_err-note
returns-in_err-note c = rw (← c.self.view_is) (record {
  acts = IfOk-from_err c.from_residual.result _ c.from_residual.ensures.0;
  line = IfOk-from_err c.from_residual.result _ c.from_residual.ensures.0;
  made = IfErr-weaker c.from_residual.result (λ error. Unit {0}) _ (λ error u. (c.act-reply.result, rw c.note.ensures.core c.act-reply.ensures.acts, rw c.note.ensures.core c.act-reply.ensures.line)) (all_err c.from_residual.result);
})
