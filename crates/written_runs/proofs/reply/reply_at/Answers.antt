use Rattle.written_runs.proofs.Replies.{no_reply, no_slot_reply, no_refused_reply}
use Rattle.written_runs.proofs.reply.reply_at.Goals as goal

pub returns-in_default : goal.returns-in_default
returns-in_default c = λ other reply s is. no_slot_reply _ _ _ c.cut.ensures c.if-is_text-2.ensures c.in_default.ensures other reply s is

pub returns-in_default-refusal_at : goal.returns-in_default-refusal_at
returns-in_default-refusal_at c = λ other reply s is. no_refused_reply _ _ _ c.cut.ensures c.if-is_text-3.ensures c.in_default-refusal_at.ensures other reply s is

pub returns-in_default-number : goal.returns-in_default-number
returns-in_default-number c =
    λ other reply s is. no_reply _ _ _ c.cut.ensures c.if-is_text.ensures (λ e. absurd (c.if-is_text-2.ensures e)) (λ e. absurd (c.if-is_text-3.ensures e)) c.in_default-number.ensures other reply s is
