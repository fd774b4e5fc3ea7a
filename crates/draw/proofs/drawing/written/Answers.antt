use Rattle.std.proofs.Common.{◌∙◌, ap, List, ℕ}
use Rattle.trace_lines.specs.Records.{record_text}
use Rattle.draw.proofs.drawing.written.Goals as goal

pub returns-in-Ok-record_line-clause-drawn : goal.returns-in-Ok-record_line-clause-drawn
returns-in-Ok-record_line-clause-drawn c = record {
  event = c.in-Some.event;
  command = rw c.as_bytes.ensures.value at c.in-Some.ensures;
  reply = c.in-Ok.reply;
  acts = c.in-Ok.ensures.acts;
  noted = c.in-Ok.ensures.line;
  hint = c.hint.result;
  says = c.hint.ensures;
  core = c.core.result;
  now = c.core.ensures;
  changes = c.in-Ok-Some.changes;
  told = rw c.in-Ok-Some.field-0-is at c.in-Ok-Some.ensures;
  whole = c.in-Ok-record_line.ensures ∙ ap (λ (reply : List ℕ). record_text c.args.line.now reply c.in-Ok-Some.changes) (c.as_str.ensures.value ∙ c.in-Ok-shown_reply.ensures);
}
