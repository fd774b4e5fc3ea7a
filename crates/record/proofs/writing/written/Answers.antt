use Rattle.record.proofs.writing.written.Goals as goal

pub returns-in-Ok-line_text : goal.returns-in-Ok-line_text
returns-in-Ok-line_text c = record {
  event = c.in-Some.event;
  command = rw c.as_bytes.ensures.value at c.in-Some.ensures;
  reply = c.in-Ok.reply;
  acts = c.in-Ok.ensures.acts;
  noted = c.in-Ok.ensures.line;
  hint = c.hint.result;
  says = c.hint.ensures;
  whole = c.in-Ok-line_text.ensures.text;
}
