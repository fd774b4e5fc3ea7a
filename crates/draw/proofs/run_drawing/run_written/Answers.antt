use Rattle.std.proofs.Common.{◌∙◌, ap, List, ℕ}
use Rattle.trace_lines.specs.Records.{record_text}
use Rattle.written_runs.specs.Written.{answer_of}
use Rattle.written_runs.specs.declared.places.Places.TheVariants.{Classes}
use Rattle.draw.proofs.Traces.{read_written}
use Rattle.draw.proofs.run_drawing.run_written.Goals as goal

pub returns-in-Ok-record_line : goal.returns-in-Ok-record_line
returns-in-Ok-record_line c =
    let w = read_written c.args.line.now c.in-Some.read c.hint.result.0 c.hint.result.1 c.in-Ok-from_utf8.asked.now c.in-Ok-from_utf8.ensures.cases.0 (rw (← c.as_bytes.ensures.value) (rw c.in-Some.is at c.in-Ok.ensures)) (c.hint.ensures Classes) in
    record {
      event = c.in-Some.read.event;
      reply = c.in-Some.read.reply;
      hint = c.hint.result.0;
      is_written = w.0;
      changes = c.in-Ok-Some.changes;
      told = rw c.in-Ok-Some.field-0-is at c.in-Ok-Some.ensures;
      whole = c.in-Ok-record_line.ensures
          ∙ ap (λ (said : List ℕ). record_text c.in-Ok-from_utf8.asked.now said c.in-Ok-Some.changes) (c.as_str.ensures.value ∙ c.in-Ok-reply_text.ensures)
          ∙ ap (λ (asked : List ℕ). record_text asked (answer_of c.in-Some.read.reply) c.in-Ok-Some.changes) w.1;
    }
