-- What is drawn of a line of a script.
use Rattle.std.specs.Prelude.{◌≡◌, ℕ, Some, List}
use Rattle.std.specs.Borrow.{Bor}
use Rattle.heap_spec.specs.declared.event.Event.{Event}
use Rattle.heap_spec.specs.declared.reply.Reply.{Reply}
use Rattle.heap_core.specs.CoreContents.{CoreContents}
use Rattle.heap_core.specs.Acts.{IsAct}
use Rattle.replayer.specs.declared.hint.Hint.{Hint}
use Rattle.scripts.specs.Grammar.{IsLineOf, IsBad}
use Rattle.scripts.specs.Printing.{reply_text}
use Rattle.recording.specs.RecorderContents.{RecorderContents}
use Rattle.recording.specs.Noting.{IsHint, IsNoted}
use Rattle.programs.specs.declared.fault.Fault.{Fault}
use Rattle.programs.specs.declared.fault.Fault.TheVariants.{BadLine}
use Rattle.trace_lines.specs.declared.record.Record.{Record}
use Rattle.trace_lines.specs.Records.{record_text}
use Rattle.tracing.specs.Telling.{TracerContents, IsTold}

-- The line is a command, whose call the core made and answered, and what the reply leaves open was noted. The tracer was told it, its
-- reply, what was noted and the core as it is then; and the text is that of the line, the reply as it is printed, and what the tracer
-- says is different.
pub record IsDrawn (pages : ℕ) (heap : RecorderContents) (tracer : TracerContents) (line : List ℕ) (heap' : RecorderContents) (tracer' : TracerContents) (text : List ℕ) : Type 0 where
  pub event : Event
  pub command : IsLineOf line event
  pub reply : Reply
  pub acts : IsAct heap.core event reply heap'.core
  pub noted : IsNoted heap event reply heap'
  pub hint : Hint
  pub says : IsHint heap'.note hint
  pub core : Bor CoreContents
  pub now : core.now ≡ heap'.core
  pub changes : Record
  pub told : IsTold tracer (Some core) event reply hint changes tracer'
  pub whole : text ≡ record_text line (reply_text pages reply) changes

-- The line is bad, which the fault names by this number.
pub record NamesBadLine (number : ℕ) (line : List ℕ) (fault : Fault) : Type 0 where
  pub named : fault ≡ BadLine number
  pub bad : IsBad line
