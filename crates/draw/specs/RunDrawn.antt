-- What is drawn of a line of a run that was written down.
use Rattle.std.specs.Prelude.{◌≡◌, ℕ, Option, Some, None, List, [], ◌∷◌, ◌++◌, codes, String, string_bytes}
use Rattle.std.specs.Option.{option_map}
use Rattle.std.specs.declared.alloc.Global.{Global}
use Rattle.heap_spec.specs.declared.event.Event.{Event}
use Rattle.heap_spec.specs.declared.reply.Reply.{Reply}
use Rattle.plain_heap.specs.declared.wrongs.Wrong.{Wrong}
use Rattle.plain_heap.specs.declared.wrongs.Wrong.TheVariants.{IsMissing, StandsTwice, HasToStay, HasToGo}
use Rattle.pages.specs.Memory.{word_index}
use Rattle.replayer.specs.declared.hint.Hint.{Hint}
use Rattle.written_runs.specs.Written.{IsWritten, answer_of}
use Rattle.trace_lines.specs.declared.record.Objection.{Objection}
use Rattle.trace_lines.specs.declared.record.Record.{Record}
use Rattle.trace_lines.specs.Records.{record_text, refused_text}
use Rattle.tracing.specs.Telling.{TracerContents, IsTold}

-- The line is written of an event, its reply and a hint. The tracer was told these, and no core; and the text is that of
-- the line's command, its reply, and what the tracer says is different.
pub record IsRunDrawn (tracer : TracerContents) (line : List ℕ) (tracer' : TracerContents) (text : List ℕ) : Type 0 where
  pub event : Event
  pub reply : Reply
  pub hint : Hint
  pub is_written : IsWritten line event reply hint
  pub changes : Record
  pub told : IsTold tracer None event reply hint changes tracer'
  pub whole : text ≡ record_text is_written.parts.command (answer_of reply) changes

-- Behind the sentences stands that of the reply which the line had to have, if it is told.
abbrev pub SaysReply : Option Reply → List (String Global) → List (String Global) → Type 0
SaysReply None before after = after ≡ before
SaysReply (Some reply) before after = (sentence : String Global)
    × (after ≡ before ++ (sentence ∷ [])) × (string_bytes sentence ≡ codes "a sequential heap answers " ++ answer_of reply)

-- Behind the sentences stands one more, if something is wrong with an object.
abbrev pub SaysWrong : Option Wrong → List (String Global) → List (String Global) → Type 0
SaysWrong None before after = after ≡ before
SaysWrong (Some wrong) before after = (sentence : String Global) × (after ≡ before ++ (sentence ∷ []))

-- What is said of a line: a sentence of the rule, then that of the reply which the line had to have, if it is told, and then
-- one more, if something is wrong with an object.
pub record AreSentences (reply : Option Reply) (wrong : Option Wrong) (says : List (String Global)) : Type 0 where
  pub rule : String Global
  pub before_wrong : List (String Global)
  pub says_reply : SaysReply reply (rule ∷ []) before_wrong
  pub says_wrong : SaysWrong wrong before_wrong says

-- the base of the object of which something is wrong
abbrev pub base_of : Wrong → ℕ
base_of (IsMissing base) = base
base_of (StandsTwice base) = base
base_of (HasToStay base) = base
base_of (HasToGo base) = base

-- the place of that object
abbrev pub place_about : Wrong → ℕ
place_about w = word_index (base_of w)

-- The text is that of the line, cut at ` => `, with its number, what is said of it, and the place of the object of which
-- something is wrong.
pub record IsRefusalDrawn (number : ℕ) (line : List ℕ) (says : List (String Global)) (wrong : Option Wrong) (text : List ℕ) : Type 0 where
  pub command : List ℕ
  pub answer : List ℕ
  pub is_line : line ≡ command ++ (codes " => " ++ answer)
  pub objection : Objection
  pub numbered : objection.line ≡ number
  pub said : objection.says.items ≡ says
  pub about : objection.about ≡ option_map place_about wrong
  pub whole : text ≡ refused_text command answer objection
