-- How a run goes on by a line, by where its objects may lie.
use Rattle.std.specs.Prelude.{◌≡◌, ◌⊎◌, List, ℕ, Bool, Option, Some, None}
use Rattle.heap_spec.specs.declared.event.Event.{Event}
use Rattle.heap_spec.specs.declared.reply.Reply.{Reply}
use Rattle.heap_spec.specs.Runs.{Start, Run, is_marking}
use Rattle.replayer.specs.Replays.{IsReplay}
use Rattle.replayer.specs.Anywhere.{IsReplayAnywhere, IsTheReplyAnywhere, MayBeOpenAnywhere}
use Rattle.replayer.specs.Expecting.{IsTheReply, MayBeOpen}
use Rattle.written_runs.specs.declared.places.Places.{Places}
use Rattle.written_runs.specs.declared.places.Places.TheVariants.{Classes, Any}
use Rattle.written_runs.specs.declared.step.Step.{Step}
use Rattle.written_runs.specs.Written.{IsWritten, IsWrittenSized}

-- the line is written of a step
abbrev pub IsStepLine : Places → List ℕ → Step → Type 0
IsStepLine Classes line step = IsWritten line step.event step.reply step.hint
IsStepLine (Any from) line step = IsWrittenSized line step.event step.reply step.hint step.words

-- the run goes on by a step to the next run
abbrev pub GoesBy : Places → Start → Run → Step → Run → Type 0
GoesBy Classes start run step next = IsReplay step.hint start run step.event step.reply next
GoesBy (Any from) start run step next = IsReplayAnywhere from step.hint step.words start run step.event step.reply next

-- A line takes a run on to the next: it is written of a step by which the run goes on to it.
pub record TakesOn (places : Places) (start : Start) (run : Run) (line : List ℕ) (next : Run) : Type 0 where
  pub step : Step
  pub is_written : IsStepLine places line step
  pub goes : GoesBy places start run step next

-- the line is written of nothing
abbrev pub IsUnwritten : Places → List ℕ → Type 0
IsUnwritten places line = (step : Step) → IsStepLine places line step → ⊥

-- the run goes on by the event with this reply alone
abbrev pub IsOnlyReply : Places → Start → Run → Event → Reply → Type 0
IsOnlyReply Classes start run event reply = IsTheReply start run event reply
IsOnlyReply (Any from) start run event reply = IsTheReplyAnywhere from start run event reply

-- the reply to the event may be open
abbrev pub IsOpen : Places → Bool → Event → Type 0
IsOpen Classes marking event = MayBeOpen marking event
IsOpen (Any from) marking event = MayBeOpenAnywhere marking event

-- The reply that a step had to have, in the place of its own, is the one by which the run goes on alone. None is told only where
-- this is the step's own, or may be open.
abbrev pub IsReplyTold : Places → Start → Run → Step → Option Reply → Type 0
IsReplyTold places start run step None = IsOnlyReply places start run step.event step.reply ⊎ IsOpen places (is_marking start run) step.event
IsReplyTold places start run step (Some reply) = (reply ≡ step.reply → ⊥) × IsOnlyReply places start run step.event reply
