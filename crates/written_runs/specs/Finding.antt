-- What a replayer finds of a line, which is so in each run that it follows.
use Rattle.std.specs.Prelude.{◌≡◌, ◌⊎◌, ℕ, Bool, true, false, Option, Some, None, List}
use Rattle.std.specs.Global.{Vec}
use Rattle.heap_spec.specs.declared.event.Event.{Event}
use Rattle.heap_spec.specs.declared.reply.Reply.{Reply}
use Rattle.heap_spec.specs.Runs.{Start, Run, heap_after}
use Rattle.replayer.specs.ReplayerContents.{ReplayerContents, Follows}
use Rattle.replayer.specs.Wrongs.{TellsWrong}
use Rattle.plain_heap.specs.declared.keepers.Keeper.{Keeper}
use Rattle.plain_heap.specs.declared.wrongs.Wrong.{Wrong}
use Rattle.plain_heap.specs.declared.paths.PathStep.{PathStep}
use Rattle.written_runs.specs.declared.places.Places.{Places}
use Rattle.written_runs.specs.declared.rules.Rule.{Rule}
use Rattle.written_runs.specs.declared.step.Step.{Step}
use Rattle.written_runs.specs.declared.verdict.Explained.{Explained}
use Rattle.written_runs.specs.declared.verdict.Verdict.{Verdict}
use Rattle.written_runs.specs.declared.verdict.Verdict.TheVariants.{Legal, NoLines, Bad, Breaks}
use Rattle.written_runs.specs.Judging.{IsWayTo, IsWhy}
use Rattle.written_runs.specs.Rules.{rule_of}
use Rattle.written_runs.specs.Steps.{GoesBy, IsOnlyReply, IsOpen, IsStepLine, IsUnwritten}
use Rattle.written_runs.specs.Told.{is_comment}

-- From each run that the replayer followed a step goes on, to one that it follows.
abbrev pub IsStepped : Places → ReplayerContents → Step → ReplayerContents → Type 0
IsStepped places old step new = (start : Start) (run : Run) → Follows old start run → (next : Run) × GoesBy places start run step next × Follows new start next

-- from no run that the replayer follows it goes on
abbrev pub IsNoStep : Places → ReplayerContents → Step → Type 0
IsNoStep places r step = (start : Start) (run next : Run) → Follows r start run → GoesBy places start run step next → ⊥

-- each run that the replayer follows goes on by the event with this reply alone
abbrev pub IsOnlyReplyTo : Places → ReplayerContents → Event → Reply → Type 0
IsOnlyReplyTo places r event reply = (start : Start) (run : Run) → Follows r start run → IsOnlyReply places start run event reply

-- The reply that a step had to have in each run that a replayer follows. None is told only where this is the step's own, or may be open.
abbrev pub TellsReply : Places → ReplayerContents → Step → Option Reply → Type 0
TellsReply places r step None = IsOnlyReplyTo places r step.event step.reply ⊎ IsOpen places r.marking step.event
TellsReply places r step (Some reply) = (reply ≡ step.reply → ⊥) × IsOnlyReplyTo places r step.event reply

-- A line leads a replayer on: it is written of a step that goes on.
pub record LeadsOn (places : Places) (old : ReplayerContents) (line : List ℕ) (new : ReplayerContents) : Type 0 where
  pub step : Step
  pub is_written : IsStepLine places line step
  pub stepped : IsStepped places old step new

-- A line stops a replayer: it is written of a step by which nothing that it follows goes on, and this is the rule for such a line.
pub record Stops (places : Places) (old : ReplayerContents) (rule : Rule) (line : List ℕ) : Type 0 where
  pub step : Step
  pub is_written : IsStepLine places line step
  pub no_step : IsNoStep places old step
  pub named : rule ≡ rule_of places step.event step.reply step.hint

-- where a line takes a replayer: a comment leaves it as it is, and a line that is told leads it on
abbrev pub Takes : Places → Bool → ReplayerContents → List ℕ → ReplayerContents → Type 0
Takes places true old line new = new ≡ old
Takes places false old line new = LeadsOn places old line new

-- A line that is told has this number.
pub record IsToldAt (n number : ℕ) (line : List ℕ) : Type 0 where
  pub is : n ≡ number
  pub told : is_comment line ≡ false

-- Of a line this reply is told, which it had to have in each run that a replayer follows, or none is.
pub record HasToAnswer (places : Places) (old : ReplayerContents) (expected : Option Reply) (line : List ℕ) : Type 0 where
  pub step : Step
  pub is_written : IsStepLine places line step
  pub tells : TellsReply places old step expected

-- what a replayer finds of the line of this number, by which it doesn't go on
abbrev pub IsLineVerdict : Places → ReplayerContents → ℕ → List ℕ → Verdict → Type 0
IsLineVerdict places old number line (Legal count) = ⊥
IsLineVerdict places old number line NoLines = ⊥
IsLineVerdict places old number line (Bad n) = IsToldAt n number line × IsUnwritten places line
IsLineVerdict places old number line (Breaks n rule) = IsToldAt n number line × Stops places old rule line

-- and which reply the line had to have
abbrev pub IsLineExplained : Places → ReplayerContents → List ℕ → Verdict → Option Reply → Type 0
IsLineExplained places old line (Legal count) expected = expected ≡ None
IsLineExplained places old line NoLines expected = expected ≡ None
IsLineExplained places old line (Bad n) expected = expected ≡ None
IsLineExplained places old line (Breaks n rule) expected = HasToAnswer places old expected line

-- what keeps the object in each run that a replayer follows, where it has to stay
abbrev pub TellsWhy : ReplayerContents → Option Wrong → Option Keeper → Type 0
TellsWhy r wrong keeper = (start : Start) (run : Run) → Follows r start run → IsWhy (heap_after start run) wrong keeper

-- Of a line this is the lowest of what is wrong in each run that a replayer follows, or nothing is, and why.
pub record HasWrong (places : Places) (old : ReplayerContents) (wrong : Option Wrong) (keeper : Option Keeper) (line : List ℕ) : Type 0 where
  pub step : Step
  pub is_written : IsStepLine places line step
  pub tells : TellsWrong old step.event step.hint wrong
  pub why : TellsWhy old wrong keeper

-- and what is wrong about the objects that it says were forgotten
abbrev pub IsLineBlamed : Places → ReplayerContents → List ℕ → Verdict → Option Wrong → Option Keeper → Type 0
IsLineBlamed places old line (Legal count) wrong keeper = (wrong ≡ None) × (keeper ≡ None)
IsLineBlamed places old line NoLines wrong keeper = (wrong ≡ None) × (keeper ≡ None)
IsLineBlamed places old line (Bad n) wrong keeper = (wrong ≡ None) × (keeper ≡ None)
IsLineBlamed places old line (Breaks n rule) wrong keeper = HasWrong places old wrong keeper line

-- which path leads to the object in each run that a replayer follows, where it has to stay
abbrev pub TellsWay : ReplayerContents → Bool → Option Wrong → Option (Vec PathStep) → Type 0
TellsWay r why wrong path = (start : Start) (run : Run) → Follows r start run → IsWayTo (heap_after start run) why wrong path

-- and the same of what is said of a line
abbrev pub IsLineTraced : ReplayerContents → Bool → Verdict → Option Wrong → Option (Vec PathStep) → Type 0
IsLineTraced old why (Legal count) wrong path = path ≡ None
IsLineTraced old why NoLines wrong path = path ≡ None
IsLineTraced old why (Bad n) wrong path = path ≡ None
IsLineTraced old why (Breaks n rule) wrong path = TellsWay old why wrong path

-- What is said of a line.
pub record IsSaid (places : Places) (old : ReplayerContents) (why : Bool) (number : ℕ) (line : List ℕ) (said : Explained) : Type 0 where
  pub verdict : IsLineVerdict places old number line said.judgement.verdict
  pub expected : IsLineExplained places old line said.judgement.verdict said.judgement.expected
  pub wrong : IsLineBlamed places old line said.judgement.verdict said.judgement.wrong said.judgement.keeper
  pub path : IsLineTraced old why said.judgement.verdict said.judgement.wrong said.path

-- whether a line takes a replayer on, or else what is said of it
abbrev pub IsLineJudged : Places → ReplayerContents → Bool → ℕ → List ℕ → Option Explained → ReplayerContents → Type 0
IsLineJudged places old why number line None new = Takes places (is_comment line) old line new
IsLineJudged places old why number line (Some said) new = IsSaid places old why number line said
