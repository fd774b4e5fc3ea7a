-- What is said of a written run.
use Rattle.std.specs.Prelude.{◌≡◌, ℕ, ◌+◌, ◌≤◌, Bool, true, false, Option, Some, None, List, [], ◌∷◌, ◌++◌, length}
use Rattle.std.specs.Global.{Vec}
use Rattle.heap_spec.specs.declared.reply.Reply.{Reply}
use Rattle.heap_spec.specs.Heap.{Heap}
use Rattle.heap_spec.specs.Runs.{Start, Run, opening_start, heap_after}
use Rattle.replayer.specs.Wrongs.{IsWrongOf}
use Rattle.plain_heap.specs.declared.keepers.Keeper.{Keeper}
use Rattle.plain_heap.specs.declared.wrongs.Wrong.{Wrong}
use Rattle.plain_heap.specs.declared.wrongs.Wrong.TheVariants.{IsMissing, StandsTwice, HasToStay, HasToGo}
use Rattle.plain_heap.specs.Keepers.{TellsKeeper}
use Rattle.plain_heap.specs.declared.paths.PathStep.{PathStep}
use Rattle.plain_heap.specs.Paths.{TellsPath}
use Rattle.plain_heap.specs.Wrongs.{TellsLowest}
use Rattle.written_runs.specs.declared.places.Places.{Places}
use Rattle.written_runs.specs.declared.rules.Rule.{Rule}
use Rattle.written_runs.specs.declared.step.Step.{Step}
use Rattle.written_runs.specs.declared.verdict.Verdict.{Verdict}
use Rattle.written_runs.specs.declared.verdict.Verdict.TheVariants.{Legal, NoLines, Bad, Breaks}
use Rattle.written_runs.specs.Steps.{GoesBy, IsReplyTold, IsStepLine, IsUnwritten, TakesOn}
use Rattle.written_runs.specs.Rules.{rule_of}
use Rattle.written_runs.specs.Told.{is_comment, told_lines}

-- Lines lead from one run to another: each takes the run on from where the one before led.
pub data Leads (places : Places) (start : Start) : Run → List (List ℕ) → Run → Type 0 where
  ends : {run : Run} → Leads places start run [] run
  on : {run mid last : Run} {line : List ℕ} {lines : List (List ℕ)} → TakesOn places start run line mid → Leads places start mid lines last
      → Leads places start run (line ∷ lines) last

-- A line breaks a run: it is written of a step by which no run goes on from there, and this is the rule for such a line.
pub record IsBroken (places : Places) (start : Start) (rule : Rule) (run : Run) (line : List ℕ) : Type 0 where
  pub step : Step
  pub is_written : IsStepLine places line step
  pub no_next : (next : Run) → GoesBy places start run step next → ⊥
  pub named : rule ≡ rule_of places step.event step.reply step.hint

-- A line of this number, counted from 1 with the comments, is the first with a fault: it is told, and what is told by the
-- lines before it leads to a run from which it has that fault.
pub record HasFault (places : Places) (Fault : Run → List ℕ → Type 0) (start : Start) (lines : List (List ℕ)) (number : ℕ) : Type 0 where
  pub before : List (List ℕ)
  pub line : List ℕ
  pub behind : List (List ℕ)
  pub run : Run
  pub are : lines ≡ before ++ line ∷ behind
  pub counted : number ≡ length before + 1
  pub told : is_comment line ≡ false
  pub leads : Leads places start [] (told_lines before) run
  pub fault : Fault run line

-- What lines tell leads from the opening to some run, and they tell so many, at least one.
pub record AreLegal (places : Places) (start : Start) (lines : List (List ℕ)) (count : ℕ) : Type 0 where
  pub last : Run
  pub leads : Leads places start [] (told_lines lines) last
  pub counted : count ≡ length (told_lines lines)
  pub some : 1 ≤ count

-- What each verdict says of the lines of a text on a new heap of so many pages.
abbrev pub IsJudged : Places → ℕ → List (List ℕ) → Verdict → Type 0
-- they are legal, and tell so many
IsJudged places pages lines (Legal count) = AreLegal places (opening_start pages) lines count
-- they tell nothing
IsJudged places pages lines NoLines = told_lines lines ≡ []
-- the line of this number is written of nothing
IsJudged places pages lines (Bad number) = HasFault places (λ run line. IsUnwritten places line) (opening_start pages) lines number
-- the line of this number breaks the run, by this rule
IsJudged places pages lines (Breaks number rule) = HasFault places (IsBroken places (opening_start pages) rule) (opening_start pages) lines number

-- Of a line this reply is told, which it had to have, or none is.
pub record HadToAnswer (places : Places) (start : Start) (expected : Option Reply) (run : Run) (line : List ℕ) : Type 0 where
  pub step : Step
  pub is_written : IsStepLine places line step
  pub tells : IsReplyTold places start run step expected

-- which reply the line that breaks a run had to have
abbrev pub IsExplained : Places → ℕ → List (List ℕ) → Verdict → Option Reply → Type 0
IsExplained places pages lines (Legal count) expected = expected ≡ None
IsExplained places pages lines NoLines expected = expected ≡ None
IsExplained places pages lines (Bad number) expected = expected ≡ None
IsExplained places pages lines (Breaks number rule) expected = HasFault places (HadToAnswer places (opening_start pages) expected) (opening_start pages) lines number

-- where an object has to stay this keeps it, and else nothing is told
abbrev pub IsWhy : Heap → Option Wrong → Option Keeper → Type 0
IsWhy s None keeper = keeper ≡ None
IsWhy s (Some (IsMissing base)) keeper = keeper ≡ None
IsWhy s (Some (StandsTwice base)) keeper = keeper ≡ None
IsWhy s (Some (HasToStay base)) keeper = TellsKeeper s base keeper
IsWhy s (Some (HasToGo base)) keeper = keeper ≡ None

-- Of a line this is the lowest of what is wrong about the objects that it says were forgotten, or nothing is, and why.
pub record IsWrongLine (places : Places) (start : Start) (wrong : Option Wrong) (keeper : Option Keeper) (run : Run) (line : List ℕ) : Type 0 where
  pub step : Step
  pub is_written : IsStepLine places line step
  pub tells : TellsLowest (IsWrongOf start run step.event step.hint) wrong
  pub why : IsWhy (heap_after start run) wrong keeper

-- what is wrong about the objects that the line which breaks a run says were forgotten
abbrev pub IsBlamed : Places → ℕ → List (List ℕ) → Verdict → Option Wrong → Option Keeper → Type 0
IsBlamed places pages lines (Legal count) wrong keeper = (wrong ≡ None) × (keeper ≡ None)
IsBlamed places pages lines NoLines wrong keeper = (wrong ≡ None) × (keeper ≡ None)
IsBlamed places pages lines (Bad number) wrong keeper = (wrong ≡ None) × (keeper ≡ None)
IsBlamed places pages lines (Breaks number rule) wrong keeper = HasFault places (IsWrongLine places (opening_start pages) wrong keeper) (opening_start pages) lines number

-- where an object has to stay this path leads to it, if it is asked for, and else none is told
abbrev pub IsWayTo : Heap → Bool → Option Wrong → Option (Vec PathStep) → Type 0
IsWayTo s false wrong path = path ≡ None
IsWayTo s true None path = path ≡ None
IsWayTo s true (Some (IsMissing base)) path = path ≡ None
IsWayTo s true (Some (StandsTwice base)) path = path ≡ None
IsWayTo s true (Some (HasToStay base)) path = TellsPath s base path
IsWayTo s true (Some (HasToGo base)) path = path ≡ None

-- which path leads to an object that the line which breaks a run says was forgotten, if it has to stay
abbrev pub IsTracedBack : Places → ℕ → List (List ℕ) → Bool → Verdict → Option Wrong → Option (Vec PathStep) → Type 0
IsTracedBack places pages lines why (Legal count) wrong path = path ≡ None
IsTracedBack places pages lines why NoLines wrong path = path ≡ None
IsTracedBack places pages lines why (Bad number) wrong path = path ≡ None
IsTracedBack places pages lines why (Breaks number rule) wrong path = HasFault places (λ run line. IsWayTo (heap_after (opening_start pages) run) why wrong path) (opening_start pages) lines number
