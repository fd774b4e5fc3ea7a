-- How lines are taken, one after another.
use Rattle.std.specs.Prelude.{◌≡◌, ℕ, ◌-◌, List, [], ◌∷◌, ◌++◌, length, slice_set, slice_index_or, Result, Ok, Err, ⊤}
use Rattle.heap_spec.specs.declared.event.Event.{Event}
use Rattle.heap_spec.specs.declared.event.Event.TheVariants.{Attach, Mutator}
use Rattle.scripts.specs.declared.errors.ScriptError.{ScriptError}
use Rattle.scripts.specs.declared.errors.ScriptError.TheVariants.{BadLine, Read, Write, Memory}
use Rattle.scripts.specs.Grammar.{IsLineOf}
use Rattle.workloads.specs.Workloads.{ActorLines, MayFollow, BreaksRule}

-- no line
abbrev pub no_lines : ActorLines
no_lines = record { mutators = []; collector = [] }

-- the lists with one command more
abbrev pub with_command : Event → ActorLines → ActorLines
with_command Attach lists = record lists { mutators = lists.mutators ++ [] ∷ [] }
with_command (Mutator slot call) lists = record lists { mutators = slice_set lists.mutators slot (slice_index_or lists.mutators slot [] ++ call ∷ []) }
with_command command lists = record lists { collector = lists.collector ++ command ∷ [] }

-- What the line of some number leads to: it is taken, or it breaks a rule, or memory was refused.
abbrev pub IsLineTaken : ℕ → List ℕ → ActorLines → ActorLines → Result ⊤ ScriptError → Type 0
IsLineTaken number line old new (Ok done) = (command : Event) × IsLineOf line command × MayFollow (number - 1) (length old.mutators) command × (new ≡ with_command command old)
IsLineTaken number line old new (Err (BadLine n)) = (n ≡ number) × BreaksRule (number - 1) (length old.mutators) line
IsLineTaken number line old new (Err Read) = ⊥
IsLineTaken number line old new (Err Write) = ⊥
IsLineTaken number line old new (Err Memory) = Unit {0}

-- the answer of a reading that leaves these lists
abbrev pub answered : Result ⊤ ScriptError → ActorLines → Result ActorLines ScriptError
answered (Ok done) lists = Ok lists
answered (Err fault) lists = Err fault
