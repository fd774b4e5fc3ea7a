-- The lines of a trace.
use Rattle.std.specs.Prelude.{ℕ, Bool, true, false, Option, Some, None, List, [], ◌∷◌, ◌++◌, codes}
use Rattle.trace_lines.specs.declared.record.ObjectChanges.{ObjectChanges}
use Rattle.trace_lines.specs.declared.record.SetChanges.{SetChanges}
use Rattle.trace_lines.specs.declared.record.WordChanges.{WordChanges}
use Rattle.trace_lines.specs.declared.record.CycleChanges.{CycleChanges}
use Rattle.trace_lines.specs.declared.record.Record.{Record}
use Rattle.trace_lines.specs.declared.record.Objection.{Objection}
use Rattle.trace_lines.specs.Texts.{number_text, list_text}
use Rattle.trace_lines.specs.Rows.{flag_text, sentence_text, new_object_text, numbered_text, register_text, stack_text, link_text, entries_text, current_text, reads_text, run_text, set_text}

-- a key behind others
abbrev pub key_text : List ℕ → List ℕ
key_text key = codes ",\"" ++ (key ++ codes "\":")

-- a key with its list, if that has any item
abbrev pub any_text : {A : Type 0} → (A → List ℕ) → List ℕ → List A → List ℕ
any_text text key [] = []
any_text text key (first ∷ rest) = key_text key ++ list_text text (first ∷ rest)

-- a key with its value, if there is one
abbrev pub some_text : {A : Type 0} → (A → List ℕ) → List ℕ → Option A → List ℕ
some_text text key None = []
some_text text key (Some value) = key_text key ++ text value

-- which mutators and objects come and go
abbrev pub objects_text : ObjectChanges → List ℕ
objects_text r = any_text number_text (codes "attach") r.attached.items ++ (any_text number_text (codes "detach") r.detached.items
    ++ (any_text number_text (codes "forget") r.forgotten.items ++ (any_text number_text (codes "free") r.freed.items
    ++ any_text new_object_text (codes "new") r.born.items)))

-- how sets change
abbrev pub sets_text : SetChanges → List ℕ
sets_text r = some_text set_text (codes "marked") r.marked ++ (some_text set_text (codes "reached") r.reached
    ++ (some_text set_text (codes "touched") r.touched ++ (some_text set_text (codes "dirty") r.dirty
    ++ (some_text set_text (codes "carried") r.carried ++ some_text set_text (codes "pending") r.pending))))

-- which words change
abbrev pub words_text : WordChanges → List ℕ
words_text r = any_text numbered_text (codes "wrote") r.wrote.items ++ (any_text register_text (codes "regs") r.registers.items
    ++ (any_text stack_text (codes "stacks") r.stacks.items ++ (any_text numbered_text (codes "globals") r.globals.items
    ++ any_text link_text (codes "links") r.links.items)))

-- what the collector has to read, and where it is
abbrev pub cycle_text : CycleChanges → List ℕ
cycle_text r = some_text entries_text (codes "entries") r.entries ++ (some_text current_text (codes "current") r.current
    ++ (some_text flag_text (codes "phase") r.is_marking ++ (some_text number_text (codes "count") r.count
    ++ (some_text reads_text (codes "read") r.read ++ any_text run_text (codes "looked") r.looked.items))))

-- all that changes
abbrev pub changes_text : Record → List ℕ
changes_text r = objects_text r.objects ++ (sets_text r.sets ++ (words_text r.words ++ cycle_text r.cycle))

-- The line of a command, its reply, and what is different after it.
abbrev pub record_text : List ℕ → List ℕ → Record → List ℕ
record_text command reply r = codes "{\"c\":\"" ++ (command ++ (codes "\",\"r\":\"" ++ (reply ++ (codes "\"" ++ (changes_text r ++ codes "}")))))

-- the number of a line, and what is said against it
abbrev pub objection_text : Objection → List ℕ
objection_text o = key_text (codes "no") ++ (number_text o.line ++ (any_text sentence_text (codes "says") o.says.items
    ++ some_text number_text (codes "about") o.about))

-- The line of a command that is refused with its answer, and what is said against it.
abbrev pub refused_text : List ℕ → List ℕ → Objection → List ℕ
refused_text command answer o = codes "{\"c\":\"" ++ (command ++ (codes "\",\"r\":\"" ++ (answer ++ (codes "\"" ++ (objection_text o ++ codes "}")))))

-- that nothing is said of what a collector knows, where it is so
abbrev pub collector_text : Bool → List ℕ
collector_text true = []
collector_text false = codes ",\"collector\":0"

-- The first line: a title, the pages of the heap, how many records follow, and whether they say what a collector knows.
abbrev pub head_text : List ℕ → ℕ → ℕ → Bool → List ℕ
head_text title pages lines has_collector = codes "{\"mpheap\":\"trace\",\"version\":1,\"title\":\"" ++ (title ++ (codes "\""
    ++ (key_text (codes "pages") ++ (number_text pages ++ (key_text (codes "lines") ++ (number_text lines
    ++ (collector_text has_collector ++ codes "}")))))))
