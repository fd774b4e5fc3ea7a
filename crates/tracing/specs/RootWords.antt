-- Which words of the roots a line changed.
use Rattle.std.specs.Prelude.{◌==◌, ℕ, Option, Some, None, List, if◌then◌else◌, slice_get, slice_index}
use Rattle.heap_spec.specs.declared.event.Event.{Event}
use Rattle.heap_spec.specs.declared.event.Event.TheVariants.{Attach, Mutator, Begin, BeginPartial, Roots, Mark, Retrace, Finish, Sweep, Collect, Number}
use Rattle.heap_spec.specs.Heap.{Mutator as HeapMutator}
use Rattle.heap_spec.specs.Shapes.{written_global, written_register}
use Rattle.heap_spec.specs.Steps.{register}
use Rattle.roots.specs.Roots.{RootSet}
use Rattle.trace_lines.specs.declared.record.Numbered.{Numbered}
use Rattle.trace_lines.specs.declared.record.RegisterWord.{RegisterWord}
use Rattle.tracing.specs.declared.roots_changed.PutWords.{PutWords}

-- the mutator that stands at a slot, if one does
abbrev pub there : Option (Option HeapMutator) → Option HeapMutator
there None = None
there (Some slot) = slot

-- the mutator at a slot, if one is attached
abbrev pub there_at : RootSet → ℕ → Option HeapMutator
there_at roots slot = there (slice_get roots.mutators slot)

-- a register of a mutator, if there are both
abbrev pub register_in : ℕ → Option ℕ → Option HeapMutator → Option RegisterWord
register_in slot None m = None
register_in slot (Some r) None = None
register_in slot (Some r) (Some m) = Some (record { slot = slot; register = r; word = register m r })

-- the register that an event may change, with its word
abbrev pub register_of : RootSet → Event → Option RegisterWord
register_of roots (Mutator slot call) = register_in slot (written_register call) (there_at roots slot)
register_of roots Attach = None
register_of roots Begin = None
register_of roots BeginPartial = None
register_of roots Roots = None
register_of roots (Mark n) = None
register_of roots Retrace = None
register_of roots Finish = None
register_of roots Sweep = None
register_of roots Collect = None
register_of roots Number = None

-- a global with its word, if there is one
abbrev pub global_in : List ℕ → Option ℕ → Option Numbered
global_in globals None = None
global_in globals (Some global) = Some (record { number = global; word = slice_index globals global })

-- the global that an event may change
abbrev pub event_put : Event → Option ℕ
event_put (Mutator slot call) = written_global call
event_put Attach = None
event_put Begin = None
event_put BeginPartial = None
event_put Roots = None
event_put (Mark n) = None
event_put Retrace = None
event_put Finish = None
event_put Sweep = None
event_put Collect = None
event_put Number = None

-- the global that an event may change, with its word
abbrev pub global_of : RootSet → Event → Option Numbered
global_of roots event = global_in roots.globals (event_put event)

-- what an event may put a word into
abbrev pub words_put : RootSet → Event → PutWords
words_put roots event = record { register = register_of roots event; global = global_of roots event }

-- the register, if its word is another than before
abbrev pub changed_register : Option RegisterWord → Option RegisterWord → Option RegisterWord
changed_register None new = None
changed_register (Some old) None = None
changed_register (Some old) (Some new) = if old.word == new.word then None else Some new

-- the global, if its word is another than before
abbrev pub changed_global : Option Numbered → Option Numbered → Option Numbered
changed_global None new = None
changed_global (Some old) None = None
changed_global (Some old) (Some new) = if old.word == new.word then None else Some new
