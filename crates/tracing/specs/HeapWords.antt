-- Which words of the heap an event wrote.
use Rattle.std.specs.Prelude.{ℕ, Bool, true, Option, None, List, [], ◌++◌, flat_map, map, if◌then◌else◌}
use Rattle.std.specs.Option.{option_map}
use Rattle.heap_spec.specs.declared.call.Call.TheVariants.{Free, Store}
use Rattle.heap_spec.specs.declared.event.Event.{Event}
use Rattle.heap_spec.specs.declared.event.Event.TheVariants.{Mutator}
use Rattle.heap_spec.specs.declared.reply.Reply.{Reply}
use Rattle.heap_spec.specs.declared.reply.Reply.TheVariants.{Done}
use Rattle.heap_spec.specs.Steps.{address}
use Rattle.links.specs.declared.row.Link.{Link}
use Rattle.roots.specs.Roots.{RootSet}
use Rattle.plain_heap.specs.PlainContents.{PlainContents}
use Rattle.plain_heap.specs.Along.{word_of}
use Rattle.pages.specs.Memory.{word_index}
use Rattle.trace_lines.specs.declared.record.Numbered.{Numbered}
use Rattle.tracing.specs.Sets.{listed}
use Rattle.tracing.specs.Leaving.{forgets}
use Rattle.tracing.specs.RootWords.{there_at}

-- the address that a store wrote to, if the event is one and was granted
abbrev pub stored_at : RootSet → Event → Reply → Option ℕ
stored_at roots (Mutator slot (Store at offset from)) Done = option_map (λ m. address m at offset) (there_at roots slot)
stored_at roots _ _ = None

-- whether an event may take objects: then it writes 0 into the words of links to them
abbrev pub clears : Event → Bool
clears (Mutator slot (Free r)) = true
clears event = forgets event

-- the addresses of the links that are gone, if the event may take objects
abbrev pub cleared : Event → List Link → List ℕ
cleared event gone = if clears event then map (λ l. l.address) gone else []

-- the addresses that the event may have written to
abbrev pub written_to : RootSet → Event → Reply → List Link → List ℕ
written_to roots event reply gone = listed (stored_at roots event reply) ++ cleared event gone

-- the word at an address with its place, if an object has it
abbrev pub word_told : PlainContents → ℕ → Option Numbered
word_told c a = option_map (λ w. record { number = word_index a; word = w }) (word_of c a)

-- those words at some addresses that objects have
abbrev pub words_told : PlainContents → List ℕ → List Numbered
words_told c addresses = flat_map (λ a. listed (word_told c a)) addresses
