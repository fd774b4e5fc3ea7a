-- What a line looked at.
use Rattle.std.specs.Prelude.{ℕ, ◌+◌, ◌-◌, ◌*◌, ◌==◌, ◌&&◌, Bool, Option, Some, None, List, [], ◌++◌, flat_map, map, nat_le, nat_lt, sum_by, if◌then◌else◌, length}
use Rattle.std.specs.Borrow.{Bor}
use Rattle.std.specs.List.{list_any}
use Rattle.words.specs.declared.limits.TheConstants.{FIRST_ADDRESS, MAX_PAGES, PAGE_WORDS, WORD_BYTES}
use Rattle.heap_spec.specs.declared.event.Event.{Event}
use Rattle.heap_spec.specs.declared.event.Event.TheVariants.{Mark, Roots}
use Rattle.heap_spec.specs.declared.reply.Reply.{Reply}
use Rattle.heap_spec.specs.declared.reply.Reply.TheVariants.{Count, Done}
use Rattle.roots.specs.Roots.{RootSet, root_words_of}
use Rattle.block_map.specs.declared.found.Found.{Found}
use Rattle.marker.specs.Work.{read_of}
use Rattle.heap_core.specs.CoreContents.{CoreContents}
use Rattle.heap_core.specs.Standing.{objects_of}
use Rattle.trace_lines.specs.declared.record.EntryAt.{EntryAt}
use Rattle.trace_lines.specs.declared.record.Reads.{Reads}
use Rattle.trace_lines.specs.declared.record.WordRun.{WordRun}
use Rattle.tracing.specs.declared.knowledge.Knowledge.{Knowledge}
use Rattle.tracing.specs.Sets.{listed, without}

-- what a small step looked at whose reply measures it: all root words, or so many words of marked objects
abbrev pub reads_of : RootSet → Event → Reply → Option Reads
reads_of roots Roots Done = Some (record { roots = length (root_words_of roots); words = 0; pages = 0 })
reads_of roots (Mark most) (Count words) = Some (record { roots = 0; words = words; pages = 0 })
reads_of roots _ _ = None

-- the address of a place
abbrev pub address_of : ℕ → ℕ
address_of place = FIRST_ADDRESS + WORD_BYTES * place

-- the object, if it begins at the address
abbrev pub if_begins : ℕ → Option Found → Option Found
if_begins address None = None
if_begins address (Some f) = if f.base == address then Some f else None

-- the object that begins at a place, if one is kept there
abbrev pub kept_from : CoreContents → ℕ → Option Found
kept_from c place = if nat_lt place (PAGE_WORDS * MAX_PAGES) then if_begins (address_of place) (objects_of c (address_of place)) else None

-- whether an entry at the place waits on the mark stack
abbrev pub waits_at : Knowledge → ℕ → Bool
waits_at k place = list_any (λ e. e.place == place) k.entries.items

-- how many words of the object at a place are read, if its entry isn't begun: none while it waits, and else all that are ever read
abbrev pub unbegun_to : Knowledge → ℕ → Found → ℕ
unbegun_to k place f = if waits_at k place then 0 else read_of f.kind f.len

-- up to the next word of the entry that is begun, if it is at the place, and else so many
abbrev pub begun_or : Option EntryAt → ℕ → ℕ → ℕ
begun_or None place other = other
begun_or (Some e) place other = if e.place == place then e.next else other

-- how many words of the object at a place are read
abbrev pub read_to : Knowledge → ℕ → Found → ℕ
read_to k place f = begun_or k.current place (unbegun_to k place f)

-- the words from one up to another, if there are any and the object has so many
abbrev pub run_between : ℕ → ℕ → ℕ → ℕ → Option WordRun
run_between place from to all = if nat_lt from to && nat_le to all then Some (record { place = place + from; words = to - from }) else None

-- the words of an entry's object that are read now, from the entry's next word on
abbrev pub run_of : Knowledge → EntryAt → Option Found → Option WordRun
run_of now e None = None
run_of now e (Some f) = run_between e.place e.next (read_to now e.place f) f.len

-- those of these entries
abbrev pub runs_of : CoreContents → Knowledge → List EntryAt → List WordRun
runs_of c now entries = flat_map (λ e. listed (run_of now e (kept_from c e.place))) entries

-- the entry of an object of which no word is read
abbrev pub fresh : ℕ → EntryAt
fresh place = record { place = place; next = 0 }

-- the entries that a step reads words of: those that were there, and those of the objects that it marks
abbrev pub entries_read : Knowledge → List ℕ → List EntryAt
entries_read old marked = (listed old.current ++ old.entries.items) ++ map fresh marked

-- the runs, if they are of so many words
abbrev pub if_so_many : ℕ → List WordRun → List WordRun
if_so_many words runs = if sum_by (λ r. r.words) runs == words then runs else []

-- The words of marked objects that a step of marking read: those by which its entries went on, if they are as many as it answers.
abbrev pub looked_by : Option (Bor CoreContents) → Event → Reply → Knowledge → Knowledge → List WordRun
looked_by (Some core) (Mark most) (Count words) old now = if_so_many words (runs_of core.now now (entries_read old (without now.marked.items old.marked.items)))
looked_by _ _ _ _ _ = []
