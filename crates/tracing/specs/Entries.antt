-- How the mark stack changes.
use Rattle.std.specs.Prelude.{◌≡◌, Option, Some, None, List, ◌++◌, take}
use Rattle.marker.specs.declared.entry.Entry.{Entry}
use Rattle.pages.specs.Memory.{word_index}
use Rattle.trace_lines.specs.declared.record.EntryAt.{EntryAt}
use Rattle.trace_lines.specs.declared.record.EntriesChange.{EntriesChange}
use Rattle.trace_lines.specs.declared.record.Current.{Current}
use Rattle.trace_lines.specs.declared.record.Current.TheVariants.{Begun, Nothing}

-- an entry, as a trace names it
abbrev pub shown : Entry → EntryAt
shown e = record { place = word_index e.base; next = e.next }

-- What stays of the old stack and what is pushed upon it are the new one.
abbrev pub SaysEntries : List EntryAt → List EntryAt → Option EntriesChange → Type 0
SaysEntries old new None = old ≡ new
SaysEntries old new (Some change) = take change.keep old ++ change.pushed.items ≡ new

-- the entry that is begun, if it is another than before
abbrev pub SaysCurrent : Option EntryAt → Option EntryAt → Option Current → Type 0
SaysCurrent old new None = old ≡ new
SaysCurrent old new (Some (Begun entry)) = new ≡ Some entry
SaysCurrent old new (Some Nothing) = new ≡ None
