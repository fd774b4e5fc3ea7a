-- What a journal has of a history.
use Rattle.std.specs.Prelude.{◌≡◌, Bool, true, false, List, [], ◌∷◌, ◌++◌, map}
use Rattle.history.specs.Histories.{event}
use Rattle.heap_history.specs.Passes.{MadeEvent}
use Rattle.shared.specs.declared.journal.Entry.{Entry}
use Rattle.shared.specs.declared.journal.Journal.{Journal}
use Rattle.shared.specs.declared.journal.Journal.TheVariants.{Off, On, Lost}

-- the event that an entry tells
abbrev pub made_of : Entry → MadeEvent
made_of e = event e.who e.call e.reply

-- whether it is kept
abbrev pub is_kept : Journal → Bool
is_kept Off = false
is_kept (On entries) = true
is_kept Lost = false

-- A journal that is kept has exactly the events of the history, each once, in their order.
abbrev pub IsOf : Journal → List MadeEvent → Type 0
IsOf Off history = Unit {0}
IsOf (On entries) history = map made_of entries ≡ history
IsOf Lost history = Unit {0}

-- Whatever history the journal is of, afterwards it is of that history with one event more.
abbrev pub TakesDown : Journal → MadeEvent → Journal → Type 0
TakesDown old made new = (history : List MadeEvent) → IsOf old history → IsOf new (history ++ made ∷ [])
