-- Who had a part in a history: how many mutators came, and that nobody else did.
use Rattle.std.specs.Prelude.{◌≡◌, ℕ, ◌<◌, ◌==◌, ◌⊎◌, All, Contains, List, filter, map}
use mathlib.Core.List.{IsPrefix}
use Rattle.words.specs.declared.limits.TheConstants.{SLOTS}
use Rattle.history.specs.declared.object.TheConstants.{COLLECTOR}
use Rattle.history.specs.Histories.{firsts, own}
use Rattle.heap_history.specs.Ranks.{rank_of}
use Rattle.heap_history.specs.Passes.{MadeEvent, HeapPass, IsLegalPass, IsLegalPast, IsOfMutator}

-- How many mutators came. An attach is an event only where it is granted.
abbrev pub attaches : List MadeEvent → ℕ
attaches history = firsts rank_of history

-- all events of a slot, in their order, also those before its last attach
abbrev pub all_of : ℕ → List MadeEvent → List MadeEvent
all_of slot history = filter (λ (e : MadeEvent). e.who == slot) history

-- the slots of passes
abbrev pub slots_of : List HeapPass → List ℕ
slots_of passes = map (λ (p : HeapPass). p.slot) passes

-- Nobody but a mutator at each of these slots, in one life, and the collector had a part in the history.
pub record AreAlone (slots : List ℕ) (history : List MadeEvent) : Type 0 where
  pub members : All (λ (e : MadeEvent). Contains slots e.who ⊎ (e.who ≡ COLLECTOR)) history
  pub lives : All (λ slot. own rank_of slot history ≡ all_of slot history) slots
  pub collector : own rank_of COLLECTOR history ≡ all_of COLLECTOR history

-- a mutator came in this history: this is what it has seen of it, or had seen when it left
pub record CameIn (pages : ℕ) (history : List MadeEvent) (pass : HeapPass) : Type 0 where
  pub mutator : pass.slot < SLOTS
  pub fine : IsOfMutator pages pass
  pub within : IsPrefix pass.seen history

-- All that a mutator did in the history is known: it has seen the whole, or had left when it had seen a beginning of it.
abbrev pub IsKnownWhole : ℕ → List MadeEvent → HeapPass → Type 0
IsKnownWhole pages history pass = ((pass.seen ≡ history) × IsLegalPass pages pass) ⊎ (IsPrefix pass.seen history × IsLegalPast pages pass)
