-- Mutators that had their slots in turn: who had a part in a history whose slots were used more than once.
use Rattle.std.specs.Prelude.{◌≡◌, ◌≢◌, ℕ, ◌<◌, ◌≤◌, ◌==◌, ◌⊎◌, cond, All, Contains, List, [], ◌∷◌, ◌++◌, length}
use mathlib.Core.List.{IsPrefix}
use Rattle.words.specs.declared.limits.TheConstants.{SLOTS}
use Rattle.history.specs.declared.object.TheConstants.{COLLECTOR}
use Rattle.history.specs.Histories.{own, Legal}
use Rattle.heap_spec.specs.declared.call.Call.{Call}
use Rattle.heap_spec.specs.declared.reply.Reply.{Reply}
use Rattle.heap_spec.specs.SequentialObject.{Opens, StateStep}
use Rattle.heap_history.specs.Ranks.{rank_of}
use Rattle.heap_history.specs.Passes.{MadeEvent, HeapPass, IsLegalPass, IsLegalPast}
use Rattle.heap_history.specs.Headline.{Makes}
use Rattle.heap_history.specs.Alone.{attaches, all_of, slots_of, IsKnownWhole}
use Rattle.heap_history.specs.Laws.{LeavesWords, MakesAfterNoWrite, MakesAfterNoFree, KeptToOwn}
use Rattle.heap_history.specs.OwnObjects.{nothing_known, AreAsKnown}

-- how many mutators came to a slot
abbrev pub came_to : ℕ → List MadeEvent → ℕ
came_to slot history = attaches (all_of slot history)

-- If two mutators had one slot, the one was there before the other: fewer had come to the slot in what it has seen.
abbrev pub IsBefore : HeapPass → HeapPass → Type 0
IsBefore one other = one.slot ≡ other.slot → came_to one.slot one.seen < came_to one.slot other.seen

-- Of these mutators those with one slot stand in the order in which they had it.
abbrev pub AreInTurn : List HeapPass → Type 0
AreInTurn [] = Unit {0}
AreInTurn (p ∷ ps) = All (IsBefore p) ps × AreInTurn ps

-- a mutator came in this history, and all that it did in it is known
pub record CameWhole (pages : ℕ) (history : List MadeEvent) (pass : HeapPass) : Type 0 where
  pub mutator : pass.slot < SLOTS
  pub known : IsKnownWhole pages history pass

-- what these mutators did in a slot, one after another
abbrev pub did_in : ℕ → List HeapPass → List MadeEvent
did_in slot [] = []
did_in slot (p ∷ ps) = cond (p.slot == slot) (p.mine ++ did_in slot ps) (did_in slot ps)

-- Nobody but these mutators and the collector had a part in the history, and all events of a slot are what they did
-- there, one after another.
pub record AreAloneInTurn (passes : List HeapPass) (history : List MadeEvent) : Type 0 where
  pub members : All (λ (e : MadeEvent). Contains (slots_of passes) e.who ⊎ (e.who ≡ COLLECTOR)) history
  pub slots : (slot : ℕ) → slot < SLOTS → all_of slot history ≡ did_in slot passes
  pub collector : own rank_of COLLECTOR history ≡ all_of COLLECTOR history

-- A mutator that left was there before one that is there and has seen all that it had, whatever this one sees later,
-- and also when it has left.
abbrev pub LeftBefore : Type 0
LeftBefore = (pages : ℕ) (gone here later : HeapPass) → IsLegalPast pages gone → IsLegalPass pages here → IsPrefix gone.seen here.seen → later.slot ≡ here.slot → IsPrefix here.seen later.seen → IsBefore gone later

-- Where no more mutators came in a history than these, which had their slots in turn and of which all is known, nobody
-- else had a part in it.
abbrev pub NobodyElseCameInTurn : Type 0
NobodyElseCameInTurn = (pages : ℕ) (history : List MadeEvent) (passes : List HeapPass) → Legal (Opens pages) StateStep history → AreInTurn passes → All (CameWhole pages history) passes
    → attaches history ≤ length passes → AreAloneInTurn passes history

-- Where nobody but these mutators had a part in a history, and those of other slots than one stored and freed nothing,
-- no call of a mutator of that slot has a store or a free between it and what the mutator had seen.
abbrev pub OthersLeaveWordsInTurn : Type 0
OthersLeaveWordsInTurn = (pages : ℕ) (history : List MadeEvent) (passes : List HeapPass) → Legal (Opens pages) StateStep history → AreAloneInTurn passes history → (me : ℕ)
    → All (λ (p : HeapPass). p.slot ≢ me → All (λ (e : MadeEvent). LeavesWords e.call) p.mine) passes → (old new : HeapPass) (call : Call) (reply : Reply) → old.slot ≡ me → IsPrefix new.seen history → Makes pages old call reply new
    → MakesAfterNoWrite pages old call reply new × MakesAfterNoFree pages old call reply new

-- Where nobody but these mutators had a part in a history, and each stored in its own Normal objects alone and freed
-- none, what each loads from these is what it last stored there itself, and 0 before, whoever had its slot before it.
abbrev pub OwnWordsAsKnownInTurn : Type 0
OwnWordsAsKnownInTurn = (pages : ℕ) (history : List MadeEvent) (passes : List HeapPass) → Legal (Opens pages) StateStep history → AreAloneInTurn passes history → All (KeptToOwn pages history) passes
    → All (λ (p : HeapPass). AreAsKnown nothing_known p.mine) passes
