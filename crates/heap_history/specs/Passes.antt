-- The passes of a heap's mutators and of its collector.
use Rattle.std.specs.Prelude.{◌≡◌, ℕ, ◌<◌, ◌⊎◌, Bool, true, false, List, [], ◌∷◌}
use Rattle.words.specs.declared.limits.TheConstants.{SLOTS}
use Rattle.history.specs.declared.view.Known.{Known}
use Rattle.history.specs.declared.made.Made.{Made}
use Rattle.history.specs.Histories.{is_first}
use Rattle.history.specs.Passes.{Agrees, Recalls}
use Rattle.heap_spec.specs.declared.event.Event.{Event}
use Rattle.heap_spec.specs.declared.reply.Reply.{Reply}
use Rattle.heap_spec.specs.Runs.{marking_after, needs_full_after}
use Rattle.heap_spec.specs.SequentialObject.{Opens, StateStep}
use Rattle.heap_history.specs.Ranks.{rank_of}

-- an event of a history: who made it, what was asked, and what was answered
abbrev pub MadeEvent : Type 0
MadeEvent = Made Event Reply

-- what a pass knows: its slot, the history that it has seen, and its own events in it
abbrev pub HeapPass : Type 0
HeapPass = Known Event Reply

-- What holds of a pass between any two calls: what it has seen is a legal history of a heap of so many pages, in which its own events
-- are exactly those of its slot since its attach.
abbrev pub IsLegalPass : ℕ → HeapPass → Type 0
IsLegalPass pages pass = Agrees rank_of (Opens pages) StateStep pass

-- whether a cycle is marking after these events, from whether one was before
abbrev pub marking_from : Bool → List MadeEvent → Bool
marking_from b [] = b
marking_from b (e ∷ es) = marking_from (marking_after e.call b) es

-- a cycle is marking after the collector's own events
abbrev pub is_marking : List MadeEvent → Bool
is_marking es = marking_from false es

-- whether a full cycle is needed after these events, from whether one was before
abbrev pub needs_full_from : Bool → List MadeEvent → Bool
needs_full_from b [] = b
needs_full_from b (e ∷ es) = needs_full_from (needs_full_after e.call e.reply b) es

-- a full cycle is needed after all events of a history
abbrev pub needs_full : List MadeEvent → Bool
needs_full es = needs_full_from true es

-- the events begin with an attach
abbrev pub begins_with_attach : List MadeEvent → Bool
begins_with_attach [] = false
begins_with_attach (e ∷ es) = is_first (rank_of e.call)

-- a mutator's pass
pub record IsMutatorPass (slot : ℕ) (pass : HeapPass) : Type 0 where
  pub slot_is : pass.slot ≡ slot
  pub range : slot < SLOTS

-- What a mutator had seen when it left: a legal history of a heap of so many pages, in which its own events are exactly those of its slot
-- since its attach, its detach among them.
pub record IsLegalPast (pages : ℕ) (past : HeapPass) : Type 0 where
  pub mutator : past.slot < SLOTS
  pub begins : begins_with_attach past.mine ≡ true
  pub recalls : Recalls rank_of (Opens pages) StateStep past

-- what a mutator has seen, or had seen when it left
abbrev pub IsOfMutator : ℕ → HeapPass → Type 0
IsOfMutator pages pass = IsLegalPass pages pass ⊎ IsLegalPast pages pass
