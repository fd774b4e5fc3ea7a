-- The calls of the examples with their replies.
use Rattle.std.specs.Prelude.{ℕ, List, [], ◌∷◌, ◌++◌, Result, Ok, Err}
use Rattle.words.specs.declared.class.Kind.TheVariants.{Normal}
use Rattle.words.specs.declared.refusal.Refusal.{Refusal}
use Rattle.heap_spec.specs.declared.call.Call.{Call}
use Rattle.heap_spec.specs.declared.call.Call.TheVariants.{Alloc, Load, Set, Store}
use Rattle.heap_spec.specs.declared.event.Event.{Event}
use Rattle.heap_spec.specs.declared.event.Event.TheVariants.{Begin, Finish, Mark, Mutator, Retrace, Roots, Sweep}
use Rattle.heap_spec.specs.declared.reply.Reply.{Reply}
use Rattle.heap_spec.specs.declared.reply.Reply.TheVariants.{Count, Done, Refused, Word}
use Rattle.heap_spec.specs.Runs.{Told}

-- an event with its reply
abbrev pub line : Event → Reply → Told
line event reply = record { event = event; reply = reply }

-- a call of the slot's mutator with its reply
abbrev pub call : ℕ → Call → Reply → Told
call slot made reply = line (Mutator slot made) reply

-- An object of two words came into a register, the word into another and into the object.
abbrev pub stored : ℕ → ℕ → ℕ → ℕ → List Told
stored slot object scratch word = call slot (Alloc object 2 Normal) Done ∷ call slot (Set scratch word) Done ∷ call slot (Store object 0 scratch) Done ∷ []

-- And what was loaded from there is the answer; or the request was refused, and nothing else was asked for.
abbrev pub stored_and_loaded : ℕ → ℕ → ℕ → ℕ → Result ℕ Refusal → List Told
stored_and_loaded slot object scratch word (Ok loaded) = stored slot object scratch word ++ call slot (Load scratch object 0) (Word loaded) ∷ []
stored_and_loaded slot object scratch word (Err why) = call slot (Alloc object 2 Normal) (Refused why) ∷ []

-- how many words a step marked, whether a page was read again, how many objects were forgotten, and whether a page was swept
pub record Counts : Type 0 where
  pub marked : ℕ
  pub read : ℕ
  pub forgotten : ℕ
  pub swept : ℕ

-- The word was stored; a cycle began, went on by a step of each kind and ended, a page was swept, and what was loaded then is
-- the answer.
abbrev pub kept_through_cycle : ℕ → ℕ → ℕ → ℕ → Counts → ℕ → List Told
kept_through_cycle slot object scratch word counts loaded =
    stored slot object scratch word ++ line Begin Done ∷ line Roots Done ∷ line (Mark 1) (Count counts.marked) ∷ line Retrace (Count counts.read)
    ∷ line Finish (Count counts.forgotten) ∷ line Sweep (Count counts.swept) ∷ call slot (Load scratch object 0) (Word loaded) ∷ []
