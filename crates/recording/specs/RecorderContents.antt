-- What a recorder has.
use Rattle.std.specs.Prelude.{ℕ, Bool, true, false, Option, Some, None, List}
use Rattle.heap_core.specs.CoreContents.{CoreContents}

-- What a recorder notes beside a reply: nothing, where the new object is, or the bases of the objects that are gone.
pub data Note : Type 0 where
  names_nothing : Note
  names_place : ℕ → Note
  names_gone : List ℕ → Note

-- the place if there is one, and else what is gone if something was collected
abbrev pub note_of : Option ℕ → Bool → List ℕ → Note
note_of (Some base) collected gone = names_place base
note_of None true gone = names_gone gone
note_of None false gone = names_nothing

-- A recorder: a core, the bases of the objects that it knows, and what is noted beside the reply to the last event.
pub record RecorderContents : Type 0 where
  pub core : CoreContents
  pub bases : List ℕ
  pub note : Note
