-- What is written of a script.
use Rattle.std.specs.Prelude.{◌≡◌, ℕ, Option, List, [], ◌∷◌, ◌++◌, codes}
use Rattle.std.specs.Io.KnownBytes.{Appends}
use Rattle.heap_spec.specs.declared.event.Event.{Event}
use Rattle.heap_spec.specs.declared.reply.Reply.{Reply}
use Rattle.heap_core.specs.Acts.{IsAct}
use Rattle.heap_core.specs.Opening.{IsNew}
use Rattle.replayer.specs.declared.hint.Hint.{Hint}
use Rattle.recording.specs.Noting.{IsHint, IsNoted}
use Rattle.recording.specs.RecorderContents.{RecorderContents}
use Rattle.scripts.specs.Grammar.{IsLineOf}
use Rattle.scripts.specs.Turns.{text_of}
use Rattle.written_runs.specs.Written.{answer_of, hint_text}

-- The line is a command, whose call the heap made and answered, and what the reply leaves open was noted. The text is that of the line, of
-- the reply and of a hint that says what was noted.
pub record IsRecorded (heap : RecorderContents) (line : List ℕ) (heap' : RecorderContents) (text : List ℕ) : Type 0 where
  pub event : Event
  pub command : IsLineOf line event
  pub reply : Reply
  pub acts : IsAct heap.core event reply heap'.core
  pub noted : IsNoted heap event reply heap'
  pub hint : Hint
  pub says : IsHint heap'.note hint
  pub whole : text ≡ line ++ (codes " => " ++ (answer_of reply ++ hint_text hint))

-- Lines are recorded one after another, each by the heap as the one before left it.
pub data AreRecorded : RecorderContents → List (List ℕ) → RecorderContents → List (List ℕ) → Type 0 where
  stays : {heap : RecorderContents} → AreRecorded heap [] heap []
  goes_on : {heap mid last : RecorderContents} {line text : List ℕ} {lines texts : List (List ℕ)}
      → IsRecorded heap line mid text → AreRecorded mid lines last texts → AreRecorded heap (line ∷ lines) last (text ∷ texts)

-- The lines are recorded, and what is written of each is put out in a line of its own.
pub record PutsRun (heap : RecorderContents) (lines : List (List ℕ)) (heap' : RecorderContents) (wrote writes : Option (List ℕ)) : Type 0 where
  pub texts : List (List ℕ)
  pub recorded : AreRecorded heap lines heap' texts
  pub written : Appends wrote writes (text_of texts)

-- All lines of a script are, on a new heap of so many pages.
pub record RecordsScript (pages : ℕ) (lines : List (List ℕ)) (wrote writes : Option (List ℕ)) : Type 0 where
  pub heap : RecorderContents
  pub is_new : IsNew pages heap.core
  pub knows_none : heap.bases ≡ []
  pub last : RecorderContents
  pub puts : PutsRun heap lines last wrote writes
