-- What a line of a script leads to.
use Rattle.std.specs.Prelude.{◌≡◌, ℕ, Option, List, [], ◌∷◌, ◌++◌, take, flat_map, Result, Ok, Err, ⊤}
use Rattle.std.specs.Io.KnownBytes.{Appends}
use Rattle.heap_spec.specs.declared.event.Event.{Event}
use Rattle.heap_spec.specs.declared.reply.Reply.{Reply}
use Rattle.heap_core.specs.Acts.{IsAct}
use Rattle.heap_core.specs.CoreContents.{CoreContents, IsCore}
use Rattle.heap_core.specs.Following.{IsLine}
use Rattle.scripts.specs.declared.errors.ScriptError.{ScriptError}
use Rattle.scripts.specs.declared.errors.ScriptError.TheVariants.{BadLine, Read, Write, Memory}
use Rattle.scripts.specs.Grammar.{IsLineOf, IsBad}
use Rattle.scripts.specs.Lines.{newline}
use Rattle.scripts.specs.Printing.{reply_line}

-- The line is a command's, the core was called so, what the call left is a core, and its reply prints so.
pub record IsLineRun (pages : ℕ) (line : List ℕ) (old new : CoreContents) (out : List ℕ) : Type 0 where
  pub command : Event
  pub reply : Reply
  pub is_line : IsLineOf line command
  pub acts : IsAct old command reply new
  pub core : IsCore new
  pub does : IsLine old command reply new
  pub prints : out ≡ reply_line pages reply

-- What a line of some number leads to: it is run and answered, or it is bad, or a front of its answer was written.
abbrev pub IsTurn : ℕ → ℕ → List ℕ → CoreContents → CoreContents → Option (List ℕ) → Option (List ℕ) → Result ⊤ ScriptError → Type 0
IsTurn pages number line old new wrote writes (Ok done) = (out : List ℕ) × IsLineRun pages line old new out × Appends wrote writes out
IsTurn pages number line old new wrote writes (Err (BadLine n)) = (n ≡ number) × IsBad line × Appends wrote writes []
IsTurn pages number line old new wrote writes (Err Write) = (out : List ℕ) × (n : ℕ) × IsLineRun pages line old new out × Appends wrote writes (take n out)
IsTurn pages number line old new wrote writes (Err Read) = ⊥
IsTurn pages number line old new wrote writes (Err Memory) = ⊥

-- lines, each with its newline
abbrev pub text_of : List (List ℕ) → List ℕ
text_of lines = flat_map (λ line. line ++ newline ∷ []) lines
