-- What stands written of a text.
use Rattle.std.specs.Prelude.{ℕ, Option, List, [], take, Result, Ok, Err, ⊤}
use Rattle.std.specs.Io.KnownBytes.{Appends}
use Rattle.scripts.specs.declared.errors.ScriptError.{ScriptError}
use Rattle.scripts.specs.declared.errors.ScriptError.TheVariants.{BadLine, Read, Write, Memory}

-- All of the text, or a front of it where a write failed, or nothing where memory was refused. No other answer is given.
abbrev pub IsWrittenAs : List ℕ → Option (List ℕ) → Option (List ℕ) → Result ⊤ ScriptError → Type 0
IsWrittenAs text old new (Ok done) = Appends old new text
IsWrittenAs text old new (Err (BadLine n)) = ⊥
IsWrittenAs text old new (Err Read) = ⊥
IsWrittenAs text old new (Err Write) = (n : ℕ) × Appends old new (take n text)
IsWrittenAs text old new (Err Memory) = Appends old new []
