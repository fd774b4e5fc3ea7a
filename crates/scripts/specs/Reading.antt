-- What a run still has to read.
use Rattle.std.specs.Prelude.{◌≡◌, ℕ, ◌<◌, ◌≢◌, Option, List, [], ◌∷◌, ◌++◌, length, All}
use Rattle.std.specs.Io.KnownBytes.{prepend_known, Consumes, IsAtEnd}
use Rattle.scripts.specs.declared.limits.TheConstants.{LINE_BYTES}
use Rattle.scripts.specs.declared.line.LineRead.{LineRead}
use Rattle.scripts.specs.declared.line.LineRead.TheVariants.{Line, Last, End, TooLong}
use Rattle.scripts.specs.Lines.{newline}

-- what is left of a buffer, and then of the source
abbrev pub left_of : List ℕ → Option (List ℕ) → Option (List ℕ)
left_of buffer remaining = prepend_known buffer remaining

-- no byte is a newline
abbrev pub IsPlainLine : List ℕ → Type 0
IsPlainLine line = All (λ b. b ≢ newline) line

-- What a line was read from what was left.
abbrev pub IsLineRead : LineRead → List ℕ → Option (List ℕ) → Option (List ℕ) → Type 0
-- a line with its newline
IsLineRead Line line old new = Consumes old new (line ++ newline ∷ [])
-- the last line, which lacks its newline
IsLineRead Last line old new = Consumes old new line × IsAtEnd new × (0 < length line)
-- no line
IsLineRead End line old new = Consumes old new [] × IsAtEnd new × (line ≡ [])
-- the front of a line that is too long
IsLineRead TooLong line old new = (byte : ℕ) × Consumes old new (line ++ byte ∷ []) × (byte ≢ newline) × (length line ≡ LINE_BYTES)
