-- What the command prints of a run, and with which status it ends.
use Rattle.std.specs.Prelude.{◌≡◌, ℕ, Option, List, [], ◌∷◌, ◌++◌, codes, decimal, map}
use Rattle.std.specs.Io.KnownBytes.{Appends}
use Rattle.scripts.specs.Turns.{text_of}
use Rattle.written_runs.specs.declared.places.Places.{Places}
use Rattle.written_runs.specs.declared.verdict.Verdict.{Verdict}
use Rattle.written_runs.specs.declared.verdict.Verdict.TheVariants.{Legal, NoLines, Bad, Breaks}
use Rattle.written_runs.specs.Judging.{IsJudged}

-- the status that goes with a verdict
abbrev pub status_of : Verdict → ℕ
status_of (Legal count) = 0
status_of NoLines = 2
status_of (Bad line) = 2
status_of (Breaks line rule) = 1

-- what is said of the line of this number
abbrev pub about : ℕ → List ℕ → List ℕ
about line said = codes "line " ++ (decimal line ++ (codes ": " ++ said))

-- This was said of the line of this number, each in a line of its own.
pub record SaysOf (line : ℕ) (wrote writes : Option (List ℕ)) : Type 0 where
  pub said : List (List ℕ)
  pub written : Appends wrote writes (text_of (map (about line) said))

-- The same, and something was said.
pub record SaysSomeOf (line : ℕ) (wrote writes : Option (List ℕ)) : Type 0 where
  pub first : List ℕ
  pub more : List (List ℕ)
  pub written : Appends wrote writes (text_of (map (about line) (first ∷ more)))

-- What is printed of a verdict: a line that says it, and of a line that breaks a rule lines about that line alone.
abbrev pub Prints : Verdict → Option (List ℕ) → Option (List ℕ) → Type 0
Prints (Legal count) wrote writes = Appends wrote writes (text_of ((codes "legal, " ++ (decimal count ++ codes " lines")) ∷ []))
Prints NoLines wrote writes = Appends wrote writes (text_of (codes "no lines" ∷ []))
Prints (Bad line) wrote writes = Appends wrote writes (text_of (about line (codes "not a line of a run") ∷ []))
Prints (Breaks line rule) wrote writes = SaysSomeOf line wrote writes

-- The lines of a run are judged, and the verdict is printed and told by the status.
pub record TellsVerdict (places : Places) (pages : ℕ) (lines : List (List ℕ)) (status : ℕ) (wrote writes : Option (List ℕ)) : Type 0 where
  pub verdict : Verdict
  pub judged : IsJudged places pages lines verdict
  pub status_is : status ≡ status_of verdict
  pub printed : Prints verdict wrote writes
