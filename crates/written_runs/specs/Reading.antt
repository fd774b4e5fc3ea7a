-- The parts of a line, as they are read.
use Rattle.std.specs.Prelude.{◌≡◌, ℕ, List, [], ◌∷◌, ◌++◌, codes, decimal, All}
use Rattle.words.specs.declared.refusal.Refusal.{Refusal}
use Rattle.words.specs.Refusals.{code_of, name_of}
use Rattle.heap_spec.specs.declared.event.Event.{Event}
use Rattle.heap_spec.specs.declared.reply.Reply.{Reply}
use Rattle.heap_spec.specs.Ranges.{IsWord}
use Rattle.replayer.specs.declared.hint.Hint.{Hint}
use Rattle.written_runs.specs.declared.behind.Behind.{Behind}
use Rattle.written_runs.specs.declared.behind.Behind.TheVariants.{Nothing, Place, Object, Bases}
use Rattle.written_runs.specs.declared.line.Line.{Line}
use Rattle.written_runs.specs.declared.places.Places.{Places}
use Rattle.written_runs.specs.declared.places.Places.TheVariants.{Classes, Any}
use Rattle.written_runs.specs.Cuts.{Lacks, IsEmptyOrFrom}
use Rattle.written_runs.specs.Written.{answer_of, bases_text, hint_text, sized_text, IsAnswer, IsLineWith, IsSize, NamesWords}

-- A line is a text with no `=`, then ` => `, and an answer.
pub record IsParted (line text answer : List ℕ) : Type 0 where
  pub whole : line ≡ text ++ (codes " => " ++ answer)
  pub lacks : Lacks 61 text

-- A text begins with a space and a number. The rest is nothing, or begins with a space.
pub record IsNumberAt (text : List ℕ) (n : ℕ) (rest : List ℕ) : Type 0 where
  pub whole : text ≡ codes " " ++ (decimal n ++ rest)
  pub word : IsWord n
  pub from : IsEmptyOrFrom 32 rest

-- A text begins with the code and the name of a refusal, each behind a space. The rest is nothing, or begins with a space.
pub record IsRefusalAt (text : List ℕ) (refusal : Refusal) (rest : List ℕ) : Type 0 where
  pub whole : text ≡ codes " " ++ (decimal (code_of refusal) ++ (codes " " ++ (name_of refusal ++ rest)))
  pub from : IsEmptyOrFrom 32 rest

-- A text begins with a reply to an event, and the rest is nothing, or begins with a space.
pub record IsReplyAt (event : Event) (text : List ℕ) (reply : Reply) (rest : List ℕ) : Type 0 where
  pub whole : text ≡ answer_of reply ++ rest
  pub answers : IsAnswer event reply
  pub from : IsEmptyOrFrom 32 rest

-- A text is a number behind a space.
pub record IsOnlyNumber (text : List ℕ) (n : ℕ) : Type 0 where
  pub whole : text ≡ codes " " ++ decimal n
  pub word : IsWord n

-- what stands behind a reply, as it is written
abbrev pub behind_text : Behind → List ℕ
behind_text Nothing = []
behind_text (Place base) = codes " @ " ++ decimal base
behind_text (Object base n) = codes " @" ++ bases_text (base ∷ n ∷ [])
behind_text (Bases bases) = codes " -" ++ bases_text bases.items

-- its numbers are words
abbrev pub HasWords : Behind → Type 0
HasWords Nothing = Unit {0}
HasWords (Place base) = IsWord base
HasWords (Object base n) = IsWord base × IsWord n
HasWords (Bases bases) = All IsWord bases.items

-- objects may lie anywhere
abbrev pub IsAnywhere : Places → Type 0
IsAnywhere Classes = ⊥
IsAnywhere (Any from) = Unit {0}

-- a place stands alone where objects lie in classes, and with its object's number of words where they may lie anywhere
abbrev pub Suits : Places → Behind → Type 0
Suits places Nothing = Unit {0}
Suits places (Place base) = places ≡ Classes
Suits places (Object base n) = IsAnywhere places
Suits places (Bases bases) = Unit {0}

-- a text is these bases, each a word behind a space
pub record AreBases (text bases : List ℕ) : Type 0 where
  pub whole : text ≡ bases_text bases
  pub words : All IsWord bases

-- a text is what stands behind a reply
pub record IsBehind (places : Places) (text : List ℕ) (behind : Behind) : Type 0 where
  pub whole : text ≡ behind_text behind
  pub words : HasWords behind
  pub suits : Suits places behind

-- what a hint is behind a reply, with the number of words of the object that it places
abbrev pub told_text : Places → Hint → ℕ → List ℕ
told_text Classes hint n = hint_text hint
told_text (Any from) hint n = sized_text hint n

-- that number of words, where it is told
abbrev pub IsToldSize : Places → Hint → ℕ → Type 0
IsToldSize Classes hint n = Unit {0}
IsToldSize (Any from) hint n = IsSize hint n

-- a text is that of a hint
pub record IsHintText (places : Places) (text : List ℕ) (hint : Hint) (n : ℕ) : Type 0 where
  pub whole : text ≡ told_text places hint n
  pub words : NamesWords hint
  pub size : IsToldSize places hint n

-- A line was read: it is the line of a command, ` => `, its reply, and what stands behind this.
pub record IsRead (places : Places) (line : List ℕ) (l : Line) : Type 0 where
  pub text : List ℕ
  pub parts : IsLineWith line l.event l.reply text
  pub names : parts.command ≡ l.command.now
  pub behind : IsBehind places text l.behind
