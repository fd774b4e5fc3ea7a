-- The lines of written runs.
use Rattle.std.specs.Prelude.{◌≡◌, ℕ, ◌<◌, Bool, true, false, List, [], ◌∷◌, ◌++◌, codes, decimal, flat_map, All}
use Rattle.words.specs.declared.limits.TheConstants.{SLOTS}
use Rattle.heap_spec.specs.declared.call.Call.TheVariants.{Size, Unlink}
use Rattle.heap_spec.specs.declared.event.Event.{Event}
use Rattle.heap_spec.specs.declared.event.Event.TheVariants.{Attach, Mutator, Begin, BeginPartial, Roots, Mark, Retrace, Finish, Sweep, Collect, Number}
use Rattle.heap_spec.specs.declared.reply.Reply.{Reply}
use Rattle.heap_spec.specs.declared.reply.Reply.TheVariants.{Slot, Done, Word, Count, Refused}
use Rattle.heap_spec.specs.Ranges.{IsWord}
use Rattle.replayer.specs.declared.hint.Hint.{Hint}
use Rattle.replayer.specs.declared.hint.Hint.TheVariants.{Nothing, Place, Forgot}
use Rattle.scripts.specs.Grammar.{IsLineOf}
use Rattle.scripts.specs.Printing.{reply_text}

-- A reply as a script prints it on a heap of no page: no word is an address there, so each is written as its number.
abbrev pub answer_of : Reply → List ℕ
answer_of reply = reply_text 0 reply

-- bases, each behind a space
abbrev pub bases_text : List ℕ → List ℕ
bases_text bases = flat_map (λ base. codes " " ++ decimal base) bases

-- what stands behind a reply: nothing, where the new object begins, or the bases that were forgotten
abbrev pub hint_text : Hint → List ℕ
hint_text Nothing = []
hint_text (Place base) = codes " @ " ++ decimal base
hint_text (Forgot bases) = codes " -" ++ bases_text bases.now

-- Words and counts are written alike, so the event tells which a number is: mutators are answered words, but for a size and an unlink.
abbrev pub answers_word : Event → Bool
answers_word (Mutator slot (Size r)) = false
answers_word (Mutator slot (Unlink a n)) = false
answers_word (Mutator slot call) = true
answers_word Attach = false
answers_word Begin = false
answers_word BeginPartial = false
answers_word Roots = false
answers_word (Mark n) = false
answers_word Retrace = false
answers_word Finish = false
answers_word Sweep = false
answers_word Collect = false
answers_word Number = false

-- a reply of this kind may be written to the event, and its number is in range
abbrev pub IsAnswer : Event → Reply → Type 0
IsAnswer event (Slot slot) = slot < SLOTS
IsAnswer event Done = Unit {0}
IsAnswer event (Word w) = (answers_word event ≡ true) × IsWord w
IsAnswer event (Count n) = (answers_word event ≡ false) × IsWord n
IsAnswer event (Refused refusal) = Unit {0}

-- the bases that a hint names are words
abbrev pub NamesWords : Hint → Type 0
NamesWords Nothing = Unit {0}
NamesWords (Place base) = IsWord base
NamesWords (Forgot bases) = All IsWord bases.now

-- A line is the line of a command, ` => `, the text of its reply, and this text behind it.
pub record IsLineWith (line : List ℕ) (event : Event) (reply : Reply) (behind : List ℕ) : Type 0 where
  pub command : List ℕ
  pub is_command : IsLineOf command event
  pub is_line : line ≡ command ++ (codes " => " ++ (answer_of reply ++ behind))
  pub answers : IsAnswer event reply

-- A line is written of an event, its reply and a hint.
pub record IsWritten (line : List ℕ) (event : Event) (reply : Reply) (hint : Hint) : Type 0 where
  pub parts : IsLineWith line event reply (hint_text hint)
  pub words : NamesWords hint

-- What stands behind a reply where objects may lie anywhere: behind the place of the new object its number of words, too.
abbrev pub sized_text : Hint → ℕ → List ℕ
sized_text Nothing n = []
sized_text (Place base) n = codes " @" ++ bases_text (base ∷ n ∷ [])
sized_text (Forgot bases) n = codes " -" ++ bases_text bases.now

-- the number of words is a word, and 0 where no object is placed
abbrev pub IsSize : Hint → ℕ → Type 0
IsSize Nothing n = n ≡ 0
IsSize (Place base) n = IsWord n
IsSize (Forgot bases) n = n ≡ 0

-- A line is written of an event, its reply, a hint and the number of words of the object that this places.
pub record IsWrittenSized (line : List ℕ) (event : Event) (reply : Reply) (hint : Hint) (n : ℕ) : Type 0 where
  pub parts : IsLineWith line event reply (sized_text hint n)
  pub words : NamesWords hint
  pub size : IsSize hint n
