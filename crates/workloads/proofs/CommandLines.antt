-- The line of a command is a good one.
use Rattle.std.proofs.Common.{◌≡◌, ℕ, ◌+◌, ◌*◌, ◌<◌, ◌≤◌, false, eqb, List, [], ◌∷◌, length, refl, ap, ◌∙◌, arith, lit≤, length-append}
use Rattle.std.specs.Prelude.{All}
use Rattle.std.specs.List.{slice_split, join_with_byte}
use Rattle.std.proofs.lemmas.Bool.{ne_eqb}
use Rattle.std.proofs.lemmas.Fmt.{decimal_by_steps, length-decimal-le}
use Rattle.std.proofs.lemmas.List.Elements.{All-nil, All-cons, All-push, All-append}
use Rattle.std.proofs.lemmas.List.Splits.{slice_split_at, slice_split_none}
use Rattle.heap_spec.specs.declared.event.Event.{Event}
use Rattle.heap_spec.specs.Ranges.{InRange}
use Rattle.scripts.specs.Reading.{IsPlainLine}
use Rattle.scripts.specs.Grammar.{command_words, IsLineOf}
use Rattle.scripts.proofs.CommandWords.{IsCommandWord, AreCommandWords, letters_from, command_words_are, few_words}
use Rattle.workloads.specs.Stress.{line_of_command}

-- a word of letters and digits: no space, no newline, and short
record IsWordText (w : List ℕ) : Type 0 where
  bytes : All (λ b. 33 ≤ b) w
  short : length w ≤ 20

abbrev AreWordTexts : List (List ℕ) → Type 0
AreWordTexts [] = Unit {0}
AreWordTexts (w ∷ ws) = IsWordText w × AreWordTexts ws

word_is : (w : List ℕ) → IsCommandWord w → IsWordText w
word_is w (IsCommandWord.letters small short) = record { bytes = λ k d lt. let from = letters_from w small k d lt in omega arith; short = omega arith }
word_is w (IsCommandWord.number n fits) = record {
  bytes = decimal_by_steps (λ m ds. All (λ b. 33 ≤ b) ds) (λ m l. All-cons (λ b. 33 ≤ b) (48 + m) [] (omega arith) (All-nil (λ b. 33 ≤ b))) (λ m ds l h. All-push (λ b. 33 ≤ b) ds _ h (omega arith)) n fits;
  short = length-decimal-le 20 n (omega arith) (omega arith) fits;
}

words_are : (ws : List (List ℕ)) → AreCommandWords ws → AreWordTexts ws
words_are [] t = tt
words_are (w ∷ ws) t = (word_is w t.0, words_are ws t.1)

-- words with a space between two
low : (b : ℕ) → 33 ≤ b → eqb b 32 ≡ false
low b h = ne_eqb b 32 (λ e. omega arith)

no_space : (w : List ℕ) → All (λ b. 33 ≤ b) w → All (λ b. eqb b 32 ≡ false) w
no_space w h = λ k d lt. low _ (h k d lt)

split : (w : List ℕ) (ws : List (List ℕ)) → AreWordTexts (w ∷ ws) → slice_split (λ b. eqb b 32) (join_with_byte 32 (w ∷ ws)) ≡ w ∷ ws
split w [] t = slice_split_none (λ b. eqb b 32) w (no_space w t.0.bytes)
split w (v ∷ vs) t = slice_split_at (λ b. eqb b 32) w 32 (join_with_byte 32 (v ∷ vs)) (no_space w t.0.bytes) refl ∙ ap (λ ps. w ∷ ps) (split v vs t.1)

spaced : (w : List ℕ) → All (λ b. 33 ≤ b) w → All (λ b. 32 ≤ b) w
spaced w h = λ k d lt. let l = h k d lt in omega arith

printable : (w : List ℕ) (ws : List (List ℕ)) → AreWordTexts (w ∷ ws) → All (λ b. 32 ≤ b) (join_with_byte 32 (w ∷ ws))
printable w [] t = spaced w t.0.bytes
printable w (v ∷ vs) t = All-append (λ b. 32 ≤ b) w (32 ∷ join_with_byte 32 (v ∷ vs)) (spaced w t.0.bytes) (All-cons (λ b. 32 ≤ b) 32 (join_with_byte 32 (v ∷ vs)) (lit≤ tt) (printable v vs t.1))

room : (w : List ℕ) (ws : List (List ℕ)) → AreWordTexts (w ∷ ws) → length (join_with_byte 32 (w ∷ ws)) ≤ 21 * (length ws + 1)
room w [] t = let s = t.0.short in omega arith
room w (v ∷ vs) t = let s = t.0.short in let r = room v vs t.1 in let a = length-append w (32 ∷ join_with_byte 32 (v ∷ vs)) in omega arith

-- the line of words that are a command's
line_good : (command : Event) (w : List ℕ) (ws : List (List ℕ)) → command_words command ≡ w ∷ ws → AreWordTexts (w ∷ ws) → length ws ≤ 4 → InRange command → IsLineOf (line_of_command command) command × IsPlainLine (line_of_command command)
line_good command w ws is texts few range =
    let line : line_of_command command ≡ join_with_byte 32 (w ∷ ws) = ap (join_with_byte 32) is in
    let long = room w ws texts in (
      record {
        short = rw line (omega arith);
        words = rw (line, is) (split w ws texts);
        in_range = range;
      },
      rw line (λ k d lt e. let h = printable w ws texts k d lt in omega arith),
    )

-- the line of a command in range
pub good_line : (command : Event) → InRange command → IsLineOf (line_of_command command) command × IsPlainLine (line_of_command command)
good_line command range = by (command_words command) refl (words_are (command_words command) (command_words_are command range)) (few_words command)
  where
    by : (ws : List (List ℕ)) → command_words command ≡ ws → AreWordTexts ws → (0 < length ws) × (length ws ≤ 5) → IsLineOf (line_of_command command) command × IsPlainLine (line_of_command command)
    by [] is texts few = absurd (omega (arith, few.0))
    by (w ∷ ws) is texts few = line_good command w ws is texts (omega (arith, few.1)) range
