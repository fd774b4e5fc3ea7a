-- The words of a line.
use Rattle.std.proofs.Common.{◌≡◌, ℕ, ◌+◌, ◌-◌, ◌<◌, ◌≤◌, Bool, true, false, eqb, List, [], ◌∷◌, ◌++◌, length, get_or, take, drop, sym, ap, ◌∙◌, subst, arith}
use Rattle.std.specs.Prelude.{All}
use Rattle.std.specs.List.{slice_split}
use Rattle.std.proofs.lemmas.List.{take-append-drop, drop_more, get_or-take, length-take, take_rest, take_all}
use Rattle.std.proofs.lemmas.List.Elements.{All-from_get_or}
use Rattle.std.proofs.lemmas.List.Splits.{slice_split_at, slice_split_none, length-slice_split}
use Rattle.scripts.specs.Grammar.{line_words}

abbrev is_space : ℕ → Bool
is_space b = eqb b 32

front_all : (line : List ℕ) (i : ℕ) → ((k : ℕ) → k < i → is_space (get_or line k 0) ≡ false) → All (λ b. is_space b ≡ false) (take i line)
front_all line i h = All-from_get_or (λ b. is_space b ≡ false) (take i line) 0 (λ k lt. let l : k < i = below k lt in subst (λ b. is_space b ≡ false) (sym (get_or-take i line k 0 l)) (h k l))
  where
    below : (k : ℕ) → k < length (take i line) → k < i
    below k lt = omega (arith, length-take i line)

pub split_here : (line : List ℕ) (i : ℕ) → i < length line → ((k : ℕ) → k < i → is_space (get_or line k 0) ≡ false) → is_space (get_or line i 0) ≡ true
    → slice_split is_space line ≡ take i line ∷ slice_split is_space (take (length line - (i + 1)) (drop (i + 1) line))
split_here line i lt h yes' =
    ap (slice_split is_space) (sym (take-append-drop i line) ∙ ap (λ x. take i line ++ x) (drop_more line i 0 lt))
    ∙ slice_split_at is_space (take i line) (get_or line i 0) (drop (i + 1) line) (front_all line i h) yes'
    ∙ ap (λ x. take i line ∷ slice_split is_space x) (sym (take_rest line (i + 1)))

pub split_none : (line : List ℕ) (i : ℕ) → length line ≤ i → ((k : ℕ) → k < i → is_space (get_or line k 0) ≡ false) → slice_split is_space line ≡ line ∷ []
split_none line i le h = slice_split_none is_space line (subst (All (λ b. is_space b ≡ false)) (take_all i line le) (front_all line i h))

-- a line has a word
pub words_nonempty : (line : List ℕ) → line_words line ≡ [] → ⊥
words_nonempty line e = let count = length-slice_split is_space line in let none : length (line_words line) ≡ 0 = ap length e in omega (arith, count, none)
