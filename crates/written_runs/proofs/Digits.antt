-- Numbers in decimal: they have digits alone, and a text begins with one in one way.
use Rattle.std.proofs.Common.{◌≡◌, ◌≢◌, ℕ, ◌<◌, ◌≤◌, ◌^◌, List, [], ◌∷◌, ◌++◌, refl, ap, subst, arith, sym, ◌∙◌, length, length-append}
use Rattle.std.specs.Prelude.{decimal, flat_map, codes}
use Rattle.std.specs.Char.{digit_value}
use Rattle.std.specs.Str.Parse.{AllDigits}
use Rattle.std.proofs.lemmas.Fmt.{decimal_is_IsNumeral, decimal_injective}
use Rattle.std.proofs.lemmas.List.{append_cancel_left}
use Rattle.std.proofs.lemmas.List.Elements.{All-nil, All-cons}
use Rattle.words.specs.declared.limits.TheConstants.{SLOTS}
use Rattle.written_runs.specs.Cuts.{Lacks, IsEmptyOrFrom, IsTextCut}
use Rattle.written_runs.specs.Reading.{IsNumberAt}
use Rattle.written_runs.proofs.Cutting.{same_cut}

lacks_digits : (at : ℕ) (ds : List ℕ) → 10 ≤ digit_value at → AllDigits 10 ds → Lacks at ds
lacks_digits at [] out all = All-nil (λ b. b ≢ at)
lacks_digits at (c ∷ cs) out all = All-cons (λ b. b ≢ at) c cs (λ e. let same : digit_value c ≡ digit_value at = ap digit_value e in let h = all.0 in omega (arith, h, same)) (lacks_digits at cs out all.1)

-- what is no digit is in no number
pub decimal_lacks : (at n : ℕ) → 10 ≤ digit_value at → n < 2 ^ 64 → Lacks at (decimal n)
decimal_lacks at n out small = lacks_digits at (decimal n) out (decimal_is_IsNumeral n small).0.1

-- what begins with no digit is no number
pub not_decimal : (b n : ℕ) (word : List ℕ) → 10 ≤ digit_value b → n < 2 ^ 64 → decimal n ≡ b ∷ word → ⊥
not_decimal b n word out small e = let digits : AllDigits 10 (b ∷ word) = subst (AllDigits 10) e (decimal_is_IsNumeral n small).0.1 in let h = digits.0 in omega (arith, h)

-- bases, each behind a space, begin with a space or are none
pub bases_from : (bases : List ℕ) → IsEmptyOrFrom 32 (flat_map (λ base. codes " " ++ decimal base) bases)
bases_from [] = tt
bases_from (b ∷ bases) = refl

-- numbers at the front of one text are one
pub record IsSameNumber (m n : ℕ) (r s : List ℕ) : Type 0 where
  pub number : m ≡ n
  pub rest : r ≡ s

pub same_number : (text : List ℕ) (m n : ℕ) (r s : List ℕ) → IsNumberAt text m r → IsNumberAt text n s → IsSameNumber m n r s
same_number text m n r s a b =
    let whole = append_cancel_left (codes " ") (decimal m ++ r) (decimal n ++ s) (sym a.whole ∙ b.whole) in
    let c = same_cut 32 (decimal m) r (decimal n) s whole (decimal_lacks 32 m (omega arith) a.word) a.from (decimal_lacks 32 n (omega arith) b.word) b.from in
    record { number = decimal_injective m n a.word b.word c.front; rest = c.rest }

-- a text without a number behind its space
pub no_number_here : (text more word r : List ℕ) → text ≡ codes " " ++ more → IsTextCut 32 more word r → ((n : ℕ) → n < 2 ^ 64 → word ≡ decimal n → ⊥) → (n : ℕ) (rest : List ℕ) → IsNumberAt text n rest → ⊥
no_number_here text more word r e cut none n rest at =
    let whole = append_cancel_left (codes " ") more (decimal n ++ rest) (sym e ∙ at.whole) in
    none n at.word (same_cut 32 word r (decimal n) rest (sym cut.whole ∙ whole) cut.lacks cut.from (decimal_lacks 32 n (omega arith) at.word) at.from).front

-- a slot past the last
pub no_slot : (text : List ℕ) (n : ℕ) (r : List ℕ) → IsNumberAt text n r → SLOTS ≤ n → (slot : ℕ) (s : List ℕ) → slot < SLOTS → IsNumberAt text slot s → ⊥
no_slot text n r at past slot s small other = let same = (same_number text n slot r s at other).number in omega (arith, same)

-- what is left behind a number is shorter
pub shorter : (text : List ℕ) (n : ℕ) (rest : List ℕ) → IsNumberAt text n rest → length rest < length text
shorter text n rest at = let e = ap length at.whole in omega (arith, e, length-append (codes " ") (decimal n ++ rest), length-append (decimal n) rest)
