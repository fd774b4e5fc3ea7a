-- Numbers by the words that print them.
use Rattle.std.proofs.Common.{◌≡◌, ℕ, ◌<◌, ◌≤◌, ◌^◌, List, sym, ap, ◌∙◌, arith}
use Rattle.std.specs.Prelude.{Option, Some, None, MatchOption, decimal}
use Rattle.std.proofs.lemmas.Fmt.{decimal_injective}

-- a word is one number
pub one_number : (m n : ℕ) (word : List ℕ) → m < 2 ^ 64 → n < 2 ^ 64 → word ≡ decimal m → word ≡ decimal n → m ≡ n
one_number m n word fits fits' is is' = decimal_injective m n fits fits' (sym is ∙ is')

-- a number that was checked against a limit
pub limited : (limit n : ℕ) (word : List ℕ) (found : Option ℕ) → limit ≤ 256 → n < 256 → word ≡ decimal n → MatchOption found (limit ≤ n) (λ r. (r ≡ n) × (n < limit))
    → MatchOption found ((m : ℕ) → m < limit → word ≡ decimal m → ⊥) (λ r. (word ≡ decimal r) × (r < limit))
limited limit n word None le fits is h = λ m small other. let same : m ≡ n = one_number m n word (omega arith) (omega arith) other is in omega (arith, same)
limited limit n word (Some r) le fits is h = (is ∙ ap decimal (sym h.0), omega (arith, h.0, h.1))

-- a number past the limit is none below it
pub past : (limit n : ℕ) (word : List ℕ) → limit ≤ n → n < 2 ^ 64 → word ≡ decimal n → (m : ℕ) → m < limit → word ≡ decimal m → ⊥
past limit n word le fits is m small other = let same : m ≡ n = one_number m n word (omega arith) fits other is in omega (arith, same)
