-- Which words are numbers, told by their first byte and by what std reads.
use Rattle.std.proofs.Common.{◌≡◌, ℕ, ◌+◌, ◌-◌, ◌*◌, ◌<◌, ◌≤◌, ◌^◌, ◌/◌, List, [], ◌∷◌, length, get_or, true, Result, Ok, Err, rules, sym, ap, ◌∙◌, arith}
use Rattle.std.specs.Prelude.{Option, Some, None, MatchOption, decimal}
use Rattle.std.specs.Result.{OkIff}
use Rattle.std.specs.Str.{all_ascii_digits}
use Rattle.std.specs.Str.Parse.{ParsesUnsigned}
use Rattle.std.proofs.lemmas.Fmt.{decimal_digit, decimal_nonempty, first_decimal, decimal-digits_value}
use Rattle.std.proofs.lemmas.Str.Parse.{IsNumeralModel, numerals_by_fold, parse_plain}
use Rattle.itoa.proofs.Decimal.{length_step_wide}

abbrev read_on : ℕ → List ℕ → ℕ
read_on n [] = n
read_on n (c ∷ cs) = read_on (10 * n + (c - 48)) cs

own : IsNumeralModel (λ ds. all_ascii_digits ds ≡ true) (read_on 0)
own = numerals_by_fold _ (search rules) read_on (search rules)

-- no number is printed by no byte
pub no_digit : (n : ℕ) (word : List ℕ) → n < 2 ^ 64 → length word ≡ 0 → word ≡ decimal n → ⊥
no_digit n word lt none is = let h : 0 < length (decimal n) = decimal_nonempty n lt in let e : length word ≡ length (decimal n) = ap length is in omega (arith, none, h, e)

-- a byte that prints a number alone
one_digit : (n : ℕ) (word : List ℕ) → n < 10 → length word ≡ 1 → get_or word 0 0 ≡ 48 + n → word ≡ decimal n
one_digit n [] lt one is = absurd (omega (arith, one))
one_digit n (b ∷ []) lt one is = ap (λ x. x ∷ []) is ∙ sym (decimal_digit n lt)
one_digit n (b ∷ c ∷ bs) lt one is = absurd (omega (arith, one))

-- what is printed by one byte is below 10
below_ten : (n : ℕ) (word : List ℕ) → n < 2 ^ 64 → length word ≡ 1 → word ≡ decimal n → n < 10
below_ten n word lt one is =
    let e : length word ≡ length (decimal n) = ap length is in
    let least : 10 ≤ n → ⊥ = λ le.
    let step : length (decimal n) ≡ length (decimal (n / 10)) + 1 = length_step_wide n le (omega arith) in
    let more : 0 < length (decimal (n / 10)) = decimal_nonempty (n / 10) (omega arith) in
    omega (arith, e, one, step, more) in
    omega (arith, least)

-- a word of one byte
pub of_digit : (word : List ℕ) (found : Option ℕ) → length word ≡ 1 → MatchOption found ((n : ℕ) → n < 10 → get_or word 0 0 ≡ 48 + n → ⊥) (λ n. (get_or word 0 0 ≡ 48 + n) × (n < 10))
    → MatchOption found ((n : ℕ) → n < 2 ^ 64 → word ≡ decimal n → ⊥) (λ n. (word ≡ decimal n) × (n < 2 ^ 64))
of_digit word None one h = λ n lt is.
    let small : n < 10 = below_ten n word lt one is in
    h n small (ap (λ bs. get_or bs 0 0) (is ∙ decimal_digit n small))
of_digit word (Some n) one h = (one_digit n word h.1 one h.0, omega (arith, h.1))

-- a longer word that begins with 0 is no number
pub no_leading_zero : (n : ℕ) (word : List ℕ) → n < 2 ^ 64 → (length word ≡ 1 → ⊥) → get_or word 0 0 ≡ 48 → word ≡ decimal n → ⊥
no_leading_zero n word lt long zero is =
    let positive : 0 < n → ⊥ = λ p. let h : 48 < get_or (decimal n) 0 0 = first_decimal n p lt in let e : get_or word 0 0 ≡ get_or (decimal n) 0 0 = ap (λ bs. get_or bs 0 0) is in omega (arith, h, e, zero) in
    let small : n < 10 = omega (arith, positive) in
    long (ap length (is ∙ decimal_digit n small))

-- and one that begins with a sign isn't
pub no_sign : (n : ℕ) (word : List ℕ) → n < 2 ^ 64 → get_or word 0 0 ≡ 43 → word ≡ decimal n → ⊥
no_sign n word lt plus is =
    let e : get_or word 0 0 ≡ get_or (decimal n) 0 0 = ap (λ bs. get_or bs 0 0) is in
    let positive : 0 < n → ⊥ = λ p. let h : 48 < get_or (decimal n) 0 0 = first_decimal n p lt in omega (arith, h, e, plus) in
    let small : n < 10 = omega (arith, positive) in
    let f : get_or (decimal n) 0 0 ≡ 48 + n = ap (λ bs. get_or bs 0 0) (decimal_digit n small) in
    omega (arith, e, f, plus)

-- what is read without a leading zero or a sign is printed by these bytes
pub prints_back : {E : Type 0} (n : ℕ) (word : List ℕ) (r : Result ℕ E) → ParsesUnsigned 64 10 word r → r ≡ Ok n → (get_or word 0 0 ≡ 48 → ⊥) → (get_or word 0 0 ≡ 43 → ⊥) → (word ≡ decimal n) × (n < 2 ^ 64)
prints_back {E} n word (Ok m) parses is zero plus =
    let h : OkIff {T = ℕ} {E = E} (Ok m) ((all_ascii_digits word ≡ true) × (0 < length word) × (read_on 0 word < 2 ^ 64)) (read_on 0 word) = parse_plain own {E = E} 64 word (Ok m) parses plus in
    let same : n ≡ m = cc in
    let back : decimal (read_on 0 word) ≡ word = decimal-digits_value own word h.0.0 h.0.1 (λ e. absurd (zero e)) h.0.2 in
    (sym back ∙ ap decimal (sym h.1 ∙ sym same), omega (arith, h.0.2, h.1, same))
prints_back {E} n word (Err e) parses is zero plus = absurd cc
