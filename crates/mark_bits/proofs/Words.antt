-- The bits of the words of a table, and what a claimer knows of them.
use Rattle.std.proofs.Common.{◌≡◌, ◌≢◌, ℕ, zero, suc, ◌*◌, ◌/◌, ◌%◌, ◌^◌, ◌<◌, ◌≤◌, ◌⊎◌, Bool, true, false, ◌&&◌, ◌||◌, ◌==◌, eq-eqb, ne_eqb, List, [], ◌∷◌, ◌++◌, length, get_or, set, take, refl, sym, ap, ◌∙◌, arith, inl, inr, ⊎_elim}
use Rattle.std.specs.Int.{bit_at, w64}
use Rattle.std.specs.Int.RustNames.{bit_and, bit_or}
use Rattle.std.proofs.lemmas.List.{same_lists, get_or_past, get_or-take}
use Rattle.std.proofs.lemmas.Bool.{cases_lt, cases_eq, false≢true, eqb-true}
use Rattle.std.proofs.lemmas.Nat.{one_shl, pow_below, pow_pos}
use Rattle.std.proofs.lemmas.Nat.Bits.{and_pow, bit_at-lt, bit_at-zero, bit_at_set_same, bit_at_set_other}
use mathlib.Core.Option.{some, some-injective, some-ne-none}
use native.Mathlib.Decide.{ℕ_discrete}
use lib.ListN.{get_elem?}
use Rattle.words.specs.Bits.{bit, bits, IsEmptyFrom}
use Rattle.words.proofs.Rows.{bit_here, bit_else, length-bits, get_or-bits}
use Rattle.mark_bits.specs.declared.claimer_view.ClaimerView.{ClaimerView}
use Rattle.mark_bits.specs.Claims.{shows, knows, has}
use Rattle.mark_bits.specs.Rule.{mask, after_claim}

-- the test of a bit by its mask
pub masked-clear : (n k : ℕ) → k < 64 → (bit_and n (1 * 2 ^ k % 2 ^ 64) == 0) ≡ (bit_at n k == 0)
masked-clear n k h =
    let masked : bit_and n (1 * 2 ^ k % 2 ^ 64) ≡ bit_at n k * 2 ^ k = ap (bit_and n) (one_shl k 64 h) ∙ and_pow n k in
    ⊎_elim
    (λ (clear : bit_at n k ≡ 0). let none : bit_at n k * 2 ^ k ≡ 0 * 2 ^ k = ap (λ b. b * 2 ^ k) clear in
    let zero_then : bit_and n (1 * 2 ^ k % 2 ^ 64) ≡ 0 = omega arith in
    eq-eqb _ 0 zero_then ∙ sym (eq-eqb _ 0 clear))
    (λ taken.
    let below : bit_at n k < 2 = bit_at-lt n k in
    let is : bit_at n k ≡ 1 = omega arith in
    let some : bit_and n (1 * 2 ^ k % 2 ^ 64) ≡ 1 * 2 ^ k = masked ∙ ap (λ b. b * 2 ^ k) is in
    let pow = pow_pos k in
    ne_eqb _ 0 (λ none. absurd (omega arith)) ∙ sym (ne_eqb _ 0 taken))
    (cases_eq (bit_at n k) 0)

-- past the words no bit is set
pub bit_past : (words : List ℕ) (k : ℕ) → length words ≤ k / 64 → bit words k ≡ false
unfolding bit
bit_past words k past = ap (λ x. bit_at x (k % 64) == 1) (get_or_past words (k / 64) 0 past) ∙ ap (λ x. x == 1) (bit_at-zero (k % 64))

-- a row whose words are full has a bit of them everywhere
pub has-bits : (words : List ℕ) (row : List Bool) (k : ℕ) → bits words (length row) ≡ row → 64 * length words ≡ length row → has row k ≡ bit words k
has-bits words row k is size =
    ⊎_elim
    (λ lt. ap (λ r. get_or r k false) (sym is) ∙ get_or-bits words (length row) k false lt)
    (λ past. get_or_past row k false (omega arith) ∙ sym (bit_past words k (omega arith)))
    (cases_lt k (length row))

-- the same of words that end before the row does, past which it has none
pub has-below : (words : List ℕ) (row : List Bool) (end k : ℕ) → 64 * length words ≡ end → IsEmptyFrom row end → ((j : ℕ) → j < end → bit words j ≡ has row j) → has row k ≡ bit words k
has-below words row end k size none below =
    ⊎_elim
    (λ lt. sym (below k lt))
    (λ past.
    let clear : has row k ≡ false = ⊎_elim (λ lt. none k (omega arith) lt) (λ out. get_or_past row k false (omega arith)) (cases_lt k (length row)) in
    clear ∙ sym (bit_past words k (omega arith)))
    (cases_lt k end)

-- the words past those of a row may go
pub bit-take : (words : List ℕ) (n k : ℕ) → k / 64 < n → bit (take n words) k ≡ bit words k
unfolding bit
bit-take words n k lt = ap (λ x. bit_at x (k % 64) == 1) (get_or-take n words (k / 64) 0 lt)

pub bits-take : (words : List ℕ) (n : ℕ) → 64 * (n / 64) ≡ n → bits (take (n / 64) words) n ≡ bits words n
bits-take words n whole =
    same_lists _ _ (length-bits _ n ∙ sym (length-bits _ n))
    (λ k d lt.
    let inside : k < n = rw length-bits at lt in
    get_or-bits (take (n / 64) words) n k d inside
    ∙ bit-take words (n / 64) k (omega arith)
    ∙ sym (get_or-bits words n k d inside))

-- the words after a claim of the bit k
abbrev pub claimed_words : List ℕ → ℕ → List ℕ
claimed_words words k = set words (k / 64) (bit_or (get_or words (k / 64) 0) (mask k))

module _ (words : List ℕ) (k : ℕ) (inside : k / 64 < length words) where
  pub set_here : bit (claimed_words words k) k ≡ true
  set_here =
      let within : k % 64 < 64 = omega arith in let n : ℕ = get_or words (k / 64) 0 in
      bit_here words k (bit_or n (mask k)) true inside (ap (λ x. x == 1) (bit_at_set_same w64 n (k % 64) within)) (λ j lt ne. bit_at_set_other w64 n (k % 64) within j ne)

  pub set_else : (j : ℕ) → j ≢ k → bit (claimed_words words k) j ≡ bit words j
  set_else j ne =
      let within : k % 64 < 64 = omega arith in let n : ℕ = get_or words (k / 64) 0 in
      bit_else words k (bit_or n (mask k)) true inside (ap (λ x. x == 1) (bit_at_set_same w64 n (k % 64) within)) (λ i lt ne. bit_at_set_other w64 n (k % 64) within i ne) j ne
      (ℕ_discrete (j / 64) (k / 64))

  -- no bit goes
  pub set_up : (j : ℕ) → bit words j ≡ true → bit (claimed_words words k) j ≡ true
  set_up j h = ⊎_elim (λ (e : j ≡ k). ap (bit (claimed_words words k)) e ∙ set_here) (λ ne. set_else j ne ∙ h) (cases_eq j k)

-- a bit of the words is a bit of its word
pub bit_is : (words : List ℕ) (k : ℕ) → bit words k ≡ (bit_at (get_or words (k / 64) 0) (k % 64) == 1)
unfolding bit
bit_is words k = refl

pub bit_known : (words : List ℕ) (k : ℕ) → bit words k ≡ true → bit_at (get_or words (k / 64) 0) (k % 64) ≡ 1
unfolding bit
bit_known words k h = eqb-true (bit_at (get_or words (k / 64) 0) (k % 64)) 1 h

-- the same where the word was read from the closed table
read_is : (words : List ℕ) (i w : ℕ) → get_elem? words i ≡ some w → get_or words i 0 ≡ w
read_is [] i w e = absurd (some-ne-none w (sym e))
read_is (x ∷ xs) zero w e = some-injective x w e
read_is (x ∷ xs) (suc i) w e = read_is xs i w e

pub bit_of_word : (words : List ℕ) (k j w : ℕ) → k / 64 ≡ j → get_elem? words j ≡ some w → (bit_at w (k % 64) == 1) ≡ bit words k
unfolding bit
bit_of_word words k j w e at = sym (ap (λ i. bit_at (get_or words i 0) (k % 64) == 1) e ∙ ap (λ x. bit_at x (k % 64) == 1) (read_is words j w at))

-- a word and a mask say one bit
same_power : (a b : ℕ) → 2 ^ a ≡ 2 ^ b → a ≡ b
same_power a b e =
    ⊎_elim (λ lt. let p : 2 ^ a < 2 ^ b = pow_below a b lt in absurd (omega arith))
    (λ ge. ⊎_elim (λ lt. let p : 2 ^ b < 2 ^ a = pow_below b a lt in absurd (omega arith)) (λ le. omega arith) (cases_lt b a))
    (cases_lt a b)

pub same_bit : (j k : ℕ) → j / 64 ≡ k / 64 → mask j ≡ mask k → k ≡ j
same_bit j k word power =
    let place : j % 64 ≡ k % 64 = same_power (j % 64) (k % 64) (sym (one_shl (j % 64) 64 (omega arith)) ∙ power ∙ one_shl (k % 64) 64 (omega arith)) in
    omega arith

and_false : (a b : Bool) → ((a && false) || b) ≡ b
and_false true b = refl
and_false false b = refl

or_true : (b : Bool) → (b || true) ≡ true
or_true true = refl
or_true false = refl

or_up : (a b c : Bool) → (b ≡ true → c ≡ true) → (a || b) ≡ true → (a || c) ≡ true
or_up true b c up h = refl
or_up false b c up h = up h

or_cases : (a b c d : Bool) → (b ≡ true → (c ≡ true) ⊎ (d ≡ true)) → (a || b) ≡ true → ((a || c) ≡ true) ⊎ (d ≡ true)
or_cases true b c d f h = inl refl
or_cases false b c d f h = f h

-- a bit that is known after one word more was seen is in this word, or was known before
shows-cases : (k i n : ℕ) (seen : List (ℕ × ℕ)) → shows k ((i, n) ∷ seen) ≡ true → ((i ≡ k / 64) × (bit_at n (k % 64) ≡ 1)) ⊎ (shows k seen ≡ true)
shows-cases k i n seen h =
    ⊎_elim
    (λ (e : i ≡ k / 64). ⊎_elim
    (λ (b : bit_at n (k % 64) ≡ 1). inl (e, b))
    (λ ne. inr (sym (ap (λ x. ((i == k / 64) && x) || shows k seen) (ne_eqb (bit_at n (k % 64)) 1 ne) ∙ and_false (i == k / 64) (shows k seen)) ∙ h))
    (cases_eq (bit_at n (k % 64)) 1))
    (λ ne. inr (sym (ap (λ x. (x && (bit_at n (k % 64) == 1)) || shows k seen) (ne_eqb i (k / 64) ne)) ∙ h))
    (cases_eq i (k / 64))

-- what is seen in a word of the table is set there
pub shows-word : (words : List ℕ) (i n : ℕ) (seen : List (ℕ × ℕ)) → get_or words i 0 ≡ n
    → ((k : ℕ) → shows k seen ≡ true → bit words k ≡ true) → (k : ℕ) → shows k ((i, n) ∷ seen) ≡ true → bit words k ≡ true
unfolding bit
shows-word words i n seen is before k h =
    ⊎_elim
    (λ (t : (i ≡ k / 64) × (bit_at n (k % 64) ≡ 1)). ap (λ j. bit_at (get_or words j 0) (k % 64) == 1) (sym t.0) ∙ ap (λ x. bit_at x (k % 64) == 1) is ∙ ap (λ x. x == 1) t.1)
    (λ t. before k t)
    (shows-cases k i n seen h)

-- what is known stays known, and the bit of a word that was seen is known
pub shows-more : (k : ℕ) (x : ℕ × ℕ) (seen : List (ℕ × ℕ)) → shows k seen ≡ true → shows k (x ∷ seen) ≡ true
shows-more k x seen h = ap (λ b. ((x.0 == k / 64) && (bit_at x.1 (k % 64) == 1)) || b) h ∙ or_true _

pub shows-here : (k n : ℕ) (seen : List (ℕ × ℕ)) → bit_at n (k % 64) ≡ 1 → shows k ((k / 64, n) ∷ seen) ≡ true
shows-here k n seen e =
    ap (λ x. (x && (bit_at n (k % 64) == 1)) || shows k seen) (eq-eqb (k / 64) (k / 64) refl)
    ∙ ap (λ x. (x == 1) || shows k seen) e

-- after a claim the claimer knows the bit
pub claim_known : (v w : ClaimerView) (k n : ℕ) → w ≡ after_claim v k n → knows w k ≡ true
claim_known v w k n e = ap (λ (u : ClaimerView). knows u k) e ∙ shows-here k (bit_or n (mask k)) v.seen (bit_at_set_same w64 n (k % 64) (omega arith))

-- what two claimers know together
pub shows-append : (k : ℕ) (xs ys : List (ℕ × ℕ)) → shows k (xs ++ ys) ≡ true → (shows k xs ≡ true) ⊎ (shows k ys ≡ true)
shows-append k [] ys h = inr h
shows-append k (x ∷ xs) ys h = or_cases ((x.0 == k / 64) && (bit_at x.1 (k % 64) == 1)) (shows k (xs ++ ys)) (shows k xs) (shows k ys) (shows-append k xs ys) h

pub shows-left : (k : ℕ) (xs ys : List (ℕ × ℕ)) → shows k xs ≡ true → shows k (xs ++ ys) ≡ true
shows-left k [] ys h = absurd (false≢true h)
shows-left k (x ∷ xs) ys h = or_up ((x.0 == k / 64) && (bit_at x.1 (k % 64) == 1)) (shows k xs) (shows k (xs ++ ys)) (shows-left k xs ys) h

pub shows-right : (k : ℕ) (xs ys : List (ℕ × ℕ)) → shows k ys ≡ true → shows k (xs ++ ys) ≡ true
shows-right k [] ys h = h
shows-right k (x ∷ xs) ys h = shows-more k x (xs ++ ys) (shows-right k xs ys h)
