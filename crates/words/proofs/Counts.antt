-- How many bits of a row of words are set.
use Rattle.std.proofs.Common.{◌≡◌, ℕ, zero, suc, ◌-◌, ◌+◌, ◌*◌, ◌/◌, ◌%◌, ◌^◌, ◌<◌, ◌≤◌, Bool, false, ◌==◌, List, length, get_or, take, drop, refl, sym, ap, ◌∙◌, subst, arith}
use Rattle.std.specs.Int.{bit_at}
use Rattle.std.specs.Int.RustNames.{bit_and, count_ones}
use Rattle.std.proofs.lemmas.List.{get_or-drop, length-drop, length-take}
use Rattle.std.proofs.lemmas.List.Sums.{count_by_more_yes, count_by_more_no, count_by-le-length}
use Rattle.std.proofs.lemmas.Nat.{mod-pow-add, ones_cat, and_mask, one_shl, mod_below, pow_pos}
use Rattle.std.proofs.lemmas.Nat.Bits.{bit_at-lt}
use Rattle.std.proofs.Math.Nat.{mod-one, mod-eq_of_lt}
use Rattle.std.proofs.Math.Seq.{take-length}
use Rattle.words.specs.Bits.{bit, bits, members, members_between, IsCount}
use Rattle.words.proofs.Rows.{length-bits, get_or-bits}

-- ---- the ones among the lowest bits of a word
ones_bit : (b : ℕ) → b < 2 → count_ones b ≡ b
unfolding count_ones
ones_bit zero lt = refl
ones_bit (suc zero) lt = refl
ones_bit (suc (suc n)) lt = absurd (omega arith)

more_ones : (w k : ℕ) → count_ones (w % 2 ^ (k + 1)) ≡ count_ones (w % 2 ^ k) + bit_at w k
more_ones w k =
    let low : w % 2 ^ k < 2 ^ k = mod_below w (2 ^ k) (pow_pos k) in
    let one : count_ones (bit_at w k) ≡ bit_at w k = ones_bit (bit_at w k) (bit_at-lt w k) in
    let order : k + 1 ≡ 1 + k = omega arith in
    let split : count_ones (w % 2 ^ (k + 1)) ≡ count_ones (bit_at w k) + count_ones (w % 2 ^ k) =
    ap (λ n. count_ones (w % 2 ^ n)) order ∙ ap count_ones (mod-pow-add w 1 k) ∙ ones_cat k (bit_at w k) (w % 2 ^ k) low in
    omega (arith, split, one)

-- bit k of the word j
bit_here : (words : List ℕ) (j k : ℕ) → k < 64 → bit words (64 * j + k) ≡ (bit_at (get_or words j 0) k == 1)
unfolding bit
bit_here words j k few =
    let word : (64 * j + k) / 64 ≡ j = omega arith in
    let place : (64 * j + k) % 64 ≡ k = omega arith in
    ap (λ i. bit_at (get_or words i 0) ((64 * j + k) % 64) == 1) word ∙ ap (λ i. bit_at (get_or words j 0) i == 1) place

-- ---- a row grows by one bit
pub member_more : (row : List Bool) (low k b : ℕ) → low ≤ k → k < length row → b < 2 → get_or row k false ≡ (b == 1) → members_between row low (k + 1) ≡ members_between row low k + b
member_more row low k b from lt small is =
    let len : length (drop low row) ≡ length row - low = length-drop low row in
    let i : ℕ = k - low in
    let at : get_or (drop low row) i false ≡ (b == 1) = get_or-drop low row i false ∙ ap (λ j. get_or row j false) (let e : low + (k - low) ≡ k = omega arith in e) ∙ is in
    let next : k + 1 - low ≡ i + 1 = omega arith in
    ap (λ n. members (take n (drop low row))) next ∙ by b small at
  where
    by : (c : ℕ) → c < 2 → get_or (drop low row) (k - low) false ≡ (c == 1) → members (take (k - low + 1) (drop low row)) ≡ members (take (k - low) (drop low row)) + c
    by zero small at = count_by_more_no (λ x. x) (drop low row) (k - low) false (omega (arith, length-drop low row)) at ∙ omega arith
    by (suc zero) small at = count_by_more_yes (λ x. x) (drop low row) (k - low) false (omega (arith, length-drop low row)) at
    by (suc (suc c)) small at = absurd (omega arith)

-- and by bits that aren't set
pub members_same : (row : List Bool) (low from n : ℕ) → low ≤ from → from + n ≤ length row → ((k : ℕ) → from ≤ k → k < from + n → get_or row k false ≡ false)
    → members_between row low (from + n) ≡ members_between row low from
members_same row low from zero after fits none = ap (members_between row low) (let e : from + 0 ≡ from = omega arith in e)
members_same row low from (suc n) after fits none =
    let next : from + suc n ≡ from + n + 1 = omega arith in
    let before = members_same row low from n after (omega arith) (λ k a b. none k a (omega arith)) in
    let one = member_more row low (from + n) 0 (omega arith) (omega arith) (omega arith) (none (from + n) (omega arith) (omega arith)) in
    ap (members_between row low) next ∙ one ∙ omega (arith, before)

-- and by the lowest bits of a word
word_more : (words : List ℕ) (n low j k : ℕ) → low ≤ 64 * j → k ≤ 64 → 64 * j + k ≤ n
    → members_between (bits words n) low (64 * j + k) ≡ members_between (bits words n) low (64 * j) + count_ones (get_or words j 0 % 2 ^ k)
word_more words n low j zero from few fits =
    let none : count_ones (get_or words j 0 % 2 ^ 0) ≡ 0 = ap count_ones (mod-one (get_or words j 0)) ∙ ones_bit 0 (omega arith) in
    ap (members_between (bits words n) low) (let e : 64 * j + 0 ≡ 64 * j = omega arith in e) ∙ omega (arith, none)
word_more words n low j (suc k) from few fits =
    let w : ℕ = get_or words j 0 in
    let order : 64 * j + suc k ≡ 64 * j + k + 1 = omega arith in
    let up : suc k ≡ k + 1 = omega arith in
    let before = word_more words n low j k from (omega arith) (omega arith) in
    let one = member_more (bits words n) low (64 * j + k) (bit_at w k) (omega arith) (let len = length-bits words n in omega arith) (bit_at-lt w k)
    (get_or-bits words n (64 * j + k) false (omega arith) ∙ bit_here words j k (omega arith)) in
    let ones = ap (λ i. count_ones (w % 2 ^ i)) up ∙ more_ones w k in
    ap (members_between (bits words n) low) order ∙ one ∙ omega (arith, before, ones)

-- ---- the loop
pub none_counted : (words : List ℕ) (low : ℕ) → low % 64 ≡ 0 → IsCount words low (64 * (low / 64)) 0
none_counted words low whole = record {
  of_row = λ n inside. ap (λ i. members (take i (drop low (bits words n)))) (let e : 0 ≡ 64 * (low / 64) - low = omega arith in e);
}

pub low_counted : (words : List ℕ) (low j k count w : ℕ) → IsCount words low (64 * j) count → low ≤ 64 * j → k ≤ 64 → w ≡ get_or words j 0 → IsCount words low (64 * j + k) (count + count_ones (w % 2 ^ k))
low_counted words low j k count w before from few is = record {
  of_row = λ n inside. ap (λ x. count + count_ones (x % 2 ^ k)) is ∙ ap (λ c. c + count_ones (get_or words j 0 % 2 ^ k)) (before.of_row n (omega arith)) ∙ sym (word_more words n low j k from few inside);
}

pub word_counted : (words : List ℕ) (low j count w : ℕ) → IsCount words low (64 * j) count → low ≤ 64 * j → w ≡ get_or words j 0 → w < 2 ^ 64 → IsCount words low (64 * (j + 1)) (count + count_ones w)
word_counted words low j count w before from is small =
    let whole : w % 2 ^ 64 ≡ w = mod-eq_of_lt small in
    let at : 64 * j + 64 ≡ 64 * (j + 1) = omega arith in
    subst (λ h. IsCount words low h (count + count_ones w)) at (subst (λ x. IsCount words low (64 * j + 64) (count + count_ones x)) whole (low_counted words low j 64 count w before from (omega arith) is))

pub rest_counted : (words : List ℕ) (low high j count w : ℕ) → IsCount words low (64 * j) count → low ≤ 64 * j → j ≡ high / 64 → w ≡ get_or words j 0
    → IsCount words low high (count + count_ones (bit_and w (1 * 2 ^ (high % 64) % 2 ^ 64 - 1)))
rest_counted words low high j count w before from at is =
    let k : ℕ = high % 64 in
    let masked : bit_and w (1 * 2 ^ k % 2 ^ 64 - 1) ≡ w % 2 ^ k = ap (λ m. bit_and w (m - 1)) (one_shl k 64 (omega arith)) ∙ and_mask w k in
    let end : 64 * j + k ≡ high = omega arith in
    subst (λ h. IsCount words low h (count + count_ones (bit_and w (1 * 2 ^ k % 2 ^ 64 - 1)))) end
    (subst (λ x. IsCount words low (64 * j + k) (count + count_ones x)) (sym masked) (low_counted words low j k count w before from (omega arith) is))

pub count_small : (words : List ℕ) (low high count : ℕ) → IsCount words low high count → count ≤ high - low
count_small words low high count is =
    let row = bits words high in
    let most = count_by-le-length (λ b. b) (take (high - low) (drop low row)) in
    let size = length-take (high - low) (drop low row) in
    let e = is.of_row high (omega arith) in
    omega (arith, most, size, e)

-- ---- all bits
pub row_counted : (words : List ℕ) (n count : ℕ) → IsCount words 0 n count → count ≡ members (bits words n)
row_counted words n count is =
    let e : n - 0 ≡ length (bits words n) = omega (arith, length-bits words n) in
    is.of_row n (omega arith) ∙ ap (λ k. members (take k (bits words n))) e ∙ ap members (take-length (bits words n))

pub ruleset counts = (none_counted, word_counted, rest_counted, count_small)
