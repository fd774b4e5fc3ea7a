-- Where so many ones in a row begin: of two words by shifts, of a row of words by those in which none do.
use Rattle.std.proofs.Common.{◌≡◌, ℕ, zero, suc, max, ◌-◌, ◌+◌, ◌*◌, ◌/◌, ◌%◌, ◌^◌, ◌<◌, ◌≤◌, Bool, true, false, ◌==◌, List, length, get_or, refl, sym, ap, ◌∙◌, ⊎_elim, arith}
use Rattle.std.specs.Int.{bit_at}
use Rattle.std.specs.Int.RustNames.{bit_and}
use Rattle.std.proofs.lemmas.Bool.{cases_lt, false≢true}
use Rattle.std.proofs.lemmas.Nat.Bits.{bit_at_and, bit_at-lt, bit_at-zero, bit_at_cat_low, bit_at_cat_high}
use Rattle.words.specs.Bits.{bit, bits, HasNoBit, IsFirstBit}
use Rattle.words.proofs.Rows.{get_or-bits}
use Rattle.words.proofs.Scans.{bit_at_shr}
use Rattle.pages.specs.Runs.{IsFreeRun, IsFirstFreeRunFrom, HasNoFreeRunFrom}
use Rattle.pages.specs.Starts.{IsPair, IsStart, AreShrunk, AreStarts, IsNextPair, IsFirstStart}

one_of : (b : ℕ) → b < 2 → (b == 1) ≡ true → b ≡ 1
one_of zero lt e = absurd (false≢true e)
one_of (suc zero) lt e = refl
one_of (suc (suc b)) lt e = absurd (omega (arith, lt))

low_bit : (y i : ℕ) → i < 64 → bit_at (y % 2 ^ 64) i ≡ bit_at y i
low_bit y i lt =
    let whole : y / 2 ^ 64 * 2 ^ 64 + y % 2 ^ 64 ≡ y = omega arith in
    sym (bit_at_cat_low (y / 2 ^ 64) 64 (y % 2 ^ 64) i lt) ∙ ap (λ x. bit_at x i) whole

-- ---- two words as one
bit_in : (words : List ℕ) (j p : ℕ) → p < 64 → (bit_at (get_or words j 0) p == 1) ≡ bit words (64 * j + p)
unfolding bit
bit_in words j p lt =
    let word : j ≡ (64 * j + p) / 64 = omega arith in
    let place : p ≡ (64 * j + p) % 64 = omega arith in
    ap (λ i. bit_at (get_or words i 0) p == 1) word ∙ ap (λ q. bit_at (get_or words ((64 * j + p) / 64) 0) q == 1) place

pub pair_is : (words : List ℕ) (j next word : ℕ) → word ≡ get_or words j 0 → word < 2 ^ 64 → next < 2 ^ 64 → next ≡ get_or words (j + 1) 0 → IsPair words j (next * 2 ^ 64 % 2 ^ 128 + word)
pair_is words j next word here fits few is = record {
  bits = λ p lt.
      let cat : next * 2 ^ 64 % 2 ^ 128 + word ≡ next * 2 ^ 64 + word = omega arith in
      ap (λ n. bit_at n p == 1) cat
      ∙ ⊎_elim
      (λ low. ap (λ b. b == 1) (bit_at_cat_low next 64 word p low) ∙ ap (λ n. bit_at n p == 1) here ∙ bit_in words j p low)
      (λ high.
      let at : 64 * (j + 1) + (p - 64) ≡ 64 * j + p = omega (arith, high) in
      ap (λ b. b == 1) (bit_at_cat_high next 64 word p fits high)
      ∙ ap (λ n. bit_at n (p - 64) == 1) is
      ∙ bit_in words (j + 1) (p - 64) (omega (arith, lt, high))
      ∙ ap (bit words) at)
      (cases_lt p 64);
}

-- ---- the places where so many ones begin, by shifts
shrunk_none : (both : ℕ) → AreShrunk both 1 both
shrunk_none both = record {
  one = λ i e k lt. let same : i + k ≡ i = omega (arith, lt) in ap (bit_at both) same ∙ e;
  all = λ i h. let same : i ≡ i + 0 = omega arith in ap (bit_at both) same ∙ h 0 (omega arith);
}

pub shrunk_more : (both have y step : ℕ) → AreShrunk both have y → step ≤ have → AreShrunk both (have + step) (bit_and y (y / 2 ^ step))
shrunk_more both have y step a few = record {
  one = λ i e k lt.
      let either = bit_at_and y (y / 2 ^ step) i in
      let here : bit_at y i ≡ 1 = omega (arith, e, either, bit_at-lt y i, bit_at-lt (y / 2 ^ step) i) in
      let shifted : bit_at (y / 2 ^ step) i ≡ 1 = omega (arith, e, either, bit_at-lt y i, bit_at-lt (y / 2 ^ step) i) in
      ⊎_elim
      (λ low. a.one i here k low)
      (λ high.
      let at : i + k ≡ step + i + (k - step) = omega (arith, high, few) in
      ap (bit_at both) at ∙ a.one (step + i) (sym (bit_at_shr y step i) ∙ shifted) (k - step) (omega (arith, lt, high, few)))
      (cases_lt k have);
  all = λ i h.
      let here : bit_at y i ≡ 1 = a.all i (λ k lt. h k (omega (arith, lt))) in
      let shifted : bit_at (y / 2 ^ step) i ≡ 1 = bit_at_shr y step i ∙ a.all (step + i) (λ k lt. let at : step + i + k ≡ i + (step + k) = omega arith in ap (bit_at both) at ∙ h (step + k) (omega (arith, lt))) in
      omega (arith, bit_at_and y (y / 2 ^ step) i, here, shifted);
}

pub shrunk_two : (both : ℕ) → AreShrunk both 2 (bit_and both (both / 2 ^ 1))
shrunk_two both = shrunk_more both 1 both 1 (shrunk_none both) (omega arith)

pub ruleset pairing = (shrunk_two)

module _ (words : List ℕ) (j both have y n : ℕ) (pair : IsPair words j both) (shrunk : AreShrunk both have y) (few : n ≤ 64) where
  begins : (i : ℕ) → i < 64 → have ≤ n → IsStart words n (64 * j + i) → bit_at (y % 2 ^ 64) i ≡ 1
  begins i lt less h = low_bit y i lt ∙ shrunk.all i (λ k below.
      let at : 64 * j + (i + k) ≡ 64 * j + i + k = omega arith in
      one_of (bit_at both (i + k)) (bit_at-lt both (i + k)) (pair.bits (i + k) (omega (arith, lt, below, less, few)) ∙ ap (bit words) at ∙ h k (omega (arith, below, less))))

  pub starts_all : have ≡ n → AreStarts words j n (y % 2 ^ 64)
  starts_all is = record {
    one = λ i lt e k below.
        let at : 64 * j + i + k ≡ 64 * j + (i + k) = omega arith in
        let here : bit_at both (i + k) ≡ 1 = shrunk.one i (sym (low_bit y i lt) ∙ e) k (omega (arith, below, is)) in
        ap (bit words) at ∙ sym (pair.bits (i + k) (omega (arith, lt, below, few))) ∙ ap (λ b. b == 1) here;
    all = λ i lt h. begins i lt (omega (arith, is)) h;
  }

  pub starts_none : have ≤ n → y % 2 ^ 64 ≡ 0 → AreStarts words j n (y % 2 ^ 64)
  starts_none less none = record {
    one = λ i lt e. let zero_bit : bit_at (y % 2 ^ 64) i ≡ 0 = ap (λ x. bit_at x i) none ∙ bit_at-zero i in absurd (omega (arith, e, zero_bit));
    all = λ i lt h. begins i lt less h;
  }

-- ---- words in which no two ones begin are passed over
pub record IsPassed (words : List ℕ) (low j : ℕ) : Type 0 where
  pub from : low ≤ j
  pub least : (i : ℕ) → 64 * low ≤ i → i < 64 * j → IsStart words 2 i → ⊥

pub pass_start : (words : List ℕ) (low : ℕ) → IsPassed words low low
pass_start words low = record { from = omega arith; least = λ i a b. absurd (omega (arith, a, b)) }

pub pass_more : (words : List ℕ) (low j both pairs : ℕ) → IsPassed words low j → IsPair words j both → AreShrunk both 2 pairs → pairs % 2 ^ 64 ≡ 0 → IsPassed words low (j + 1)
pass_more words low j both pairs passed pair shrunk none =
    let past = passed.from in record {
      from = omega (arith, past);
      least = λ i from below start. ⊎_elim
          (λ before. passed.least i from before start)
          (λ here.
          let starts = starts_none words j both 2 pairs 2 pair shrunk (omega arith) (omega arith) none in
          let at : i ≡ 64 * j + (i - 64 * j) = omega (arith, here) in
          let one = starts.all (i - 64 * j) (omega (arith, below, here)) (λ k lt. ap (λ m. bit words (m + k)) (sym at) ∙ start k lt) in
          let zero_bit : bit_at (pairs % 2 ^ 64) (i - 64 * j) ≡ 0 = ap (λ x. bit_at x (i - 64 * j)) none ∙ bit_at-zero (i - 64 * j) in
          omega (arith, one, zero_bit))
          (cases_lt i (64 * j));
    }

pub pass_end : (words : List ℕ) (low j : ℕ) → j < length words → IsPassed words low j → IsNextPair words low j
pass_end words low j inside passed = record { inside = inside; from = passed.from; least = passed.least }

pub ruleset passing = (pass_start, pass_end)

-- ---- the lowest place of all
pub record IsSought (words : List ℕ) (n low from : ℕ) : Type 0 where
  pub past : low ≤ from
  pub inside : from ≤ 64 * length words
  pub none : (k : ℕ) → low ≤ k → k < from → IsStart words n k → ⊥

pub sought_start : (words : List ℕ) (n low : ℕ) → low < 64 * length words → IsSought words n low low
sought_start words n low inside = record { past = omega arith; inside = omega (arith, inside); none = λ k a b. absurd (omega (arith, a, b)) }

module _ (words : List ℕ) (n low from j high starts : ℕ) (some : 2 ≤ n) (later : high ≡ max from (64 * j)) (sought : IsSought words n low from) (next : IsNextPair words (from / 64) j) (are : AreStarts words j n starts) where
  -- no n ones begin before the word j, nor in it below a bit
  pub sought_below : (place : ℕ) → place ≤ 64 → ((b : ℕ) → high % 64 ≤ b → b < place → (bit_at starts b == 1) ≡ false) → (k : ℕ) → low ≤ k → k < 64 * j + place → IsStart words n k → ⊥
  sought_below place few none k a b start =
      let past = next.from in
      ⊎_elim (λ before. sought.none k a before start)
      (λ after. ⊎_elim
      (λ lower. next.least k (omega (arith, after)) lower (λ m lt. start m (omega (arith, lt, some))))
      (λ here.
      let at : k ≡ 64 * j + (k - 64 * j) = omega (arith, here) in
      let one = are.all (k - 64 * j) (omega (arith, b, here, few)) (λ m lt. ap (λ q. bit words (q + m)) (sym at) ∙ start m lt) in
      let clear = none (k - 64 * j) (omega (arith, after, here, past, later)) (omega (arith, b, here)) in
      false≢true (sym clear ∙ ap (λ c. c == 1) one))
      (cases_lt k (64 * j)))
      (cases_lt k from)

  pub sought_more : HasNoBit starts true (high % 64) → IsSought words n low (64 * j + 64)
  sought_more none = let before = sought.past in let past = next.from in let inside = next.inside in record {
    past = omega (arith, before, past);
    inside = omega (arith, inside);
    none = sought_below 64 (omega arith) (λ b a lt. none.none b a lt);
  }

  pub sought_found : (i : ℕ) → IsFirstBit starts true (high % 64) i → IsFirstStart words n low (64 * j + i)
  sought_found i first = let before = sought.past in let past = next.from in let inside = next.inside in let lt = first.inside in let at = first.from in record {
    inside = omega (arith, inside, lt);
    from = omega (arith, before, past, at, lt, later);
    here = λ _. are.one i lt (one_of (bit_at starts i) (bit_at-lt starts i) first.here);
    least = sought_below i (omega (arith, lt)) (λ b a lower. first.least b a lower);
  }

pub sought_end : (words : List ℕ) (n low from : ℕ) → IsSought words n low from → 64 * length words ≤ from → IsFirstStart words n low (64 * length words)
sought_end words n low from sought past =
    let inside = sought.inside in let before = sought.past in record {
      inside = omega arith;
      from = omega (arith, before, inside);
      here = λ lt. absurd (omega (arith, lt));
      least = λ k a b. sought.none k a (omega (arith, b, past));
    }

pub ruleset scanning = (sought_start, sought_end)

-- ---- of the row of pages
module _ (words : List ℕ) (row : List Bool) (n low i : ℕ) (is : bits words (length row) ≡ row) (first : IsFirstStart words n low i) where
  free_bit : (k : ℕ) → k < length row → get_or row k false ≡ bit words k
  free_bit k lt = ap (λ r. get_or r k false) (sym is) ∙ get_or-bits words (length row) k false lt

  start_of : (j : ℕ) → IsFreeRun row j n → IsStart words n j
  start_of j run k lt = let within = run.inside in sym (free_bit (j + k) (omega (arith, within, lt))) ∙ run.free (j + k) (omega arith) (omega (arith, lt))

  pub start_found : length words ≡ length row / 64 + 1 → 2 ≤ n → i + n ≤ length row → IsFirstFreeRunFrom row low i n
  start_found size some fits = record {
    from = first.from;
    run = record {
      inside = fits;
      free = λ k from below.
          let at : k ≡ i + (k - i) = omega (arith, from) in
          free_bit k (omega (arith, fits, below)) ∙ ap (bit words) at ∙ first.here (omega (arith, size, fits, some)) (k - i) (omega (arith, from, below));
    };
    lowest = λ j from lt run. first.least j from lt (start_of j run);
  }

  pub start_nowhere : length row < i + n → HasNoFreeRunFrom row low n
  start_nowhere past j from run = let within = run.inside in ⊎_elim (λ lt. first.least j from lt (start_of j run)) (λ ge. omega (arith, within, past, ge)) (cases_lt j i)

pub start_past : (row : List Bool) (n low : ℕ) → 2 ≤ n → length row ≤ low → HasNoFreeRunFrom row low n
start_past row n low some past j from run = let within = run.inside in omega (arith, within, past, from, some)

pub ruleset of_row = (start_found, start_nowhere, start_past)
