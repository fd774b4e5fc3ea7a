-- The filling of a run of pages by whole words.
use Rattle.std.proofs.Common.{◌≡◌, ◌≢◌, ℕ, min, ◌-◌, ◌+◌, ◌*◌, ◌/◌, ◌%◌, ◌^◌, ◌<◌, ◌≤◌, Bool, true, false, ◌==◌, List, length, get_or, refl, sym, ap, ◌∙◌, subst, arith, inl, inr, ⊎_elim}
use Rattle.std.specs.Int.{bit_at, bit_not, w64}
use Rattle.std.specs.Int.RustNames.{bit_and, bit_or}
use Rattle.std.proofs.lemmas.Bool.{cases_lt, cases_eq}
use Rattle.std.proofs.lemmas.List.{get_or_past}
use Rattle.std.proofs.lemmas.Nat.Bits.{bit_at_and, bit_at_or, bit_at_not, bit_at-lt, bit_at_mask_inside, bit_at_mask_below, bit_at_mask_above, ones_shr}
use Rattle.std.proofs.lemmas.Nat.{pow_pos}
use Rattle.std.proofs.Math.Pow.{high_ones, shl_exact}
use Rattle.words.specs.Bits.{bit, bits}
use Rattle.words.proofs.Rows.{get_or-bits}
use Rattle.pages.specs.Runs.{IsMask, IsFilled, AreAllFree}

-- ---- the mask
ones_from : (low n : ℕ) → low + n ≤ 64 → (2 ^ 64 - 1) / 2 ^ (64 - n) * 2 ^ low % 2 ^ 64 ≡ 2 ^ (n + low) - 2 ^ low
ones_from low n inside =
    let back : 64 - (64 - n) ≡ n = omega arith in
    let few : 2 ^ n - 1 < 2 ^ n = omega (arith, pow_pos n) in
    ap (λ x. x * 2 ^ low % 2 ^ 64) (ones_shr 64 (64 - n) (omega arith) ∙ ap (λ i. 2 ^ i - 1) back)
    ∙ shl_exact n low 64 few (omega arith)
    ∙ sym (high_ones n low)

pub mask_is : (low n : ℕ) → low + n ≤ 64 → IsMask ((2 ^ 64 - 1) / 2 ^ (64 - n) * 2 ^ low % 2 ^ 64) low n
mask_is low n inside = record {
  inside = λ k from below. ap (λ x. bit_at x k) (ones_from low n inside) ∙ bit_at_mask_inside low (n + low) k from (omega arith);
  others = λ k h. ap (λ x. bit_at x k) (ones_from low n inside) ∙ ⊎_elim (bit_at_mask_below low (n + low) k) (λ past. bit_at_mask_above low (n + low) k (omega arith)) h;
}

pub ruleset masks = (mask_is)

-- ---- one word
-- the bits of x where the mask has ones have become b, and the others are as they were
pub record IsChosen (x mask w : ℕ) (b : Bool) : Type 0 where
  pub one : (k : ℕ) → k < 64 → bit_at mask k ≡ 1 → (bit_at w k == 1) ≡ b
  pub zero : (k : ℕ) → k < 64 → bit_at mask k ≡ 0 → bit_at w k ≡ bit_at x k

pub chosen_set : (x mask : ℕ) → IsChosen x mask (bit_or x mask) true
chosen_set x mask = record {
  one = λ k few e. let b : bit_at (bit_or x mask) k ≡ 1 = omega (arith, bit_at_or x mask k, bit_at-lt x k) in ap (λ n. n == 1) b;
  zero = λ k few e. omega (arith, bit_at_or x mask k);
}

pub chosen_clear : (x mask : ℕ) → mask < 2 ^ 64 → IsChosen x mask (bit_and x (2 ^ 64 - 1 - mask)) false
chosen_clear x mask fits = record {
  one = λ k few e. let b : bit_at (bit_and x (bit_not w64 mask)) k ≡ 0 = omega (arith, bit_at_and x (bit_not w64 mask) k, bit_at_not w64 mask k fits few) in ap (λ n. n == 1) b;
  zero = λ k few e. let b : bit_at (bit_and x (bit_not w64 mask)) k ≡ bit_at x k = omega (arith, bit_at_and x (bit_not w64 mask) k, bit_at_not w64 mask k fits few, bit_at-lt x k) in b;
}

pub word_filled : (old new : List Bool) (words : List ℕ) (first n mask w : ℕ) (b : Bool)
    → bits words (length old) ≡ old → first % 64 + n ≤ 64 → first + n ≤ length old
    → IsMask mask (first % 64) n → IsChosen (get_or words (first / 64) 0) mask w b
    → length new ≡ length old
    → ((k : ℕ) → k < length old → k / 64 ≡ first / 64 → get_or new k false ≡ (bit_at w (k % 64) == 1))
    → ((k : ℕ) → k / 64 ≢ first / 64 → get_or new k false ≡ get_or old k false)
    → IsFilled old new first n b
unfolding bit
word_filled old new words first n mask w b is word fits mask_has chosen size here else = record {
  size = size;
  inside = λ k from below there. here k there (omega arith) ∙ chosen.one (k % 64) (omega arith) (mask_has.inside (k % 64) (omega arith) (omega arith));
  others = λ k h. ⊎_elim
      (λ (e : k / 64 ≡ first / 64). ⊎_elim
      (λ (lt : k < length old). here k lt e
      ∙ ap (λ m. m == 1) (chosen.zero (k % 64) (omega arith) (mask_has.others (k % 64) (⊎_elim (λ a. inl (omega arith)) (λ a. inr (omega arith)) h)))
      ∙ sym (ap (λ i. bit_at (get_or words i 0) (k % 64) == 1) e)
      ∙ sym (get_or-bits words (length old) k false lt)
      ∙ ap (λ r. get_or r k false) is)
      (λ past. get_or_past new k false (omega arith) ∙ sym (get_or_past old k false past))
      (cases_lt k (length old)))
      (λ ne. else k ne)
      (cases_eq (k / 64) (first / 64));
}

-- ---- all words
-- the pages of the run that come before the page low are filled, and the others are left
pub record IsFilledTo (old row : List Bool) (first n low left : ℕ) (b : Bool) : Type 0 where
  pub from : first ≤ low
  pub all : low + left ≡ first + n
  pub filled : IsFilled old row first (low - first) b

pub fill_start : (row : List Bool) (first n : ℕ) (b : Bool) → IsFilledTo row row first n first n b
fill_start row first n b = record {
  from = omega arith;
  all = refl;
  filled = record { size = refl; inside = λ k a c lt. absurd (omega arith); others = λ k a. refl };
}

pub fill_more : (old row new : List Bool) (first n low left here : ℕ) (b : Bool) → IsFilledTo old row first n low left b → here ≤ left → IsFilled row new low here b
    → IsFilledTo old new first n (low + here) (left - here) b
fill_more old row new first n low left here b f few word =
    let from = f.from in
    record {
      from = omega arith;
      all = omega (arith, f.all);
      filled = record {
        size = word.size ∙ f.filled.size;
        inside = λ k a c there. ⊎_elim (λ lt. word.others k (inl lt) ∙ f.filled.inside k a (omega arith) there) (λ ge. word.inside k ge (omega arith) (let size = f.filled.size in omega arith)) (cases_lt k low);
        others = λ k h. word.others k (⊎_elim (λ a. inl (omega arith)) (λ a. inr (omega arith)) h) ∙ f.filled.others k (⊎_elim (λ a. inl a) (λ a. inr (omega arith)) h);
      };
    }

pub fill_end : (old row : List Bool) (first n low left : ℕ) (b : Bool) → IsFilledTo old row first n low left b → left ≡ 0 → IsFilled old row first n b
fill_end old row first n low left b f none = subst (λ m. IsFilled old row first m b) (let e : low - first ≡ n = omega (arith, f.all) in e) f.filled

pub filled_whole : (old new : List Bool) (n : ℕ) → length old ≡ n → IsFilled old new 0 n true → AreAllFree new n
filled_whole old new n e f = record { size = f.size ∙ e; free = λ k lt. f.inside k (omega arith) (omega arith) (omega arith) }

-- a run that ends past the row is filled as far as the row goes
pub filled_there : (old new : List Bool) (first n : ℕ) (b : Bool) → IsFilled old new (min (length old) first) (min n (length old - min (length old) first)) b → IsFilled old new first n b
filled_there old new first n b f = record {
  size = f.size;
  inside = λ k from below there. f.inside k (omega arith) (omega arith) there;
  others = λ k h. ⊎_elim
      (λ (lt : k < length old). f.others k (⊎_elim (λ a. inl (omega arith)) (λ a. inr (omega arith)) h))
      (λ past. get_or_past new k false (let size = f.size in omega arith) ∙ sym (get_or_past old k false past))
      (cases_lt k (length old));
}

pub ruleset filling = (fill_start, fill_more, fill_end, filled_whole, filled_there)
