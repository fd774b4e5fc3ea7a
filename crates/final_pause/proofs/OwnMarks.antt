-- The bits of a word of marks that are a helper's.
use Rattle.std.proofs.Common.{◌≡◌, ℕ, ◌+◌, ◌-◌, ◌*◌, ◌/◌, ◌%◌, ◌^◌, ◌<◌, ◌≤◌, ◌==◌, min, max, List, Bool, true, false, length, get_or, refl, sym, ap, subst, ◌∙◌, ⊎_elim, arith}
use Rattle.std.specs.Prelude.{◌↔◌, nat_lt}
use Rattle.std.specs.Int.{bit_at}
use Rattle.std.specs.Int.RustNames.{bit_and, bit_or}
use Rattle.std.proofs.lemmas.Bool.{agree_below_at, cases_eq, cases_lt, cond-false, eqb-true, eqb-false, eq-eqb}
use Rattle.std.proofs.lemmas.Nat.Bits.{bit_at-lt, bit_at-zero, bit_at_and, bit_at_or}
use Rattle.std.proofs.Math.Nat.{mod-add-mod}
use Rattle.words.specs.Bits.{Has, HasBit, bits}
use Rattle.final_pause.specs.Pauses.{PauseView}
use Rattle.final_pause.specs.Serving.{IsTurnAt, AreOwnMarks, turn_number}
use Rattle.final_pause.proofs.Marked.{bits_of_word}

-- the bits of each of the four turns of a word, tried one by one
pub turn_bit : (i k : ℕ) → i < 4 → k < 64 → (bit_at (65535 * 2 ^ (16 * i) % 2 ^ 64) k == 1) ≡ (k / 16 == i)
turn_bit i k few lt =
    let turn : (64 * i + k) / 64 ≡ i = omega (arith, lt) in
    let bit : (64 * i + k) % 64 ≡ k = omega (arith, lt) in
    let tried = agree_below_at (λ n. bit_at (65535 * 2 ^ (16 * (n / 64)) % 2 ^ 64) (n % 64) == 1) (λ n. n % 64 / 16 == n / 64) 256 (64 * i + k) refl (omega (arith, few, lt)) in
    subst (λ (m : ℕ). (bit_at (65535 * 2 ^ (16 * m) % 2 ^ 64) k == 1) ≡ (k / 16 == m)) turn
    (subst (λ (b : ℕ). (bit_at (65535 * 2 ^ (16 * ((64 * i + k) / 64)) % 2 ^ 64) b == 1) ≡ (b / 16 == (64 * i + k) / 64)) bit tried)

-- the bits of a word that has them all
pub bit_of_all : (k : ℕ) → k < 64 → bit_at 18446744073709551615 k ≡ 1
bit_of_all k lt = eqb-true _ _ (agree_below_at (λ n. bit_at 18446744073709551615 n == 1) (λ n. true) 64 k refl lt)

-- the number of a page that isn't shared
pub turn_whole : (number g : ℕ) → nat_lt number 256 ≡ false → turn_number number g ≡ number
turn_whole number g e = cond-false (nat_lt number 256) (number + g / 16) number e

-- the turn after one
pub turn_next : (n helpers turn : ℕ) → turn ≡ n % helpers → (turn + 1) % helpers ≡ (n + 1) % helpers
turn_next n helpers turn e = ap (λ (t : ℕ). (t + 1) % helpers) e ∙ mod-add-mod n helpers 1

-- the bits of one more turn
pub bits_next : (helpers place number j i turn mine more : ℕ) → turn ≡ (number + 4 * j + i) % helpers
    → ((k : ℕ) → k < 64 → (bit_at mine k ≡ 1) ↔ ((k / 16 < i) × ((number + (64 * j + k) / 16) % helpers ≡ place)))
    → ((k : ℕ) → k < 64 → (bit_at more k ≡ 1) ↔ ((turn ≡ place) × (k / 16 ≡ i)))
    → (k : ℕ) → k < 64 → (bit_at (bit_or mine more) k ≡ 1) ↔ ((k / 16 < i + 1) × ((number + (64 * j + k) / 16) % helpers ≡ place))
bits_next helpers place number j i turn mine more is old new k lt =
    let either : bit_at (bit_or mine more) k ≡ max (bit_at mine k) (bit_at more k) = bit_at_or mine more k in
    let a = bit_at-lt mine k in
    let b = bit_at-lt more k in
    let here : k / 16 ≡ i → (number + (64 * j + k) / 16) % helpers ≡ turn = λ e. ap (λ (n : ℕ). n % helpers) (let s : number + (64 * j + k) / 16 ≡ number + 4 * j + i = omega (arith, e) in s) ∙ sym is in (
      (λ e. ⊎_elim
          (λ (one : bit_at mine k ≡ 1). let h = (old k lt).0 one in let low = h.0 in (omega (arith, low), h.1))
          (λ ne. let h = (new k lt).0 (omega (arith, e, either, a, b, ne)) in let at = h.1 in (omega (arith, at), here at ∙ h.0))
          (cases_eq (bit_at mine k) 1)),
      (λ h. ⊎_elim
          (λ (low : k / 16 < i). let one = (old k lt).1 (low, h.1) in omega (arith, one, either, a, b))
          (λ high. let below = h.0 in let at : k / 16 ≡ i = omega (arith, high, below) in let one = (new k lt).1 (sym (here at) ∙ h.1, at) in omega (arith, one, either, a, b))
          (cases_lt (k / 16) i)),
    )

-- the bits of a word of the marks from before
pub bits_of_marks : (p : PauseView) (row : List Bool) (words : List ℕ) (j : ℕ) → row ≡ p.marker.marks → bits words (length row) ≡ row → 64 * (j + 1) ≤ length p.marker.marks
    → (k : ℕ) → k / 64 ≡ j → get_or p.marker.marks k false ≡ (bit_at (get_or words j 0) (k % 64) == 1)
bits_of_marks p row words j same is inside k e =
    let len : length row ≡ length p.marker.marks = ap length same in
    ap (λ m. get_or m k false) (sym same) ∙ bits_of_word row words j is (omega (arith, len, inside)) k e

module _ (p : PauseView) (place number j : ℕ) where
  module _ (marks : ℕ) (of : (k : ℕ) → k / 64 ≡ j → get_or p.marker.marks k false ≡ (bit_at marks (k % 64) == 1)) where
    bit_is : (k : ℕ) → k < 64 → get_or p.marker.marks (64 * j + k) false ≡ (bit_at marks k == 1)
    bit_is k lt =
        let word : (64 * j + k) / 64 ≡ j = omega (arith, lt) in
        let bit : (64 * j + k) % 64 ≡ k = omega (arith, lt) in
        of (64 * j + k) word ∙ ap (λ (n : ℕ). bit_at marks n == 1) bit

    -- no bit is set, and so none is the helper's
    pub own_none : marks ≡ 0 → AreOwnMarks p place number j 0
    own_none none = record {
      own = λ k lt. (
        (λ e. absurd (let z = bit_at-zero k in omega (arith, e, z))),
        (λ h. ap (λ (n : ℕ). bit_at n k) (sym none) ∙ eqb-true _ _ (sym (bit_is k lt) ∙ h.0)),
      );
    }

    -- those of the bits that are set that have the turn
    pub own_both : (mine : ℕ) → ((k : ℕ) → k < 64 → (bit_at mine k ≡ 1) ↔ (turn_number number (64 * j + k) % p.helpers ≡ place)) → AreOwnMarks p place number j (bit_and marks mine)
    own_both mine turns = record {
      own = λ k lt.
          let both : bit_at (bit_and marks mine) k ≡ min (bit_at marks k) (bit_at mine k) = bit_at_and marks mine k in
          let a = bit_at-lt marks k in
          let b = bit_at-lt mine k in (
            (λ e. let one : bit_at marks k ≡ 1 = omega (arith, e, both, a, b) in let two : bit_at mine k ≡ 1 = omega (arith, e, both, a, b) in
                (bit_is k lt ∙ eq-eqb _ _ one, (turns k lt).0 two)),
            (λ h. let one : bit_at marks k ≡ 1 = eqb-true _ _ (sym (bit_is k lt) ∙ h.0) in let two = (turns k lt).1 h.1 in omega (arith, one, two, both)),
          );
    }

  module _ (word : ℕ) (o : AreOwnMarks p place number j word) where
    -- a bit that is set is of a mark
    pub own_mark : (i : ℕ) → i < 64 → HasBit word true i → Has p.marker.marks (64 * j + i)
    own_mark i lt h = ((o.own i lt).0 (eqb-true _ _ h)).0

    -- where no bit is set there is no mark that has the turn
    pub no_own : (low i : ℕ) → i ≤ 64 → ((k : ℕ) → low ≤ k → k < i → HasBit word false k)
        → (k : ℕ) → 64 * j + low ≤ k → k < 64 * j + i → Has p.marker.marks k → IsTurnAt p place number k → ⊥
    no_own low i few none k from below h turn =
        let is : 64 * j + (k - 64 * j) ≡ k = omega (arith, from) in
        let lt : k - 64 * j < 64 = omega (arith, from, below, few) in
        let h' : Has p.marker.marks (64 * j + (k - 64 * j)) = subst (Has p.marker.marks) (sym is) h in
        let turn' : IsTurnAt p place number (64 * j + (k - 64 * j)) = subst (IsTurnAt p place number) (sym is) turn in
        eqb-false _ _ (none (k - 64 * j) (omega (arith, from)) (omega (arith, from, below))) ((o.own (k - 64 * j) lt).1 (h', turn'))
