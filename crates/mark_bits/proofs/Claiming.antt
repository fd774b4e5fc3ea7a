-- A claim and a look keep the rule of the table.
use Rattle.std.proofs.Common.{◌≡◌, ◌≢◌, ℕ, ◌+◌, ◌/◌, ◌%◌, ◌<◌, ◌≤◌, Bool, true, false, cond, ◌==◌, eq-eqb, ne_eqb, List, ◌∷◌, length, get_or, set, refl, sym, ap, ◌∙◌, subst, arith, ⊎_elim, length-set, get_or-set_same}
use Rattle.std.proofs.lemmas.List.{set-get_or}
use Rattle.std.specs.Int.{bit_at}
use Rattle.std.specs.Int.RustNames.{bit_or}
use Rattle.std.proofs.lemmas.Bool.{cases_eq}
use Rattle.std.proofs.lemmas.Nat.Bits.{bit_at-lt}
use mathlib.Core.Option.{none, some}
use lib.ListN.{get_elem?}
use Rattle.words.specs.Bits.{bit}
use Rattle.atomic_table.specs.Table.{State, Me, step, keeps, stepped, Allows}
use Rattle.atomic_table.proofs.Lists.{at_set}
use Rattle.mark_bits.specs.declared.claimer_view.ClaimerView.{ClaimerView}
use Rattle.mark_bits.specs.Claims.{times, one, has}
use Rattle.mark_bits.specs.Rule.{IsTrueOf, IsWonOnce, scaled, mask, after_claim, after_look, Finds, claimed, looked}
use Rattle.mark_bits.proofs.Sums.{total-set, times-here, times-else}
use Rattle.mark_bits.proofs.Words.{claimed_words, set_here, set_else, set_up, bit_is, bit_known, same_bit, shows-word}

abbrev St : Type 0
St = State (Unit {0}) ClaimerView

abbrev Mine : Type 0
Mine = Me (Unit {0}) ClaimerView

one_true : (b : Bool) → 1 ≤ one b → b ≡ true
one_true true h = refl
one_true false h = absurd (omega arith)

-- what is true of a claimer stays true when more bits are set
grown : (start : List Bool) (words more : List ℕ) (v : ClaimerView) → ((k : ℕ) → bit words k ≡ true → bit more k ≡ true) → IsTrueOf start words v → IsTrueOf start more v
grown start words more v up is = record { same = is.same; known = λ k h. up k (is.known k h); idle = is.idle }

module _ (start : List Bool) (count : ℕ) (s : St) (rule : IsWonOnce start count s) (id : ℕ) (v : ClaimerView) (at : get_elem? s.views id ≡ some v) where
  -- the word i has become y and the claimer's view w: no bit went, and won lists and bits changed together
  moved : (i y : ℕ) (w : ClaimerView) (c : List (ℕ × Unit {0}))
      → ((k : ℕ) → bit s.words k ≡ true → bit (set s.words i y) k ≡ true)
      → ((k : ℕ) → times k w.won + one (bit s.words k) ≡ times k v.won + one (bit (set s.words i y) k))
      → w.right ≡ v.right → IsTrueOf start (set s.words i y) w → IsWonOnce start count (stepped s i y id c w keeps)
  moved i y w c up even right is = record {
    size = length-set s.words i y ∙ rule.size;
    whole = λ d le.
        let cuts = total-set (λ u. u.right.1) s.views id v w at in let same : w.right.1 ≡ v.right.1 = ap (λ (r : ℕ × ℕ). r.1) right in
        let t = total-set (λ u. scaled d u.right) s.views id v w at in let part : scaled d w.right ≡ scaled d v.right = ap (scaled d) right in
        let p = rule.whole d (omega arith) in omega arith;
    once = λ k. let t = total-set (λ u. times k u.won) s.views id v w at in let p = rule.once k in let e = even k in omega arith;
    views = λ j u h. ⊎_elim
        (λ (t : (j ≡ id) × (w ≡ u)). subst (IsTrueOf start (set s.words i y)) t.1 is)
        (λ t. grown start s.words (set s.words i y) u up (rule.views j u t.1))
        (at_set s.views id j w u h);
  }

  -- a bit of the start is set
  started : (k : ℕ) → 0 < v.right.0 → has v.start k ≡ true → bit s.words k ≡ true
  started k some_part h =
      let e : has start k ≡ true = ap (λ r. has r k) (sym ((rule.views id v at).same some_part)) ∙ h in
      let p = rule.once k in let o : one (has start k) ≡ 1 = ap one e in one_true (bit s.words k) (omega arith)

  finds : 0 < v.right.0 → (k : ℕ) → Finds v k (get_or s.words (k / 64) 0)
  finds some_part k = record {
    start = λ h. bit_known s.words k (started k some_part h);
    known = λ h. bit_known s.words k ((rule.views id v at).known k h);
  }

-- the won list and the bit change together: where the claim found the bit clear ..
module _ (words : List ℕ) (k : ℕ) (inside : k / 64 < length words) (v : ClaimerView) (j : ℕ) where
  abbrev found : ℕ
  found = bit_at (get_or words (k / 64) 0) (k % 64)

  abbrev IsEven : Type 0
  IsEven = times j (after_claim v k (get_or words (k / 64) 0)).won + one (bit words j) ≡ times j v.won + one (bit (claimed_words words k) j)

  else : times j (after_claim v k (get_or words (k / 64) 0)).won ≡ times j v.won → j ≢ k → IsEven
  else won ne = let same : one (bit (claimed_words words k) j) ≡ one (bit words j) = ap one (set_else words k inside j ne) in omega arith

  now_set : j ≡ k → one (bit (claimed_words words k) j) ≡ 1
  now_set e = ap (λ i. one (bit (claimed_words words k) i)) e ∙ ap one (set_here words k inside)

  was : j ≡ k → one (bit words j) ≡ one (found == 1)
  was e = ap (λ i. one (bit words i)) e ∙ ap one (bit_is words k)

  first_claim : found ≡ 0 → IsEven
  first_claim clear =
      let won : times j (cond (found == 0) (k ∷ v.won) v.won) ≡ times j (k ∷ v.won) = ap (λ c. times j (cond c (k ∷ v.won) v.won)) (eq-eqb found 0 clear) in
      ⊎_elim
      (λ (e : j ≡ k).
      let t : times j (k ∷ v.won) ≡ 1 + times j v.won = subst (λ i. times i (k ∷ v.won) ≡ 1 + times i v.won) (sym e) (times-here k v.won) in
      let before : one (bit words j) ≡ 0 = was e ∙ ap (λ x. one (x == 1)) clear in
      let after = now_set e in omega arith)
      (λ ne. else (won ∙ times-else j k v.won (λ q. ne (sym q))) ne)
      (cases_eq j k)

  -- .. and where it found it set
  late_claim : found ≢ 0 → IsEven
  late_claim taken =
      let lt : found < 2 = bit_at-lt (get_or words (k / 64) 0) (k % 64) in
      let set : found ≡ 1 = omega arith in
      let won : times j (cond (found == 0) (k ∷ v.won) v.won) ≡ times j v.won = ap (λ c. times j (cond c (k ∷ v.won) v.won)) (ne_eqb found 0 taken) in
      ⊎_elim
      (λ (e : j ≡ k).
      let before : one (bit words j) ≡ 1 = was e ∙ ap (λ x. one (x == 1)) set in
      let after = now_set e in omega arith)
      (λ ne. else won ne)
      (cases_eq j k)

  evenly : IsEven
  evenly = ⊎_elim first_claim late_claim (cases_eq found 0)

-- a claim: one fetch_or
pub claims : (start : List Bool) (count slots id : ℕ) (me : Mine) (k : ℕ) → 0 < me.0.right.0 → k / 64 < count
    → Allows (IsWonOnce start count) slots id me (k / 64) (λ n. bit_or n (mask k)) (claimed (step slots (k / 64) (mask k) 0 none) me)
claims start count slots id me k some_part lt s rule homes at small =
    let v : ClaimerView = me.0 in
    let n : ℕ = get_or s.words (k / 64) 0 in
    let inside : k / 64 < length s.words = let size = rule.size in omega arith in
    let is = rule.views id v at in
    let up = set_up s.words k inside in
    let true_of : IsTrueOf start (claimed_words s.words k) (after_claim v k n) = record {
      same = is.same;
      known = shows-word (claimed_words s.words k) (k / 64) (bit_or n (mask k)) v.seen (get_or-set_same s.words (k / 64) (bit_or n (mask k)) 0 inside) (λ j h. up j (is.known j h));
      idle = λ none. absurd (omega arith);
    } in (
      after_claim v k n,
      keeps,
      tt,
      moved start count s rule id v at (k / 64) (bit_or n (mask k)) (after_claim v k n) me.1 up (λ j. evenly s.words k inside v j) refl true_of,
      (
        refl,
        (λ j word power. subst (λ i. (after_claim v k n ≡ after_claim v i n) × Finds v i n) (same_bit j k word power) (refl, finds start count s rule id v at some_part k)),
      ),
    )

-- a look at a word: one load
pub looks : (start : List Bool) (count slots id : ℕ) (me : Mine) (i : ℕ) → 0 < me.0.right.0
    → Allows (IsWonOnce start count) slots id me i (λ n. n) (looked (step slots i 0 0 none) me)
looks start count slots id me i some_part s rule homes at small =
    let v : ClaimerView = me.0 in
    let n : ℕ = get_or s.words i 0 in
    let is = rule.views id v at in
    let same : set s.words i n ≡ s.words = set-get_or s.words i 0 in
    let true_of : IsTrueOf start s.words (after_look v i n) = record {
      same = is.same;
      known = shows-word s.words i n v.seen refl is.known;
      idle = λ none. absurd (omega arith);
    } in (
      after_look v i n,
      keeps,
      tt,
      moved start count s rule id v at i n (after_look v i n) me.1
          (λ k h. ap (λ ws. bit ws k) same ∙ h)
          (λ k. ap (λ b. times k v.won + one b) (sym (ap (λ ws. bit ws k) same)))
          refl
          (subst (λ ws. IsTrueOf start ws (after_look v i n)) (sym same) true_of),
      (refl, refl, (λ k word. subst (λ j. Finds v k (get_or s.words j 0)) word (finds start count s rule id v at some_part k))),
    )
