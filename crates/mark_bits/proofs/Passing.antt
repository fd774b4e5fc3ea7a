-- The first claimer, new claimers and claimers that come back keep the rule of the table, and the last one knows all that was won.
use Rattle.std.proofs.Common.{◌≡◌, ℕ, ◌+◌, ◌-◌, ◌/◌, ◌<◌, ◌≤◌, Bool, true, false, List, [], ◌∷◌, length, set, refl, sym, ap, ◌∙◌, subst, arith, ⊎_elim}
use Rattle.std.proofs.lemmas.Bool.{cases_lt, false≢true}
use mathlib.Core.Option.{some, some-ne-none}
use lib.ListN.{get_elem?}
use Rattle.words.specs.Bits.{bit}
use Rattle.atomic_table.specs.Table.{State, opening, Splits, Joins}
use Rattle.atomic_table.proofs.Lists.{at_set, at_snoc}
use Rattle.mark_bits.specs.declared.claimer_view.ClaimerView.{ClaimerView}
use Rattle.mark_bits.specs.Claims.{times, one, has, knows, Gathers, HasAll, doubled, first_view, kept_part, cut_part, joined, spent}
use Rattle.mark_bits.specs.Rule.{IsTrueOf, IsWonOnce, scaled, total}
use Rattle.mark_bits.proofs.Halves.{both-scaled, doubled-none, doubled-pos, doubled-zero, halves, scaled-all}
use Rattle.mark_bits.proofs.Sums.{total-set, total-append, part_of_total, two_of_total, all_in_one, times-append}
use Rattle.mark_bits.proofs.Words.{bit_past, shows-append}

one_false : (b : Bool) → one b ≡ 0 → b ≡ false
one_false true h = absurd (omega arith)
one_false false h = refl

abbrev St : Type 0
St = State (Unit {0}) ClaimerView

-- the table at the start
pub opens : (start : List Bool) (count : ℕ) (words : List ℕ) → length words ≡ count → ((k : ℕ) → has start k ≡ bit words k) → IsWonOnce start count (opening words [] (first_view start))
opens start count words size is = record {
  size = size;
  whole = λ d le. let e : doubled 1 (d - 0) ≡ doubled 1 d = ap (doubled 1) (let a : d - 0 ≡ d = omega arith in a) in omega arith;
  once = λ k. let e : one (has start k) ≡ one (bit words k) = ap one (is k) in omega arith;
  views = λ id v h. ⊎_elim
      (λ q. absurd (some-ne-none v (sym q)))
      (λ (e : first_view start ≡ v). subst (IsTrueOf start words) e (record { same = λ q. refl; known = λ k q. absurd (false≢true q); idle = λ none. refl }))
      (at_snoc [] (first_view start) v id h);
}

-- a claimer is cut in two
pub splits : (start : List Bool) (count id : ℕ) (v : ClaimerView) → Splits (IsWonOnce start count) id v (kept_part v) (cut_part v)
splits start count id v s rule at =
    let is = rule.views id v at in
    let kept : IsTrueOf start s.words (kept_part v) = record { same = is.same; known = is.known; idle = is.idle } in
    let cut : IsTrueOf start s.words (cut_part v) = record { same = is.same; known = is.known; idle = λ none. refl } in
    let rest : List ClaimerView = set s.views id (kept_part v) in
    record {
      size = rule.size;
      whole = λ d le.
          let cuts = total-set (λ u. u.right.1) s.views id v (kept_part v) at in
          let more = total-append (λ u. u.right.1) rest (cut_part v ∷ []) in
          let t = total-set (λ u. scaled d u.right) s.views id v (kept_part v) at in
          let a = total-append (λ u. scaled d u.right) rest (cut_part v ∷ []) in
          let p = rule.whole d (omega arith) in
          let h = halves v.right.0 v.right.1 d (omega arith) in omega arith;
      once = λ k.
          let t = total-set (λ u. times k u.won) s.views id v (kept_part v) at in
          let a = total-append (λ u. times k u.won) rest (cut_part v ∷ []) in
          let p = rule.once k in omega arith;
      views = λ j u h. ⊎_elim
          (λ old. ⊎_elim
          (λ (t : (j ≡ id) × (kept_part v ≡ u)). subst (IsTrueOf start s.words) t.1 kept)
          (λ t. rule.views j u t.1)
          (at_set s.views id j (kept_part v) u old))
          (λ (e : cut_part v ≡ u). subst (IsTrueOf start s.words) e cut)
          (at_snoc rest (cut_part v) u j h);
    }

-- two claimers become one
pub joins : (start : List Bool) (count id : ℕ) (v : ClaimerView) (other : ℕ) (w : ClaimerView) → 0 < v.right.0 → Joins (IsWonOnce start count) id v other w (joined v w) spent
joins start count id v other w some_part s rule at apart at' =
    let is = rule.views id v at in
    let old : get_elem? s.views other ≡ some w = ⊎_elim (λ t. absurd (apart t.0)) (λ t. t.1) (at_set s.views id other (joined v w) w at') in
    let is' = rule.views other w old in
    let left : IsTrueOf start s.words spent = record { same = λ q. absurd (omega arith); known = λ k q. absurd (false≢true q); idle = λ none. refl } in
    let some' = doubled-pos v.right.0 w.right.1 some_part in
    let whole : IsTrueOf start s.words (joined v w) = record {
      same = λ q. is.same some_part;
      known = λ k q. ⊎_elim (is.known k) (is'.known k) (shows-append k v.seen w.seen q);
      idle = λ none. absurd (omega arith);
    } in
    let rest : List ClaimerView = set s.views id (joined v w) in
    record {
      size = rule.size;
      whole = λ d le.
          let cuts = total-set (λ u. u.right.1) s.views id v (joined v w) at in
          let cuts' = total-set (λ u. u.right.1) rest other w spent at' in
          let two = two_of_total (λ u. u.right.1) s.views id other v w (λ e. apart (sym e)) at old in
          let t = total-set (λ u. scaled d u.right) s.views id v (joined v w) at in
          let t' = total-set (λ u. scaled d u.right) rest other w spent at' in
          let none = doubled-none (d - 0) in
          let b = both-scaled v.right.0 v.right.1 w.right.0 w.right.1 d (omega arith) in
          let p = rule.whole d (omega arith) in omega arith;
      once = λ k.
          let t = total-set (λ u. times k u.won) s.views id v (joined v w) at in
          let t' = total-set (λ u. times k u.won) rest other w spent at' in
          let a = times-append k v.won w.won in
          let p = rule.once k in omega arith;
      views = λ j u h. ⊎_elim
          (λ (t : (j ≡ other) × (spent ≡ u)). subst (IsTrueOf start s.words) t.1 left)
          (λ t. ⊎_elim
          (λ (r : (j ≡ id) × (joined v w ≡ u)). subst (IsTrueOf start s.words) r.1 whole)
          (λ r. rule.views j u r.1)
          (at_set s.views id j (joined v w) u t.1))
          (at_set rest other j spent u h);
    }

-- the claimer with the whole right has won all that was won
pub settled : (start : List Bool) (count : ℕ) (s : St) (id : ℕ) (v : ClaimerView) → IsWonOnce start count s → get_elem? s.views id ≡ some v → HasAll v
    → (k : ℕ) → times k v.won + one (has start k) ≡ one (bit s.words k)
settled start count s id v rule at all k =
    let d : ℕ = total (λ u. u.right.1) s.views in
    let deep = part_of_total (λ u. u.right.1) s.views id v at in
    let p = rule.whole d (omega arith) in
    let mine = scaled-all v.right.0 v.right.1 d deep all in
    let t = all_in_one (λ u. times k u.won) (λ u. scaled d u.right) s.views id v (λ j u h none. ap (times k) ((rule.views j u h).idle (doubled-zero u.right.0 (d - u.right.1) none))) at (omega arith) in
    let o = rule.once k in omega arith

-- past the words of the table no bit was set at the start
clear_past : (start : List Bool) (count : ℕ) (s : St) → IsWonOnce start count s → (k : ℕ) → count ≤ k / 64 → has start k ≡ bit s.words k
clear_past start count s rule k past =
    let size = rule.size in
    let none : bit s.words k ≡ false = bit_past s.words k (omega arith) in
    let zero : one (bit s.words k) ≡ 0 = ap one none in
    let o = rule.once k in one_false (has start k) (omega arith) ∙ sym none

-- the words of the closed table were copied into the marks, which past them are still those at the start
module _ (start marks : List Bool) (count : ℕ) (s : St) (words : List ℕ) (id : ℕ) (v : ClaimerView) (rule : IsWonOnce start count s) (at : get_elem? s.views id ≡ some v) (is : s.words ≡ words)
    (inside : (k : ℕ) → k / 64 < count → has marks k ≡ bit words k) (past : (k : ℕ) → count ≤ k / 64 → has marks k ≡ has start k) where
  copied : (k : ℕ) → has marks k ≡ bit s.words k
  copied k =
      ⊎_elim
      (λ lt. inside k lt ∙ sym (ap (λ ws. bit ws k) is))
      (λ out. past k (omega arith) ∙ clear_past start count s rule k (omega arith))
      (cases_lt (k / 64) count)

  pub copied-gathers : length marks ≡ length start → HasAll v → Gathers start v.won marks
  copied-gathers size all = record { size = size; once = λ k. settled start count s id v rule at all k ∙ ap one (sym (copied k)) }

  pub copied-known : (k : ℕ) → knows v k ≡ true → has marks k ≡ true
  copied-known k h = copied k ∙ (rule.views id v at).known k h
