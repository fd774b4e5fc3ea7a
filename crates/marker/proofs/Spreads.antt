-- Pages that become dirty in turn.
use Rattle.std.proofs.Common.{◌≡◌, ℕ, zero, suc, ◌+◌, ◌-◌, ◌*◌, ◌<◌, ◌≤◌, List, [], ◌∷◌, length, Bool, true, false, get_or, set, sum_by, refl, sym, ap, ◌∙◌, subst, inl, inr, ⊎_elim, arith, length-set, get_or-set_same, get_or-set_other}
use Rattle.std.specs.Prelude.{◌⊎◌}
use Rattle.std.proofs.lemmas.Bool.{cases_eq}
use Rattle.std.proofs.lemmas.List.Sums.{sum_by-cons}
use Rattle.words.specs.declared.limits.TheConstants.{PAGE_WORDS}
use Rattle.words.specs.Bits.{Has}
use Rattle.marker.specs.Work.{page_words}
use Rattle.marker.specs.Growth.{IsDirtied}

pub dirtied_none : (row : List Bool) (first : ℕ) → IsDirtied row row first first
dirtied_none row first = record {
  len = refl;
  inside = λ p a b. absurd (omega arith);
  more = λ p h. h;
  others = λ p h. inl h;
}

pub has_set : (row : List Bool) (k p : ℕ) → k < length row → Has row p → Has (set row k true) p
has_set row k p lt h =
    ⊎_elim (λ (e : p ≡ k). ap (λ j. get_or (set row k true) j false) e ∙ get_or-set_same row k true false lt)
    (λ ne. get_or-set_other row k p true false ne ∙ h) (cases_eq p k)

pub has_set_back : (row : List Bool) (k p : ℕ) → Has (set row k true) p → Has row p ⊎ (p ≡ k)
has_set_back row k p h = ⊎_elim (λ (e : p ≡ k). inr e) (λ ne. inl (sym (get_or-set_other row k p true false ne) ∙ h)) (cases_eq p k)

some_words : (b : Bool) → page_words b ≤ PAGE_WORDS
some_words true = omega arith
some_words false = omega arith

less_words : (a b : Bool) → (b ≡ true → a ≡ true) → page_words b ≤ page_words a
less_words a true h = subst (λ c. PAGE_WORDS ≤ page_words c) (sym (h refl)) (omega arith)
less_words a false h = omega arith

-- dirty pages have more words by those of a range of pages, at most
pub dirtied_words : (old new : List Bool) (first end : ℕ) → length new ≡ length old → ((p : ℕ) → Has new p → Has old p ⊎ ((first ≤ p) × (p < end)))
    → sum_by page_words new ≤ sum_by page_words old + PAGE_WORDS * (end - first)
dirtied_words [] [] first end l h = omega arith
dirtied_words [] (b ∷ new) first end l h = let z : suc (length new) ≡ 0 = l in absurd (omega arith)
dirtied_words (a ∷ old) [] first end l h = let z : 0 ≡ suc (length old) = l in absurd (omega arith)
dirtied_words (a ∷ old) (b ∷ new) first end l h =
    let rest = dirtied_words old new (first - 1) (end - 1) (omega (arith, l))
    (λ p k. ⊎_elim (λ o. inl o) (λ (r : (first ≤ suc p) × (suc p < end)). let r0 = r.0 in let r1 = r.1 in inr (omega arith, omega arith)) (h (suc p) k)) in
    let x = sum_by-cons page_words a old in
    let y = sum_by-cons page_words b new in
    let s = some_words b in
    ⊎_elim
    (λ (none : (first ≡ 0) × (0 < end)). let n0 = none.0 in let n1 = none.1 in omega arith)
    (λ (not : (first ≡ 0) × (0 < end) → ⊥).
    let m = less_words a b (λ t. ⊎_elim (λ o. o) (λ (r : (first ≤ 0) × (0 < end)). let r0 = r.0 in absurd (not (omega arith, r.1))) (h 0 t)) in
    let w : end - 1 - (first - 1) ≤ end - first = omega arith in
    omega arith)
    (begins first end)
  where
    begins : (first end : ℕ) → ((first ≡ 0) × (0 < end)) ⊎ ((first ≡ 0) × (0 < end) → ⊥)
    begins zero zero = inr (λ r. let x = r.1 in omega arith)
    begins zero (suc e) = inl (refl, omega arith)
    begins (suc f) e = inr (λ r. let x = r.0 in omega arith)

pub dirtied_step : (old row : List Bool) (first k : ℕ) → IsDirtied old row first k → first ≤ k → k < length old → IsDirtied old (set row k true) first (k + 1)
dirtied_step old row first k d le lt =
    let n = d.len in
    let h : k < length row = omega arith in
    record {
      len = length-set row k true ∙ d.len;
      inside = λ p a b. ⊎_elim (λ (e : p ≡ k). ap (λ j. get_or (set row k true) j false) e ∙ get_or-set_same row k true false h)
          (λ ne. get_or-set_other row k p true false ne ∙ d.inside p a (omega (arith, ne))) (cases_eq p k);
      more = λ p x. has_set row k p h (d.more p x);
      others = λ p x. ⊎_elim
          (λ y. ⊎_elim (λ o. inl o) (λ (r : (first ≤ p) × (p < k)). let r0 = r.0 in let r1 = r.1 in inr (r0, omega arith)) (d.others p y))
          (λ (e : p ≡ k). inr (omega arith, omega arith)) (has_set_back row k p x);
    }

pub ruleset spreads = (dirtied_none, dirtied_step)
