-- The lowest member of a row, as pages come and go.
use Rattle.std.proofs.Common.{◌≡◌, ℕ, ◌+◌, ◌<◌, ◌≤◌, Bool, true, false, List, length, get_or, set, sym, ◌∙◌, subst, ⊎_elim, arith, length-set, get_or-set_same, get_or-set_other}
use Rattle.std.proofs.lemmas.Bool.{cases_eq, cases_lt}
use Rattle.words.specs.Bits.{IsClear, IsEmptyFrom, IsFirstFrom}
use Rattle.lazy_sweep.specs.PageRows.{IsLowest}

-- a row with no member
pub lowest_none : (row : List Bool) (pages : ℕ) → IsClear row pages → IsLowest row pages
lowest_none row pages clear = record { inside = let e = clear.size in omega arith; below = λ i lt. clear.clear i; member = λ lt. let e = clear.size in absurd (omega arith) }

-- the answers of a look
pub lowest_is : (row : List Bool) (lowest : ℕ) → IsLowest row lowest → lowest < length row → IsFirstFrom row 0 lowest
lowest_is row lowest is lt = record { from = omega arith; inside = lt; member = is.member lt; least = λ k from below. is.below k below }

pub lowest_past : (row : List Bool) (lowest : ℕ) → IsLowest row lowest → length row ≤ lowest → IsEmptyFrom row 0
lowest_past row lowest is past k from inside = is.below k (omega arith)

-- behind a page that is none
pub none_behind : (row : List Bool) (page highest : ℕ) → get_or row page false ≡ false → IsEmptyFrom row (highest + 1) → highest ≤ page → IsEmptyFrom row page
none_behind row page highest none end le k from inside = ⊎_elim
    (λ (e : k ≡ page). subst (λ i. get_or row i false ≡ false) (sym e) none)
    (λ ne. end k (omega arith) inside)
    (cases_eq k page)

-- a page comes
module _ (row : List Bool) (lowest page : ℕ) (is : IsLowest row lowest) (inside : page < length row) where
  pub lowest_entered : page < lowest → IsLowest (set row page true) page
  lowest_entered lt = record {
    inside = rw length-set (omega arith);
    below = λ i low. get_or-set_other row page i true false (omega arith) ∙ is.below i (omega arith);
    member = λ _. get_or-set_same row page true false inside;
  }

  pub lowest_stays : lowest ≤ page → IsLowest (set row page true) lowest
  lowest_stays le = record {
    inside = rw length-set is.inside;
    below = λ i low. get_or-set_other row page i true false (omega arith) ∙ is.below i low;
    member = λ _. ⊎_elim
        (λ (e : lowest ≡ page). subst (λ i. get_or (set row page true) i false ≡ true) (sym e) (get_or-set_same row page true false inside))
        (λ ne. get_or-set_other row page lowest true false ne ∙ is.member (omega arith))
        (cases_eq lowest page);
  }

  -- and goes
  still : (i : ℕ) → i < lowest → get_or (set row page false) i false ≡ false
  still i low = ⊎_elim
      (λ (e : i ≡ page). subst (λ j. get_or (set row page false) j false ≡ false) (sym e) (get_or-set_same row page false false inside))
      (λ ne. get_or-set_other row page i false false ne ∙ is.below i low)
      (cases_eq i page)

  pub lowest_other : (page ≡ lowest → ⊥) → IsLowest (set row page false) lowest
  lowest_other ne = record {
    inside = rw length-set is.inside;
    below = still;
    member = λ lt. get_or-set_other row page lowest false false (λ e. ne (sym e)) ∙ is.member (subst (λ n. lowest < n) (length-set row page false) lt);
  }

  pub lowest_next : (next : ℕ) → page ≡ lowest → IsFirstFrom (set row page false) page next → IsLowest (set row page false) next
  lowest_next next e first = record {
    inside = let x = first.inside in omega arith;
    below = λ i lt. ⊎_elim (still i) (λ ge. first.least i (omega arith) lt) (cases_lt i lowest);
    member = λ _. first.member;
  }

  pub lowest_gone : (end : ℕ) → page ≡ lowest → IsEmptyFrom (set row page false) page → end ≡ length (set row page false) → IsLowest (set row page false) end
  lowest_gone end e empty is_end = record {
    inside = omega arith;
    below = λ i lt. ⊎_elim (still i) (λ ge. empty i (omega arith) (omega arith)) (cases_lt i lowest);
    member = λ lt. absurd (omega arith);
  }

  pub all_gone : page ≡ lowest → IsEmptyFrom (set row page false) page → (n : ℕ) → IsEmptyFrom (set row page false) n
  all_gone e empty n k from lt = ⊎_elim (still k) (λ ge. empty k (omega arith) lt) (cases_lt k lowest)

-- the end of the members, as a page comes and goes
module _ (row : List Bool) (page highest : ℕ) (end : IsEmptyFrom row (highest + 1)) where
  pub end_rises : highest < page → IsEmptyFrom (set row page true) (page + 1)
  end_rises lt k from inside =
      get_or-set_other row page k true false (omega arith) ∙ end k (omega arith) (subst (λ n. k < n) (length-set row page true) inside)

  pub end_stays : page ≤ highest → IsEmptyFrom (set row page true) (highest + 1)
  end_stays le k from inside =
      get_or-set_other row page k true false (omega arith) ∙ end k from (subst (λ n. k < n) (length-set row page true) inside)

  pub end_left : page < length row → IsEmptyFrom (set row page false) (highest + 1)
  end_left within k from inside = ⊎_elim
      (λ (e : k ≡ page). subst (λ j. get_or (set row page false) j false ≡ false) (sym e) (get_or-set_same row page false false within))
      (λ ne. get_or-set_other row page k false false ne ∙ end k from (subst (λ n. k < n) (length-set row page false) inside))
      (cases_eq k page)

pub ruleset lowest = (lowest_none, lowest_is, lowest_past, none_behind, lowest_entered, lowest_stays, lowest_other, lowest_next, lowest_gone, all_gone, end_rises, end_stays, end_left)
