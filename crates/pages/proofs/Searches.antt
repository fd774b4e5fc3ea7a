-- Where a search for free pages may begin, as pages are taken and given back.
use Rattle.std.proofs.Common.{◌≡◌, ℕ, min, max, ◌+◌, ◌-◌, ◌<◌, ◌≤◌, Bool, true, false, List, length, get_or, refl, sym, ap, ◌∙◌, subst, ⊎_elim, arith, inl, inr}
use Rattle.std.proofs.lemmas.Bool.{cases_lt, false≢true}
use Rattle.std.proofs.lemmas.List.{get_or_past}
use Rattle.pages.specs.Runs.{IsFreeRun, IsFirstFreeRun, HasNoFreeRun, IsFilled, AreUsedBelow}
use Rattle.pages.specs.Hints.{HasNoRunBelow, AreHints}
use Rattle.pages.specs.declared.hints.Hints.{Hints}
use Rattle.pages.proofs.Runs.{begins_free, shorter}

used_none : (row : List Bool) → AreUsedBelow row 0
used_none row = record { inside = omega arith; used = λ k lt. absurd (omega (arith, lt)) }

pub nothing_known : (row : List Bool) → AreHints row (record { low = 0; sought = 1; passed = 0 })
nothing_known row = record {
  some = omega arith;
  used = used_none row;
  none = record { inside = omega arith; none = λ some i lt. absurd (omega (arith, lt)) };
}

-- ---- a search begins there
pub start_low : (row : List Bool) (n : ℕ) (hints : Hints) → AreHints row hints → HasNoRunBelow row n hints.low
start_low row n hints are = record { inside = are.used.inside; none = λ some i lt run. begins_free row i n some (are.used.used i lt) run }

pub start_passed : (row : List Bool) (n : ℕ) (hints : Hints) → hints.sought ≤ n → AreHints row hints → HasNoRunBelow row n (max hints.low hints.passed)
start_passed row n hints few are = record {
  inside = let a = are.used.inside in let b = are.none.inside in omega (arith, a, b);
  none = λ some i lt run. ⊎_elim
      (λ low. (start_low row n hints are).none some i low run)
      (λ high. are.none.none are.some i (omega (arith, lt, high)) (shorter row i n hints.sought few run))
      (cases_lt i hints.low);
}

-- ---- pages are taken
-- a page below the lowest run of one is used
below_first : (row : List Bool) (i k : ℕ) → IsFirstFreeRun row i 1 → k < i → get_or row k false ≡ false
below_first row i k first lt = by (get_or row k false) refl
  where
    by : (b : Bool) → get_or row k false ≡ b → b ≡ false
    by false is = refl
    by true is = absurd (first.lowest k lt (record {
      inside = let within = first.run.inside in omega (arith, within, lt);
      free = λ j a b. let e : j ≡ k = omega (arith, a, b) in ap (λ m. get_or row m false) e ∙ is;
    }))

-- a page that was taken isn't free, and neither is one that the row doesn't have
taken_false : (old new : List Bool) (first n k : ℕ) → IsFilled old new first n false → first ≤ k → k < first + n → get_or new k false ≡ false
taken_false old new first n k filled from within = ⊎_elim
    (λ there. filled.inside k from within there)
    (λ past. get_or_past new k false (let size = filled.size in omega (arith, past, size)))
    (cases_lt k (length old))

-- a page that is free behind it was free before
was_free : (old new : List Bool) (first n k : ℕ) → IsFilled old new first n false → get_or new k false ≡ true → get_or old k false ≡ true
was_free old new first n k filled is = ⊎_elim
    (λ before. sym (filled.others k (inl before)) ∙ is)
    (λ from. ⊎_elim
    (λ within. absurd (false≢true (sym (taken_false old new first n k filled from within) ∙ is)))
    (λ past. sym (filled.others k (inr past)) ∙ is)
    (cases_lt k (first + n)))
    (cases_lt k first)

run_before : (old new : List Bool) (first n i m : ℕ) → IsFilled old new first n false → IsFreeRun new i m → IsFreeRun old i m
run_before old new first n i m filled run = record {
  inside = let within = run.inside in let size = filled.size in omega (arith, within, size);
  free = λ k from below. was_free old new first n k filled (run.free k from below);
}

none_taken : (old new : List Bool) (first n m low : ℕ) → IsFilled old new first n false → HasNoRunBelow old m low → HasNoRunBelow new m low
none_taken old new first n m low filled none = record {
  inside = let within = none.inside in let size = filled.size in omega (arith, within, size);
  none = λ some i lt run. none.none some i lt (run_before old new first n i m filled run);
}

used_taken : (old new : List Bool) (first n low : ℕ) → IsFilled old new first n false → AreUsedBelow old low → AreUsedBelow new low
used_taken old new first n low filled used = record {
  inside = let within = used.inside in let size = filled.size in omega (arith, within, size);
  used = λ k lt. is_used k lt (get_or new k false) refl;
}
  where
    is_used : (k : ℕ) → k < low → (b : Bool) → get_or new k false ≡ b → b ≡ false
    is_used k lt false is = refl
    is_used k lt true is = absurd (false≢true (sym (used.used k lt) ∙ was_free old new first n k filled is))

module _ (old new : List Bool) (first n : ℕ) (hints : Hints) (are : AreHints old hints) (run : IsFirstFreeRun old first n) (filled : IsFilled old new first n false) where
  pub hints_taken : AreHints new hints
  hints_taken = record { some = are.some; used = used_taken old new first n hints.low filled are.used; none = none_taken old new first n hints.sought hints.passed filled are.none }

  -- behind one page
  pub hints_one : n ≡ 1 → AreHints new (record { low = first + 1; sought = hints.sought; passed = hints.passed })
  hints_one one =
      let single : IsFirstFreeRun old first 1 = subst (IsFirstFreeRun old first) one run in
      record {
        some = are.some;
        used = record {
          inside = let within = single.run.inside in let size = filled.size in omega (arith, within, size);
          used = λ k lt. ⊎_elim
              (λ before. filled.others k (inl before) ∙ below_first old first k single before)
              (λ from. taken_false old new first n k filled from (omega (arith, lt, one)))
              (cases_lt k first);
        };
        none = hints_taken.none;
      }

  -- and behind several
  pub hints_several : 1 < n → AreHints new (record { low = hints.low; sought = n; passed = first })
  hints_several some = record {
    some = omega (arith, some);
    used = hints_taken.used;
    none = record {
      inside = let within = run.run.inside in let size = filled.size in omega (arith, within, size);
      none = λ more i lt free. run.lowest i lt (run_before old new first n i n filled free);
    };
  }

pub hints_missed : (row : List Bool) (pages n : ℕ) (hints : Hints) → AreHints row hints → length row ≡ pages → HasNoFreeRun row n → AreHints row (record { low = hints.low; sought = n; passed = pages })
hints_missed row pages n hints are size none = record {
  some = ⊎_elim (λ lt. lt) (λ ge. absurd (none 0 (record { inside = omega (arith, ge); free = λ k a b. absurd (omega (arith, b, ge)) }))) (cases_lt 0 n);
  used = are.used;
  none = record { inside = omega (arith, size); none = λ some i lt run. none i run };
}

-- ---- pages are given back
used_given : (old new : List Bool) (low first n : ℕ) → AreUsedBelow old low → IsFilled old new first n true → AreUsedBelow new (min low first)
used_given old new low first n used filled = record {
  inside = let inside = used.inside in let size = filled.size in omega (arith, inside, size);
  used = λ k lt. filled.others k (inl (omega (arith, lt))) ∙ used.used k (omega (arith, lt));
}

pub hints_given : (old new : List Bool) (first n : ℕ) (hints : Hints) → AreHints old hints → IsFilled old new first n true → AreHints new (record { low = min hints.low first; sought = hints.sought; passed = min hints.passed (first - hints.sought) })
hints_given old new first n hints are filled = record {
  some = are.some;
  used = used_given old new hints.low first n are.used filled;
  none = record {
    inside = let within = are.none.inside in let size = filled.size in omega (arith, within, size);
    none = λ some i lt run. are.none.none some i (omega (arith, lt)) (record {
      inside = let within = run.inside in let size = filled.size in omega (arith, within, size);
      free = λ k from below. sym (filled.others k (inl (omega (arith, below, lt)))) ∙ run.free k from below;
    });
  };
}

pub ruleset hinting = (nothing_known, start_low, start_passed, hints_taken, hints_one, hints_several, hints_missed, hints_given)
