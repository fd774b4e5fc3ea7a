-- The search for a run of free pages, and the filling of one.
use Rattle.std.proofs.Common.{◌≡◌, ℕ, ◌-◌, ◌<◌, ◌≤◌, Bool, true, false, List, length, get_or, sym, ap, ◌∙◌, arith, ⊎_elim}
use Rattle.std.specs.Prelude.{Option, Some, None, MatchOption}
use Rattle.std.proofs.lemmas.Bool.{cases_lt, false≢true}
use Rattle.words.specs.Bits.{IsEmptyFrom, IsFirstFrom, IsFullFrom, IsFirstClearFrom}
use Rattle.pages.specs.Runs.{IsFreeRun, IsFirstFreeRun, HasNoFreeRun, IsFirstFreeRunFrom, HasNoFreeRunFrom, IsRunEnd}
use Rattle.pages.specs.Hints.{HasNoRunBelow}

-- no n consecutive pages are free that begin before the page low
pub record IsSearched (row : List Bool) (n low : ℕ) : Type 0 where
  pub some : 0 < n
  pub inside : low ≤ length row
  pub none : (i : ℕ) → i < low → IsFreeRun row i n → ⊥

-- a run begins at a free page
pub begins_free : (row : List Bool) (i n : ℕ) → 0 < n → get_or row i false ≡ false → IsFreeRun row i n → ⊥
begins_free row i n some taken run = false≢true (sym taken ∙ run.free i (omega arith) (omega arith))

pub search_start : (row : List Bool) (n low : ℕ) → 0 < n → HasNoRunBelow row n low → IsSearched row n low
search_start row n low some none = record { some = some; inside = none.inside; none = none.none some }

-- a run has the shorter one that begins where it does
pub shorter : (row : List Bool) (i n m : ℕ) → m ≤ n → IsFreeRun row i n → IsFreeRun row i m
shorter row i n m few run = let within = run.inside in record { inside = omega (arith, few, within); free = λ k from below. run.free k from (omega (arith, below, few)) }

pub search_more : (row : List Bool) (n low most first end : ℕ) → IsSearched row n low → most ≤ n → IsFirstFreeRunFrom row low first most → IsRunEnd row first end → end - first < n → IsSearched row n end
search_more row n low most first end s few next stop short = record {
  some = s.some;
  inside = stop.inside;
  none = λ i lt run. ⊎_elim
      (λ before. s.none i before run)
      (λ from. ⊎_elim
      (λ between. next.lowest i from between (shorter row i n most few run))
      (λ inside.
      let within = run.inside in let past = stop.past in
      false≢true (sym (stop.stop (omega arith)) ∙ run.free end (omega arith) (omega arith)))
      (cases_lt i first))
      (cases_lt i low);
}

pub search_found : (row : List Bool) (n low most first end : ℕ) → IsSearched row n low → most ≤ n → IsFirstFreeRunFrom row low first most → IsRunEnd row first end → n ≤ end - first → IsFirstFreeRun row first n
search_found row n low most first end s few next stop long =
    let inside = stop.inside in let some = s.some in
    record {
      run = record { inside = omega arith; free = λ k from below. stop.free k from (omega arith) };
      lowest = λ j lt run. ⊎_elim (λ before. s.none j before run) (λ from. next.lowest j from lt (shorter row j n most few run)) (cases_lt j low);
    }

pub search_end : (row : List Bool) (n low most : ℕ) → IsSearched row n low → most ≤ n → HasNoFreeRunFrom row low most → HasNoFreeRun row n
search_end row n low most s few none i run = ⊎_elim (λ before. s.none i before run) (λ from. none i from (shorter row i n most few run)) (cases_lt i low)

pub no_pages : (row : List Bool) → IsFirstFreeRun row 0 0
no_pages row = record { run = record { inside = omega arith; free = λ k a b. absurd (omega arith) }; lowest = λ j lt run. absurd (omega arith) }

no_page : (row : List Bool) (low : ℕ) → HasNoRunBelow row 1 low → IsEmptyFrom row low → HasNoFreeRun row 1
no_page row low below empty i run =
    let within = run.inside in ⊎_elim (λ before. below.none (omega arith) i before run) (λ from. begins_free row i 1 (omega arith) (empty i from (omega arith)) run) (cases_lt i low)

first_page : (row : List Bool) (low i : ℕ) → HasNoRunBelow row 1 low → IsFirstFrom row low i → IsFirstFreeRun row i 1
first_page row low i below next =
    let inside = next.inside in
    record {
      run = record { inside = omega arith; free = λ k from lt. let e : k ≡ i = omega arith in ap (λ m. get_or row m false) e ∙ next.member };
      lowest = λ j lt run. ⊎_elim (λ before. below.none (omega arith) j before run) (λ from. begins_free row j 1 (omega arith) (next.least j from lt) run) (cases_lt j low);
    }

pub page_found : (row : List Bool) (low : ℕ) (found : Option ℕ) → HasNoRunBelow row 1 low → MatchOption found (IsEmptyFrom row low) (λ i. IsFirstFrom row low i) → MatchOption found (HasNoFreeRun row 1) (λ i. IsFirstFreeRun row i 1)
page_found row low None below empty = no_page row low below empty
page_found row low (Some i) below first = first_page row low i below first

no_start : (row : List Bool) (n low : ℕ) → 0 < n → HasNoRunBelow row n low → HasNoFreeRunFrom row low n → HasNoFreeRun row n
no_start row n low some below none i run = ⊎_elim (λ before. below.none some i before run) (λ from. none i from run) (cases_lt i low)

first_start : (row : List Bool) (n low i : ℕ) → 0 < n → HasNoRunBelow row n low → IsFirstFreeRunFrom row low i n → IsFirstFreeRun row i n
first_start row n low i some below first = record {
  run = first.run;
  lowest = λ j lt run. ⊎_elim (λ before. below.none some j before run) (λ from. first.lowest j from lt run) (cases_lt j low);
}

pub start_found : (row : List Bool) (n low : ℕ) (found : Option ℕ) → 0 < n → HasNoRunBelow row n low → MatchOption found (HasNoFreeRunFrom row low n) (λ i. IsFirstFreeRunFrom row low i n) → MatchOption found (HasNoFreeRun row n) (λ i. IsFirstFreeRun row i n)
start_found row n low None some below none = no_start row n low some below none
start_found row n low (Some i) some below first = first_start row n low i some below first

pub ruleset searching = (search_start, search_more, search_found, search_end, no_pages)

pub ends_inside : (row : List Bool) (first end : ℕ) → get_or row first false ≡ true → IsFirstClearFrom row first end → IsRunEnd row first end
ends_inside row first end free next =
    let from = next.from in
    record {
      past = ⊎_elim (λ lt. lt) (λ ge. let e : end ≡ first = omega arith in absurd (false≢true (sym next.clear ∙ ap (λ k. get_or row k false) e ∙ free))) (cases_lt first end);
      inside = let i = next.inside in omega arith;
      free = next.least;
      stop = λ _. next.clear;
    }

pub ends_last : (row : List Bool) (first : ℕ) → first < length row → IsFullFrom row first → IsRunEnd row first (length row)
ends_last row first inside full = record { past = inside; inside = omega arith; free = full; stop = λ lt. absurd (omega arith) }

pub ruleset ending = (ends_inside, ends_last)
