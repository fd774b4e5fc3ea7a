-- The first entries of a row, as a stack.
use Rattle.std.proofs.Common.{◌≡◌, ℕ, ◌+◌, ◌-◌, ◌<◌, ◌≤◌, List, [], ◌∷◌, ◌++◌, length, get_or, set, take, suc, ap, ◌∙◌, arith, length-take-le, length-set, get_or-set_same}
use Rattle.std.proofs.Math.Seq.{take-suc}
use Rattle.std.proofs.lemmas.List.{take-set}
use Rattle.marker.specs.declared.entry.Entry.{Entry}
use Rattle.marker.specs.Entries.{AreSwapped}

next : (n : ℕ) → n + 1 ≡ suc n
next n = omega arith

-- the entry behind them is another one of them
pub pushed : (xs : List Entry) (n : ℕ) (e : Entry) → n < length xs → take (n + 1) (set xs n e) ≡ take n xs ++ e ∷ []
pushed xs n e lt =
    let size = length-set xs n e in
    ap (λ k. take k (set xs n e)) (next n) ∙ take-suc (set xs n e) n e (omega arith) ∙ (λ i. take-set xs n e i ++ get_or-set_same xs n e e lt i ∷ [])

-- the last one of them is none
pub popped : (xs : List Entry) (n : ℕ) (d : Entry) → 0 < n → n ≤ length xs → take n xs ≡ take (n - 1) xs ++ get_or xs (n - 1) d ∷ []
popped xs n d some le = (let l : n ≡ suc (n - 1) = omega arith in ap (λ k. take k xs) l) ∙ take-suc xs (n - 1) d (omega arith)

-- the last two of them change places
pub swapped : (xs : List Entry) (n k : ℕ) (d e : Entry) → k + 2 ≡ n → n ≤ length xs → AreSwapped (take n xs) (take n (set (set xs k (get_or xs (k + 1) d)) (k + 1) (get_or xs k e)))
swapped xs n k d e two le =
    let top = get_or xs (k + 1) d in
    let second = get_or xs k e in
    let all : n ≡ (k + 1) + 1 = omega arith in
    let row = set xs k top in
    let size = length-set xs k top in
    record {
      below = take k xs;
      second = second;
      top = top;
      was = ap (λ i. take i xs) (all ∙ next (k + 1)) ∙ take-suc xs (k + 1) d (omega arith) ∙ ap (λ l. l ++ top ∷ []) (ap (λ i. take i xs) (next k) ∙ take-suc xs k e (omega arith));
      are = ap (λ i. take i (set row (k + 1) second)) all ∙ pushed row (k + 1) second (omega arith) ∙ ap (λ l. l ++ second ∷ []) (pushed xs k top (omega arith));
    }

pub ruleset stacks = (pushed, popped, swapped, length-take-le)
