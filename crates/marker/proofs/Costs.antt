-- What is left to read.
use Rattle.std.proofs.Common.{fold, cond, ◌≡◌, ℕ, zero, suc, ◌+◌, ◌-◌, ◌*◌, ◌<◌, ◌≤◌, List, [], ◌∷◌, length, Bool, true, false, ◌==◌, get_or, set, Option, Some, sum_by, refl, sym, ap, ◌∙◌, arith, add-zero}
use Rattle.std.specs.Prelude.{count_by}
use Rattle.std.proofs.lemmas.Bool.{false≢true, cond-true, eq-eqb}
use Rattle.block_map.specs.declared.found.Found.{Found}
use Rattle.block_map.specs.Objects.{IsPlaced}
use Rattle.words.specs.declared.class.Kind.TheVariants.{Normal}
use Rattle.words.specs.declared.limits.TheConstants.{FIRST_ADDRESS, GRANULE_BYTES, PAGE_WORDS}
use Rattle.words.specs.Bits.{Has}
use Rattle.words.specs.Layout.{granule}
use Rattle.marker.specs.declared.entry.Entry.{Entry}
use Rattle.marker.specs.Marking.{pages_of}
use Rattle.marker.specs.Work.{left, left_in, read_of, span, span_in, unmarked_from, newly_from, page_words}

-- a mark that is set
pub unmarked_set : (found : ℕ → Option Found) (row : List Bool) (k i : ℕ) → i < length row → get_or row i false ≡ false
    → unmarked_from found k (set row i true) + span found (k + i) ≡ unmarked_from found k row
unfolding unmarked_from
unmarked_set found [] k i lt e = let z : i < 0 = lt in absurd (omega arith)
unmarked_set found (true ∷ row) k zero lt e = absurd (false≢true (sym e))
unmarked_set found (false ∷ row) k zero lt e = rw add-zero (omega arith)
unmarked_set found (true ∷ row) k (suc i) lt e =
    ap (λ j. unmarked_from found (k + 1) (set row i true) + span found j) (let s : k + suc i ≡ (k + 1) + i = omega arith in s) ∙ unmarked_set found row (k + 1) i (omega arith) e
unmarked_set found (false ∷ row) k (suc i) lt e =
    let h : unmarked_from found (k + 1) (set row i true) + span found ((k + 1) + i) ≡ unmarked_from found (k + 1) row = unmarked_set found row (k + 1) i (omega arith) e in
    let s : span found (k + suc i) ≡ span found ((k + 1) + i) = ap (span found) (omega arith) in
    omega (arith, h, s)

-- an object's own granule
pub span_at : (pages : ℕ) (found : ℕ → Option Found) (g : Found) → IsPlaced pages g → found g.base ≡ Some g → span found (granule g.base) ≡ pages_of g
unfolding span
span_at pages found g p e =
    let a = p.aligned in let b = p.above in
    let s : FIRST_ADDRESS + GRANULE_BYTES * granule g.base ≡ g.base = omega arith in
    (λ i. span_in (found (s i)) (s i)) ∙ ap (λ o. span_in o g.base) e ∙ cond-true (g.base == g.base) (pages_of g) 0 (eq-eqb g.base g.base refl)

-- an object's words lie on the pages that it covers
pub words_covered : (pages : ℕ) (g : Found) → IsPlaced pages g → g.len ≤ PAGE_WORDS * pages_of g
words_covered pages g p = let a = p.above in let s = p.some in omega arith

-- an entry of a Normal object
pub left_new : (found : ℕ → Option Found) (g : Found) (e : Entry) → found g.base ≡ Some g → g.kind ≡ Normal → e.base ≡ g.base → left found e ≡ g.len - e.next
unfolding left
left_new found g e o n b =
    ap (λ x. left_in (found x) e) b ∙ ap (λ y. left_in y e) o ∙ cond-true (g.base == e.base) (read_of g.kind (g.len - e.next)) 0 (eq-eqb g.base e.base (sym b))
    ∙ ap (λ k. read_of k (g.len - e.next)) n

-- what was unmarked is unmarked or newly marked
pub newly_rest : (found : ℕ → Option Found) (k : ℕ) (old new : List Bool) → length new ≡ length old → ((i : ℕ) → Has old i → Has new i)
    → unmarked_from found k old ≡ unmarked_from found k new + newly_from found k old new
unfolding unmarked_from newly_from
newly_rest found k [] [] l g = omega arith
newly_rest found k [] (b ∷ new) l g = let z : suc (length new) ≡ 0 = l in absurd (omega arith)
newly_rest found k (a ∷ old) [] l g = let z : 0 ≡ suc (length old) = l in absurd (omega arith)
newly_rest found k (true ∷ old) (false ∷ new) l g = absurd (false≢true (g 0 refl))
newly_rest found k (true ∷ old) (true ∷ new) l g = newly_rest found (k + 1) old new (omega (arith, l)) (λ i. g (suc i))
newly_rest found k (false ∷ old) (false ∷ new) l g = let h = newly_rest found (k + 1) old new (omega (arith, l)) (λ i. g (suc i)) in omega (arith, h)
newly_rest found k (false ∷ old) (true ∷ new) l g = let h = newly_rest found (k + 1) old new (omega (arith, l)) (λ i. g (suc i)) in omega (arith, h)

dirty_fold : (row : List Bool) (a b : ℕ) → a ≡ PAGE_WORDS * b → fold (λ n x. n + page_words x) a row ≡ PAGE_WORDS * fold (λ n x. n + cond x 1 0) b row
dirty_fold [] a b e = e
dirty_fold (true ∷ row) a b e = dirty_fold row (a + PAGE_WORDS) (b + 1) (omega arith)
dirty_fold (false ∷ row) a b e = dirty_fold row (a + 0) (b + 0) (omega arith)

pub dirty_words : (row : List Bool) → sum_by page_words row ≡ PAGE_WORDS * count_by (λ b. b) row
dirty_words row = dirty_fold row 0 0 (omega arith)
