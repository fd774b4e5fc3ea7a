-- How many pages the objects cover that a collection keeps.
use Rattle.std.proofs.Common.{fold, cond, get_or, ◌≡◌, ℕ, suc, ◌+◌, ◌*◌, ◌≤◌, List, [], ◌∷◌, length, sum_by, Bool, true, false, Option, Some, refl, sym, ap, ◌∙◌, subst, arith}
use Rattle.std.specs.Prelude.{count_by}
use Rattle.std.proofs.lemmas.Bool.{false≢true}
use Rattle.words.specs.declared.limits.TheConstants.{PAGE_WORDS}
use Rattle.words.specs.Bits.{Has}
use Rattle.block_map.specs.declared.found.Found.{Found}
use Rattle.block_map.specs.FoundIn.{found_in}
use Rattle.block_map.specs.Objects.{IsMap}
use Rattle.marker.proofs.Costs.{span_at}
use Rattle.marker.specs.Marking.{Marking, AreMarksObjects, IsBlank, IsEmpty}
use Rattle.marker.specs.Work.{dirty_pages, newly_pages, entry_words, newly_from, left, left_of, span}
use Rattle.object_space.specs.Store.{Store, IsSwept}
use Rattle.object_space.specs.Sweeps.{ForgetsUnreached}
use Rattle.object_space.specs.Kept.{is_kept}
use Rattle.object_space.proofs.Kept.{kept_is, nothing_pending}
use Rattle.heap_core.specs.Collections.{marked_from, marked_pages}

-- Where nothing was marked, what is newly marked is what is marked; and it is asked of the marked granules alone which objects they are.
newly_as : (found found' : ℕ → Option Found) (k : ℕ) (old new : List Bool) → length new ≡ length old → ((i : ℕ) → Has old i → ⊥) → ((i : ℕ) → Has new i → span found (k + i) ≡ span found' (k + i))
    → newly_from found k old new ≡ marked_from found' k new
unfolding newly_from marked_from
newly_as found found' k [] [] l none same = refl
newly_as found found' k [] (b ∷ new) l none same = let z : suc (length new) ≡ 0 = l in absurd (omega arith)
newly_as found found' k (a ∷ old) [] l none same = let z : 0 ≡ suc (length old) = l in absurd (omega arith)
newly_as found found' k (true ∷ old) (b ∷ new) l none same = absurd (none 0 refl)
newly_as found found' k (false ∷ old) (false ∷ new) l none same =
    newly_as found found' (k + 1) old new (omega (arith, l)) (λ i. none (suc i)) (λ i h. subst (λ j. span found j ≡ span found' j) (let s : k + suc i ≡ (k + 1) + i = omega arith in s) (same (suc i) h))
newly_as found found' k (false ∷ old) (true ∷ new) l none same =
    let rest = newly_as found found' (k + 1) old new (omega (arith, l)) (λ i. none (suc i)) (λ i h. subst (λ j. span found j ≡ span found' j) (let s : k + suc i ≡ (k + 1) + i = omega arith in s) (same (suc i) h)) in
    let here : span found k ≡ span found' k = subst (λ j. span found j ≡ span found' j) (let s : k + 0 ≡ k = omega arith in s) (same 0 refl) in
    omega (arith, rest, here)

clear_fold : (row : List Bool) (a : ℕ) → ((i : ℕ) → get_or row i false ≡ false) → fold (λ n x. n + cond x 1 0) a row ≡ a
clear_fold [] a clear = refl
clear_fold (true ∷ row) a clear = absurd (false≢true (sym (clear 0)))
clear_fold (false ∷ row) a clear = clear_fold row (a + 0) (λ i. clear (suc i)) ∙ omega arith

-- a row with no bit set
clear_count : (row : List Bool) → ((i : ℕ) → get_or row i false ≡ false) → count_by (λ b. b) row ≡ 0
clear_count row clear = clear_fold row 0 clear

-- entries of which none is left
none_left : (found : ℕ → Option Found) (m : Marking) → IsEmpty m → entry_words found m ≡ 0
none_left found m e = ap (λ c. left_of found c + sum_by (left found) m.stack) e.current ∙ ap (λ es. 0 + sum_by (left found) es) e.stack

-- A collection reads no more than the pages of what it keeps.
pub reads_kept : (t t1 : Store) (roots : List ℕ) (dropped m : Marking) (pages n last : ℕ) → IsMap (length t.states) (found_in t.states) → IsMap (length t1.states) (found_in t1.states) → IsBlank pages dropped → ForgetsUnreached t roots dropped n m.marks t1 → IsSwept t1
    → AreMarksObjects (found_in t1.states) m → length m.marks ≡ length dropped.marks
    → last ≤ PAGE_WORDS * (dirty_pages dropped + newly_pages (found_in t.states) dropped m) + entry_words (found_in t.states) dropped → last ≤ PAGE_WORDS * marked_pages (found_in t1.states) m
reads_kept t t1 roots dropped m pages n last map map' blank x swept objects long few =
    let clean = clear_count dropped.dirty blank.dirty.clear in
    let empty = none_left (found_in t.states) dropped blank.empty in
    let same = newly_as (found_in t.states) (found_in t1.states) 0 dropped.marks m.marks long (λ i h. false≢true (sym (blank.marks.clear i) ∙ h))
    (λ i h. subst (λ j. span (found_in t.states) j ≡ span (found_in t1.states) j) (let s : i ≡ 0 + i = omega arith in s) (spans i h)) in
    omega (arith, clean, empty, same, few)
  where
    spans : (i : ℕ) → Has m.marks i → span (found_in t.states) i ≡ span (found_in t1.states) i
    spans i h =
        let o = objects i h in
        let now = o.is in
        let was : found_in t.states o.object.base ≡ Some o.object = (x.without.left o.object.base o.object (kept_is (is_kept t1.pending m.marks) (found_in t1.states) o.object.base o.object now (nothing_pending t1.pending m.marks o.object (swept o.object.page)))).0 in
        subst (λ k. span (found_in t.states) k ≡ span (found_in t1.states) k) o.first
        (span_at (length t.states) (found_in t.states) o.object (map.placed o.object.base o.object was) was ∙ sym (span_at (length t1.states) (found_in t1.states) o.object (map'.placed o.object.base o.object now) now))
