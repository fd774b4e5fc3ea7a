-- The free cells that begin at a word of a page's granules are linked, from the highest to the lowest.
use Rattle.std.proofs.Common.{◌≡◌, ℕ, ◌+◌, ◌-◌, ◌*◌, ◌/◌, ◌%◌, ◌^◌, ◌<◌, ◌≤◌, Bool, true, false, List, length, get_or, sym, ap, ◌∙◌, subst, ⊎_elim, arith}
use Rattle.std.specs.Prelude.{◌==◌}
use Rattle.std.specs.Int.{bit_at}
use Rattle.std.proofs.lemmas.Bool.{cases_lt}
use Rattle.std.proofs.lemmas.List.{get_or_past}
use Rattle.std.proofs.Math.Nat.{mul-le-mul_right, mul-div_cancel}
use Rattle.words.specs.declared.limits.TheConstants.{GRANULE_WORDS, PAGE_GRANULES, PAGE_WORDS}
use Rattle.words.specs.Classes.{IsSizeClass}
use Rattle.pages.specs.Memory.{with_word_at}
use Rattle.blocks.specs.Begins.{first_cell_from, IsFreeWord}
use Rattle.blocks.specs.Lists.{cell_start, link_of, ChangesFree, HasPage, IsLinkedFrom}
use Rattle.blocks.proofs.Begins.{begin_fits, granules_some, later}
use Rattle.blocks.proofs.Lists.{cell_more, linked_to}
use Rattle.blocks.proofs.Places.{divided}
use Rattle.blocks.proofs.Tops.{low_none, top_above, top_inside, top_set, IsLowRest, IsTop}

-- ---- the first cell from a granule on
module _ (g : ℕ) (some : 0 < g) where
  -- the cells before it begin before that granule, and the others don't
  pub before : (granule k : ℕ) → k < first_cell_from g granule → k * g < granule
  before granule k lt =
      let d = (divided (granule + g - 1) g some).0 in
      let m : (k + 1) * g ≤ (granule + g - 1) / g * g = mul-le-mul_right g (omega arith) in
      let e : (k + 1) * g ≡ k * g + g = omega arith in
      omega (arith, d, m, e, some)

  pub behind : (granule k : ℕ) → first_cell_from g granule ≤ k → granule ≤ k * g
  behind granule k ge =
      let d = (divided (granule + g - 1) g some).1 in
      let m : (granule + g - 1) / g * g ≤ k * g = mul-le-mul_right g ge in
      omega (arith, d, m, some)

  pub from_its_own : (i : ℕ) → first_cell_from g (i * g) ≡ i
  from_its_own i = ⊎_elim
      (λ lt. absurd (let b = behind (i * g) (first_cell_from g (i * g)) (omega arith) in let m = later g (first_cell_from g (i * g)) i some lt in omega (arith, b, m)))
      (λ ge. ⊎_elim (λ gt. absurd (let b = before (i * g) i gt in omega (arith, b))) (λ le. omega (arith, ge, le)) (cases_lt i (first_cell_from g (i * g))))
      (cases_lt (first_cell_from g (i * g)) i)

  pub at_most : (low high : ℕ) → low ≤ high → first_cell_from g low ≤ first_cell_from g high
  at_most low high le = ⊎_elim
      (λ lt. absurd (let b = before low (first_cell_from g high) lt in let c = behind high (first_cell_from g high) (omega arith) in omega (arith, b, c, le)))
      (λ ge. ge)
      (cases_lt (first_cell_from g high) (first_cell_from g low))

-- no cell begins behind the page
pub page_end : (c n : ℕ) → IsSizeClass c → n ≡ PAGE_WORDS / c → n ≤ first_cell_from (c / GRANULE_WORDS) PAGE_GRANULES
page_end c n is size = ⊎_elim
    (λ lt. absurd (
    let b = behind (c / GRANULE_WORDS) (granules_some c is) PAGE_GRANULES (first_cell_from (c / GRANULE_WORDS) PAGE_GRANULES) (omega arith) in
    let f = begin_fits c (first_cell_from (c / GRANULE_WORDS) PAGE_GRANULES) is (omega (arith, lt, size)) in omega (arith, b, f)))
    (λ ge. ge)
    (cases_lt (first_cell_from (c / GRANULE_WORDS) PAGE_GRANULES) n)

-- ---- the free cells of one word of granules
module _ (cells : List Bool) (g j word : ℕ) (some : 0 < g) (free : IsFreeWord cells g j word) where
  -- a cell that begins in the word at a granule that isn't set is taken, or behind the last one
  taken_at : (k : ℕ) → 64 * j ≤ k * g → k * g < 64 * j + 64 → bit_at word (k * g % 64) ≡ 0 → get_or cells k true ≡ true
  taken_at k ge lt none = ⊎_elim
      (λ in_row. free.cell k in_row (omega (arith, ge, lt)) ∙ ap (λ b. b == 0) none)
      (λ past. get_or_past cells k true past)
      (cases_lt k (length cells))

  module _ (link : ℕ → ℕ) (rest to first : ℕ) (l : IsLowRest word rest to) (h : IsLinkedFrom link cells (first_cell_from g (64 * j + to)) first) where
    -- no free cell is left
    pub word_end : rest ≡ 0 → IsLinkedFrom link cells (first_cell_from g (64 * j)) first
    word_end none = linked_to link cells (first_cell_from g (64 * j + to)) (first_cell_from g (64 * j)) first (at_most g some (64 * j) (64 * j + to) (omega arith))
        (λ k ge lt.
        let low = behind g some (64 * j) k ge in let high = before g some (64 * j + to) k lt in let few = l.few in
        taken_at k low (omega (arith, high, few)) (low_none word rest to none l (k * g % 64) (omega (arith, low, high, few))))
        h

    module _ (top : ℕ) (fits : rest < 2 ^ 64) (t : IsTop rest top) where
      inside : top < to
      inside = top_inside rest top fits t word to l

      pub top_cell : (i : ℕ) × (i < length cells) × (i * g ≡ 64 * j + top)
      top_cell = free.only top t.inside (sym (l.below top inside) ∙ top_set rest top fits t)

      pub top_number : (64 * j + top) / g ≡ top_cell.0
      top_number = ap (λ m. m / g) (sym top_cell.2) ∙ mul-div_cancel top_cell.0 some

      pub top_free : get_or cells top_cell.0 true ≡ false
      top_free =
          let at = top_cell.2 in let few = t.inside in
          let place : top_cell.0 * g % 64 ≡ top = omega (arith, at, few) in
          free.cell top_cell.0 top_cell.1 (omega (arith, at, few)) ∙ ap (λ m. bit_at word m == 0) place ∙ ap (λ b. b == 0) (sym (l.below top inside) ∙ top_set rest top fits t)

      pub down_to : IsLinkedFrom link cells (top_cell.0 + 1) first
      down_to = linked_to link cells (first_cell_from g (64 * j + to)) (top_cell.0 + 1) first
          (⊎_elim
          (λ lt. absurd (let b = behind g some (64 * j + to) top_cell.0 (omega (arith, lt)) in let at = top_cell.2 in let i = inside in omega (arith, b, at, i)))
          (λ ge. ge)
          (cases_lt (first_cell_from g (64 * j + to)) (top_cell.0 + 1)))
          (λ k ge lt.
          let low = later g top_cell.0 k some (omega (arith, ge)) in let high = before g some (64 * j + to) k lt in let at = top_cell.2 in let few = l.few in
          taken_at k (omega (arith, low, at)) (omega (arith, high, few))
          (sym (l.below (k * g % 64) (omega (arith, low, at, high, few))) ∙ top_above rest top fits t (k * g % 64) (omega (arith, low, at, high, few))))
          h

-- its highest free cell comes first
pub word_more : (words words' : List ℕ) (page class : ℕ) (cells : List Bool) (j word rest to first top cell address w : ℕ) → (is : IsSizeClass class) → HasPage words page → length cells ≡ PAGE_WORDS / class → IsFreeWord cells (class / GRANULE_WORDS) j word
    → IsLowRest word rest to → IsLinkedFrom (link_of words page class) cells (first_cell_from (class / GRANULE_WORDS) (64 * j + to)) first → rest < 2 ^ 64 → IsTop rest top → cell ≡ (64 * j + top) / (class / GRANULE_WORDS) → address ≡ cell_start page class cell → w ≡ first
    → words' ≡ with_word_at words address w → IsLinkedFrom (link_of words' page class) cells (first_cell_from (class / GRANULE_WORDS) (64 * j + top)) cell × ChangesFree words words' page class cells
word_more words words' page class cells j word rest to first top cell address w is has size free l h fits t number at says written =
    let g : ℕ = class / GRANULE_WORDS in
    let some = granules_some class is in
    let i : ℕ = (top_cell cells g j word some free (link_of words page class) rest to first l h top fits t).0 in
    let same : cell ≡ i = number ∙ top_number cells g j word some free (link_of words page class) rest to first l h top fits t in
    let place : first_cell_from g (64 * j + top) ≡ i = ap (first_cell_from g) (sym (top_cell cells g j word some free (link_of words page class) rest to first l h top fits t).2) ∙ from_its_own g some i in
    let more = cell_more words words' page class cells i first address w is has size (top_free cells g j word some free (link_of words page class) rest to first l h top fits t)
    (down_to cells g j word some free (link_of words page class) rest to first l h top fits t) (at ∙ ap (cell_start page class) same) says written in
    (subst (λ n. IsLinkedFrom (link_of words' page class) cells n cell) (sym place) (subst (IsLinkedFrom (link_of words' page class) cells i) (sym same) more.0), more.1)

-- and is one of the page
pub top_inside_page : (class : ℕ) (cells : List Bool) (j word rest to top cell : ℕ) → IsSizeClass class → length cells ≡ PAGE_WORDS / class → IsFreeWord cells (class / GRANULE_WORDS) j word → IsLowRest word rest to → rest < 2 ^ 64 → IsTop rest top
    → cell ≡ (64 * j + top) / (class / GRANULE_WORDS) → cell < PAGE_WORDS / class
top_inside_page class cells j word rest to top cell is size free l fits t number =
    let p = free.only top t.inside (sym (l.below top (top_inside rest top fits t word to l)) ∙ top_set rest top fits t) in
    let same : cell ≡ p.0 = number ∙ ap (λ m. m / (class / GRANULE_WORDS)) (sym p.2) ∙ mul-div_cancel p.0 (granules_some class is) in
    let few = p.1 in omega (arith, same, few, size)
