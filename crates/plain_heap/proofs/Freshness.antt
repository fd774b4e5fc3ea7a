-- A new object shares no word with those that are there, and there are no more objects than words.
use Rattle.std.proofs.Common.{◌≡◌, ℕ, ◌+◌, ◌-◌, ◌*◌, ◌/◌, ◌<◌, ◌≤◌, true, false, List, [], ◌∷◌, ◌++◌, length, get_or, map, eqb, sym, ap, ◌∙◌, arith, ⊎_elim}
use Rattle.std.specs.Prelude.{All, Contains}
use Rattle.std.specs.List.{list_any, IsDistinct}
use Rattle.std.proofs.Math.Nat.{mul-le-mul_left}
use Rattle.std.proofs.lemmas.List.{map_push, length-map}
use Rattle.std.proofs.lemmas.List.Elements.{All-contains, All-map, All-weaker, Contains-get_or}
use Rattle.std.proofs.lemmas.List.Folds.{list_any_none, Any-from_list_any}
use Rattle.std.proofs.lemmas.Map.Keys.{IsDistinct-push}
use Rattle.std.proofs.lemmas.Map.Steps.{length-le_from_distinct_below}
use Rattle.std.proofs.lemmas.Bool.{cases_lt, eqb-true, ne_eqb}
use Rattle.std.specs.Cmp.{nat_eq_equiv}
use Rattle.words.specs.declared.class.Kind.{Kind}
use Rattle.words.specs.declared.limits.TheConstants.{WORD_BYTES, PAGE_BYTES, PAGE_WORDS, FIRST_ADDRESS, MAX_SMALL_WORDS}
use Rattle.words.specs.Layout.{page_start}
use Rattle.heap_spec.specs.Layout.{LiesOn}
use Rattle.plain_heap.specs.declared.extent.Extent.{Extent}
use Rattle.plain_heap.specs.PlainContents.{IsInHeap, IsCellExtent, HasPages, IsPlacedExtent, first_word}
use Rattle.plain_heap.specs.Places.{IsPlaceOn, IsLargePlace, IsCutPage, IsNoBase, IsFresh}

-- two cells of one length that have a word in common are one
pub same_cell : (length i j x : ℕ) → length * i ≤ x → x < length * (i + 1) → length * j ≤ x → x < length * (j + 1) → i ≡ j
same_cell length i j x a b c d =
    ⊎_elim (λ less. absurd (let h : length * (i + 1) ≤ length * j = mul-le-mul_left length (before less) in omega arith))
    (λ more. ⊎_elim (λ less. absurd (let h : length * (j + 1) ≤ length * i = mul-le-mul_left length (after less) in omega arith)) (λ le. omega arith) (cases_lt j i))
    (cases_lt i j)
  where
    before : i < j → i + 1 ≤ j
    before less = omega arith

    after : j < i → j + 1 ≤ i
    after less = omega arith

pub fresh_small : (page : ℕ) (kind : Kind) (row : List Extent) (e : Extent) → All (IsPlacedExtent) row → e.length ≤ MAX_SMALL_WORDS → IsPlaceOn row page e.length kind e.base → IsFresh row e
fresh_small page kind row e placed few p f w has re rf =
    ⊎_elim (λ free. All-contains (λ (g : Extent). LiesOn g.base g.length page → ⊥) row f free has lies) (λ cut. in_cut cut.0 cut.1) p.cut
  where
    cell : ℕ
    cell = p.cell

    is_cell : e.base ≡ page_start page + WORD_BYTES * (e.length * cell)
    is_cell = p.is_cell

    in_page : e.length * (cell + 1) ≤ PAGE_WORDS
    in_page = p.in_page

    lies : LiesOn f.base f.length page
    lies = (omega arith, omega arith)

    in_cut : IsCutPage row page e.length kind → IsNoBase row e.base → ⊥
    in_cut cut none = ⊎_elim small large (All-contains (IsPlacedExtent) row f placed has)
      where
        agrees : (f.length ≡ e.length) × (f.kind ≡ kind)
        agrees = All-contains (λ (g : Extent). LiesOn g.base g.length page → (g.length ≡ e.length) × (g.kind ≡ kind)) row f cut has lies

        large : HasPages f → ⊥
        large l = let a = agrees.0 in let s = l.some in let h = l.whole in omega arith

        small : IsCellExtent f → ⊥
        small s =
            let a = agrees.0 in
            let g : f.base ≡ page_start s.page + WORD_BYTES * (e.length * s.cell) = rw (← a) s.is_cell in
            let h : e.length * (s.cell + 1) ≤ PAGE_WORDS = rw (← a) s.in_page in
            let q : s.page ≡ page = omega arith in
            let x : s.cell ≡ cell = same_cell e.length s.cell cell ((w - page_start page) / WORD_BYTES) (omega arith) (omega arith) (omega arith) (omega arith) in
            All-contains (λ (g : Extent). g.base ≡ e.base → ⊥) row f none has (g ∙ ap (λ y. page_start y + WORD_BYTES * (e.length * s.cell)) q ∙ ap (λ y. page_start page + WORD_BYTES * (e.length * y)) x ∙ sym is_cell)

pub fresh_large : (pages count : ℕ) (row : List Extent) (e : Extent) → e.length ≡ PAGE_WORDS * count → IsLargePlace row pages count e.base → IsFresh row e
fresh_large pages count row e whole p f w has re rf =
    let i = p.is_start in
    let page : ℕ = (w - FIRST_ADDRESS) / PAGE_BYTES in
    All-contains (λ (g : Extent). LiesOn g.base g.length page → ⊥) row f (p.free page (omega arith) (omega arith)) has (omega arith, omega arith)

-- the first words of the objects are below their number in the heap
below_all : (origin pages : ℕ) (row : List Extent) → All (IsInHeap origin pages) row → (q : ℕ) → list_any (eqb q) (map (first_word origin) row) ≡ true → q < PAGE_WORDS * pages
below_all origin pages row h q is =
    let a = Any-from_list_any (eqb q) (map (first_word origin) row) is in
    let b : All (λ g. g < PAGE_WORDS * pages) (map (first_word origin) row) = All-map (λ g. g < PAGE_WORDS * pages) (first_word origin) row (All-weaker (IsInHeap origin pages) (λ e. first_word origin e < PAGE_WORDS * pages) (λ e i. omega arith) row h) in
    rw (eqb-true q a.1 a.4) (rw a.3 at (b a.0 a.1 a.2))

-- there are no more objects than words
pub few_objects : (origin pages : ℕ) (row : List Extent) → All (IsInHeap origin pages) row → IsDistinct eqb (map (first_word origin) row) → length row ≤ PAGE_WORDS * pages
few_objects origin pages row h d = let l : length (map (first_word origin) row) ≤ PAGE_WORDS * pages = length-le_from_distinct_below (map (first_word origin) row) (PAGE_WORDS * pages) d (below_all origin pages row h) in rw length-map at l

-- with a new object the first words stay distinct
pub distinct_push : (origin pages : ℕ) (row : List Extent) (e : Extent) → All (IsInHeap origin pages) row → IsInHeap origin pages e → IsFresh row e → IsDistinct eqb (map (first_word origin) row) → IsDistinct eqb (map (first_word origin) (row ++ e ∷ []))
distinct_push origin pages row e h new fresh d = rw map_push (IsDistinct-push nat_eq_equiv (map (first_word origin) row) (first_word origin e) d
    (list_any_none (eqb (first_word origin e)) (map (first_word origin) row) (All-map (λ g. eqb (first_word origin e) g ≡ false) (first_word origin) row (λ k g lt. apart (get_or row k g) (Contains-get_or row k g lt)))))
  where
    apart : (f : Extent) → Contains row f → eqb (first_word origin e) (first_word origin f) ≡ false
    apart f has = ne_eqb _ _ (λ same. let i : IsInHeap origin pages f = All-contains (IsInHeap origin pages) row f h has in fresh f e.base has (omega arith, omega arith) (omega arith, omega arith))

pub distinct_none : (origin : ℕ) (row : List Extent) → row ≡ [] → IsDistinct eqb (map (first_word origin) row)
unfolding IsDistinct
distinct_none origin row e = rw e tt
