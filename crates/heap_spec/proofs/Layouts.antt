-- Where objects lie, in numbers: size classes, cells and pages.
use Rattle.std.proofs.Common.{◌≡◌, ◌≢◌, ℕ, ◌+◌, ◌-◌, ◌*◌, ◌/◌, ◌%◌, ◌<◌, ◌≤◌, ◌⊎◌, sym, ap, ◌∙◌, subst, arith, inl, inr, ⊎_elim}
use Rattle.std.specs.Prelude.{Some}
use Rattle.std.specs.Int.{div_ceil}
use Rattle.std.proofs.Math.Nat.{mul-le-mul_left}
use Rattle.std.proofs.lemmas.Bool.{cases_lt, cases_order}
use Rattle.words.specs.declared.limits.TheConstants.{GRANULE_BYTES, PAGE_BYTES, PAGE_WORDS}
use Rattle.words.specs.declared.class.Placement.{Placement}
use Rattle.words.specs.declared.class.Placement.TheVariants.{Small, Large}
use Rattle.words.specs.Classes.{IsSizeClass}
use Rattle.words.specs.Placing.{placement_of}
use Rattle.words.proofs.Classes.{class_even, class_some}
use Rattle.words.proofs.Placements.{placement_has}
use Rattle.words.specs.Layout.{page_start}
use Rattle.heap_spec.specs.Layout.{LiesOn}
use Rattle.heap_spec.specs.Sound.{IsCell, ArePages, LieInHeap}

-- the place of a request is a size class, or some pages
abbrev pub IsPlacement : Placement → Type 0
IsPlacement (Small class) = IsSizeClass class
IsPlacement (Large pages) = 0 < pages

pub placed : (limit n : ℕ) (placement : Placement) → placement_of limit n ≡ Some placement → IsPlacement placement
placed limit n placement e = placement_has IsPlacement limit n placement e (λ class is holds. is) (λ more few. let some : 0 < div_ceil n PAGE_WORDS = omega arith in some)

-- cells and pages lie in the heap
pub cell_lies : (pages base len : ℕ) → IsCell pages base len → LieInHeap pages base len
cell_lies pages base len c =
    let page : ℕ = c.page in
    let cell : ℕ = c.cell in
    let lt : page < pages = c.in_heap in
    let fits : len * (cell + 1) ≤ PAGE_WORDS = c.in_page in
    let is : base ≡ page_start page + 8 * (len * cell) = c.is_cell in
    let some : 2 ≤ len = class_some len c.class in
    record { some = omega arith; from = omega arith; to = omega arith; aligned = even (len / 2) (let even : len % 2 ≡ 0 = class_even len c.class in omega arith) }
  where
    even : (half : ℕ) → len ≡ 2 * half → base % GRANULE_BYTES ≡ 0
    even half e =
        let is : base ≡ page_start c.page + 8 * (len * c.cell) = c.is_cell in
        let twice : len * c.cell ≡ 2 * (half * c.cell) = ap (λ x. x * c.cell) e ∙ (let m : 2 * half * c.cell ≡ 2 * (half * c.cell) = omega arith in m) in
        omega arith

pub pages_lie : (pages base len : ℕ) → ArePages pages base len → LieInHeap pages base len
pages_lie pages base len p =
    let some = p.some in
    let in_heap = p.in_heap in
    let is = p.is_start in
    let whole = p.whole in
    record { some = omega arith; from = omega arith; to = omega arith; aligned = omega arith }

-- so many words at a end before those at b begin, or begin after those end
abbrev pub AreApart : ℕ → ℕ → ℕ → ℕ → Type 0
AreApart a n b m = (a + 8 * n ≤ b) ⊎ (b + 8 * m ≤ a)

-- what does not lie on a page is apart from what lies within it
off_page : (page a n b m : ℕ) → page_start page ≤ a → a + 8 * n ≤ page_start (page + 1) → (LiesOn b m page → ⊥) → AreApart a n b m
off_page page a n b m from to off =
    ⊎_elim
    (λ below. ⊎_elim (λ over. absurd (off (below, over))) (λ under. inr (omega arith)) (cases_lt (page_start page) (b + 8 * m)))
    (λ above. inl (omega arith))
    (cases_lt b (page_start (page + 1)))

-- what lies on none of some pages in a row is apart from them
pub off_pages : (first count b m : ℕ) → 0 < count → 0 < m → ((page : ℕ) → first ≤ page → page < first + count → LiesOn b m page → ⊥)
    → AreApart (page_start first) (PAGE_WORDS * count) b m
off_pages first count b m some words off =
    ⊎_elim
    (λ below. ⊎_elim
    (λ over. absurd (⊎_elim
    (λ before. off first (omega arith) (omega arith) (omega arith, omega arith))
    (λ after. let page : ℕ = (b - page_start 0) / PAGE_BYTES in off page (omega arith) (omega arith) (omega arith, omega arith))
    (cases_lt b (page_start first))))
    (λ under. inr (omega arith))
    (cases_lt (page_start first) (b + 8 * m)))
    (λ above. inl (omega arith))
    (cases_lt b (page_start first + 8 * (PAGE_WORDS * count)))

-- two cells of a page that is cut for one class
cells_apart : (page n i j : ℕ) → i ≢ j → AreApart (page_start page + 8 * (n * i)) n (page_start page + 8 * (n * j)) n
cells_apart page n i j ne =
    ⊎_elim (λ same. absurd (ne same))
    (⊎_elim
    (λ less. inl (let on : i + 1 ≤ j = omega arith in let h : n * (i + 1) ≤ n * j = mul-le-mul_left n on in omega arith))
    (λ more. inr (let on : j + 1 ≤ i = omega arith in let h : n * (j + 1) ≤ n * i = mul-le-mul_left n on in omega arith)))
    (cases_order i j)

-- a cell is apart from what lies off its page, and from another cell of its class
pub cell_off : (pages a n b m : ℕ) (c : IsCell pages a n) → (LiesOn b m c.page → ⊥) → AreApart a n b m
cell_off pages a n b m c off = let fits : n * (c.cell + 1) ≤ PAGE_WORDS = c.in_page in let is = c.is_cell in off_page c.page a n b m (omega arith) (omega arith) off

pub cell_apart : (pages a n b : ℕ) (c : IsCell pages a n) → b ≢ a → LiesOn b n c.page → IsCell pages b n → AreApart a n b n
cell_apart pages a n b c ne on d =
    let page : ℕ = c.page in
    let other : ℕ = d.page in
    let i : ℕ = c.cell in
    let j : ℕ = d.cell in
    let fits : n * (i + 1) ≤ PAGE_WORDS = c.in_page in
    let is : a ≡ page_start page + 8 * (n * i) = c.is_cell in
    let fits' : n * (j + 1) ≤ PAGE_WORDS = d.in_page in
    let is' : b ≡ page_start other + 8 * (n * j) = d.is_cell in
    let lo = on.0 in
    let hi = on.1 in
    let same : other ≡ page = omega arith in
    let here : b ≡ page_start page + 8 * (n * j) = is' ∙ ap (λ p. page_start p + 8 * (n * j)) same in
    let apart : i ≢ j = λ e. ne (here ∙ sym (is ∙ ap (λ k. page_start page + 8 * (n * k)) e)) in
    subst (λ x. AreApart x n b n) (sym is) (subst (λ y. AreApart (page_start page + 8 * (n * i)) n y n) (sym here) (cells_apart page n i j apart))
