-- What a word finds on its page.
use Rattle.std.proofs.Common.{◌≡◌, ℕ, ◌+◌, ◌*◌, ◌/◌, ◌%◌, ◌<◌, ◌≤◌, true, false, List, length, get_or, Option, None, Some, refl, sym, ap, ◌∙◌, arith, ⊎_elim}
use Rattle.std.specs.Prelude.{Bool, nat_lt, if◌then◌else◌}
use Rattle.std.proofs.lemmas.Bool.{cond-true, cond-false, cases_lt, false≢true}
use Rattle.std.proofs.lemmas.List.{get_or_past}
use Rattle.std.proofs.lemmas.Option.{same_Some}
use Rattle.std.proofs.Math.Nat.{mul-le-mul_right}
use Rattle.words.specs.declared.limits.TheConstants.{FIRST_ADDRESS, MOST_PAGES, PAGE_BYTES, PAGE_WORDS}
use Rattle.words.specs.declared.class.Kind.{Kind}
use Rattle.words.proofs.Addresses.{on_its_page, page_is}
use Rattle.blocks.specs.Cells.{Cells, IsCells, IsInCell, IsLeftOver}
use Rattle.blocks.proofs.Places.{class_bounds, divided}
use Rattle.words.specs.Layout.{page_start, page_of, IsOnPage, IsOutside}
use Rattle.block_map.specs.States.{PageState, free, cut, head, body, state_at, LaidAt, IsLaid}
use Rattle.block_map.specs.Objects.{cell_object, large_object}
use Rattle.block_map.specs.FoundIn.{cell_at, found_in, found_in_block, found_on, found_large}
use Rattle.block_map.specs.declared.found.Found.{Found}
use Rattle.block_map.proofs.Seen.{laid_at}
use Rattle.block_map.proofs.Words.{quotient_is, cells_end}

lt_true : (m n : ℕ) → m < n → nat_lt m n ≡ true
lt_true m n h = grind arith

lt_false : (m n : ℕ) → n ≤ m → nat_lt m n ≡ false
lt_false m n h = grind arith

pub found_low : (s : List PageState) (w : ℕ) → w < FIRST_ADDRESS → found_in s w ≡ None
unfolding found_in
found_low s w low = cond-true (nat_lt w FIRST_ADDRESS) None (found_on s (page_of w) (state_at s (page_of w)) w) (lt_true w FIRST_ADDRESS low)

pub found_here : (s : List PageState) (p w : ℕ) → IsOnPage p w → found_in s w ≡ found_on s p (state_at s p) w
unfolding found_in
found_here s p w at =
    let from = at.from in
    cond-false (nat_lt w FIRST_ADDRESS) None (found_on s (page_of w) (state_at s (page_of w)) w) (lt_false w FIRST_ADDRESS (omega arith))
    ∙ ap (λ q. found_on s q (state_at s q) w) (page_is p w at)

pub found_as : (s : List PageState) (p w : ℕ) (st : PageState) → IsOnPage p w → state_at s p ≡ st → found_in s w ≡ found_on s p st w
found_as s p w st at is = found_here s p w at ∙ ap (λ x. found_on s p x w) is

-- the returns of the code
pub outside : (s : List PageState) (w : ℕ) → IsOutside (length s) w → None ≡ found_in s w
outside s w out =
    sym (⊎_elim
    (λ low. found_low s w low)
    (λ (far : page_start (length s) ≤ w).
    let at : IsOnPage (page_of w) w = on_its_page w (omega arith) in
    found_as s (page_of w) w free at (get_or_past s (page_of w) free (omega arith)))
    out)

pub on_free : (s : List PageState) (p w : ℕ) → IsOnPage p w → state_at s p ≡ free → None ≡ found_in s w
on_free s p w at is = sym (found_as s p w free at is)

pub on_cut : (s : List PageState) (p w : ℕ) (b : Cells) (r : Option Found) → IsOnPage p w → state_at s p ≡ cut b → r ≡ found_in_block p b w → r ≡ found_in s w
on_cut s p w b r at is e = e ∙ sym (found_as s p w (cut b) at is)

pub on_head : (s : List PageState) (p w n : ℕ) (k : Kind) (f : Found) → IsOnPage p w → state_at s p ≡ head n k → f ≡ large_object p n k → Some f ≡ found_in s w
on_head s p w n k f at is e = ap Some e ∙ sym (found_as s p w (head n k) at is)

pub on_body : (s : List PageState) (p w q : ℕ) (f : Found) → IsOnPage p w → state_at s p ≡ body q → found_large q (state_at s q) ≡ Some f → Some f ≡ found_in s w
on_body s p w q f at is e = sym e ∙ sym (found_as s p w (body q) at is)

pub large_found : (s : List PageState) (p n : ℕ) (k : Kind) (f : Found) → state_at s p ≡ head n k → f ≡ large_object p n k → found_large p (state_at s p) ≡ Some f
large_found s p n k f is e = ap (found_large p) is ∙ ap Some (sym e)

pub body_head : (s : List PageState) (p q : ℕ) → IsLaid s → p < length s → state_at s p ≡ body q → (q < length s) × ((n : ℕ) × (k : Kind) × (state_at s q ≡ head n k))
body_head s p q laid lt is = let here : LaidAt s p (body q) = laid_at s p (body q) laid is lt in let less = here.0 in (omega arith, (here.1, here.2, here.3))

pub head_few : (s : List PageState) (p n : ℕ) (k : Kind) → IsLaid s → p < length s → state_at s p ≡ head n k → (n ≤ MOST_PAGES) × (p < MOST_PAGES)
head_few s p n k laid lt is = let here : LaidAt s p (head n k) = laid_at s p (head n k) laid is lt in let few = laid.few in let ends = here.1 in (omega arith, omega arith)

pub ruleset finding = (outside, on_free, on_cut, on_head, on_body, large_found, body_head, head_few)

-- the cell of a word, as `cell_of` gives it
pub in_cell : (b : Cells) (w i : ℕ) → IsInCell b.class i (w % PAGE_BYTES) → cell_at b w ≡ i
in_cell b w i cell = quotient_is (8 * b.class) (w % PAGE_BYTES) i cell.from cell.below

pub block_here : (p w i : ℕ) (b : Cells) → cell_at b w ≡ i → get_or b.taken i false ≡ true → Some (cell_object p b i) ≡ found_in_block p b w
block_here p w i b c taken =
    let t : get_or b.taken (cell_at b w) false ≡ true = ap (λ j. get_or b.taken j false) c ∙ taken in
    ap (λ j. Some (cell_object p b j)) (sym c) ∙ sym (cond-true (get_or b.taken (cell_at b w) false) (Some (cell_object p b (cell_at b w))) None t)

pub block_taken : (p w i : ℕ) (b : Cells) (f : Found) → IsInCell b.class i (w % PAGE_BYTES) → get_or b.taken i false ≡ true → f ≡ cell_object p b i → Some f ≡ found_in_block p b w
block_taken p w i b f cell taken e = ap Some e ∙ block_here p w i b (in_cell b w i cell) taken

pub block_none : (p w : ℕ) (b : Cells) → get_or b.taken (cell_at b w) false ≡ false → None ≡ found_in_block p b w
block_none p w b t = sym (cond-false (get_or b.taken (cell_at b w) false) (Some (cell_object p b (cell_at b w))) None t)

pub block_free : (p w i : ℕ) (b : Cells) → IsInCell b.class i (w % PAGE_BYTES) → get_or b.taken i false ≡ false → None ≡ found_in_block p b w
block_free p w i b cell none = block_none p w b (ap (λ j. get_or b.taken j false) (in_cell b w i cell) ∙ none)

-- a cell ends where the cells of its page do, or before
cells_left : (c i : ℕ) → i < PAGE_WORDS / c → i * (8 * c) + 8 * c ≤ PAGE_WORDS / c * (8 * c)
cells_left c i h =
    let m : (i + 1) * (8 * c) ≤ PAGE_WORDS / c * (8 * c) = mul-le-mul_right (8 * c) (omega arith) in
    let e : (i + 1) * (8 * c) ≡ i * (8 * c) + 8 * c = omega arith in
    omega (arith, m, e)

-- the words left over lie past the cells
pub past_cells : (b : Cells) (w : ℕ) → IsCells b → IsLeftOver b.class (w % PAGE_BYTES) → length b.taken ≤ cell_at b w
past_cells b w cells left =
    let bounds = class_bounds b.class cells.class in
    let pos : 0 < 8 * b.class = omega (arith, bounds.0) in
    let q = divided (w % PAGE_BYTES) (8 * b.class) pos in
    let size = cells.size in
    ⊎_elim
    (λ (lt : cell_at b w < PAGE_WORDS / b.class). absurd (let z = cells_left b.class (cell_at b w) lt in omega (arith, z, q.1, left)))
    (λ ge. omega arith)
    (cases_lt (cell_at b w) (PAGE_WORDS / b.class))

pub block_left : (p w : ℕ) (b : Cells) → IsCells b → IsLeftOver b.class (w % PAGE_BYTES) → None ≡ found_in_block p b w
block_left p w b cells left = block_none p w b (get_or_past b.taken (cell_at b w) false (past_cells b w cells left))

pub cell_fits : (c i : ℕ) → i < PAGE_WORDS / c → i * (8 * c) + 8 * c ≤ PAGE_BYTES
cell_fits c i h = cells_end c i h

pub ruleset on_page = (block_taken, block_free, block_left, cell_fits)

-- what a word finds in a block is the object of an allocated cell
block_cases : (p i : ℕ) (b : Cells) (f : Found) (taken : Bool) → get_or b.taken i false ≡ taken → (if taken then Some (cell_object p b i) else None) ≡ Some f → (f ≡ cell_object p b i) × (i < length b.taken)
block_cases p i b f true t e = (
  sym (same_Some _ f e),
  ⊎_elim (λ (lt : i < length b.taken). lt) (λ (past : length b.taken ≤ i). absurd (false≢true (sym (get_or_past b.taken i false past) ∙ t))) (cases_lt i (length b.taken)),
)
block_cases p i b f false t e = absurd (cc e)

pub block_object : (p w : ℕ) (b : Cells) (f : Found) → found_in_block p b w ≡ Some f → (f ≡ cell_object p b (cell_at b w)) × (cell_at b w < length b.taken)
block_object p w b f e = block_cases p (cell_at b w) b f (get_or b.taken (cell_at b w) false) refl e

-- it lies on its page
pub block_on_page : (p w : ℕ) (b : Cells) → IsCells b → ((f : Found) × (found_in_block p b w ≡ Some f) × (f.base ≡ w)) → w % PAGE_BYTES + 8 * b.class ≤ PAGE_BYTES
block_on_page p w b cells f =
    let o = block_object p w b f.0 f.1 in
    let at : page_start p + cell_at b w * (8 * b.class) ≡ w = sym (ap (λ (x : Found). x.base) o.0) ∙ f.2 in
    let size = cells.size in
    let inside = o.1 in
    let fits = cell_fits b.class (cell_at b w) (omega (arith, inside, size)) in
    let some = (class_bounds b.class cells.class).0 in
    omega (arith, at, fits, some)

-- the large object that begins on a page, which it covers alone if it is no larger
pub head_object : (s : List PageState) (p w n : ℕ) (k : Kind) (r : Found) → IsOnPage p w → state_at s p ≡ head n k → found_large p (state_at s p) ≡ Some r
    → (found_in s w ≡ Some r) × (r.len ≤ PAGE_WORDS → r.base % PAGE_BYTES + 8 * r.len ≤ PAGE_BYTES)
head_object s p w n k r at is e =
    let o : r ≡ large_object p n k = sym (same_Some _ _ (sym (ap (found_large p) is) ∙ e)) in
    let base : r.base ≡ page_start p = ap (λ (x : Found). x.base) o in
    let len : r.len ≡ PAGE_WORDS * n = ap (λ (x : Found). x.len) o in
    (sym (on_head s p w n k r at is o), λ few. omega (arith, base, len, few))
