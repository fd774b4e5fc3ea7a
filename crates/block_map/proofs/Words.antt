-- Which words of a page a cell has, and which words an object.
use Rattle.std.proofs.Common.{◌≡◌, ℕ, ◌+◌, ◌*◌, ◌/◌, ◌%◌, ◌<◌, ◌≤◌, arith, ⊎_elim}
use Rattle.std.proofs.lemmas.Bool.{cases_lt}
use Rattle.std.proofs.lemmas.Nat.{div-add-mod'}
use Rattle.std.proofs.Math.Nat.{mul-le-mul_right}
use Rattle.words.specs.declared.limits.TheConstants.{PAGE_BYTES, PAGE_WORDS}
use Rattle.words.specs.Classes.{IsSizeClass}
use Rattle.words.proofs.Addresses.{byte_of_page}
use Rattle.blocks.specs.Cells.{Cells}
use Rattle.blocks.proofs.Places.{class_bounds, divided}
use Rattle.words.specs.Layout.{IsOnPage}
use Rattle.block_map.specs.Objects.{cell_object, IsInside}
use Rattle.block_map.specs.FoundIn.{cell_at}

not_later : (d i j o : ℕ) → i < j → j * d ≤ o → o < i * d + d → ⊥
not_later d i j o lt from below =
    let m : (i + 1) * d ≤ j * d = mul-le-mul_right d (omega arith) in
    let e : (i + 1) * d ≡ i * d + d = omega arith in omega (arith, m, e)

-- two cells that have one byte are one
same_cell : (d i j o : ℕ) → i * d ≤ o → o < i * d + d → j * d ≤ o → o < j * d + d → i ≡ j
same_cell d i j o a b c e =
    ⊎_elim (λ lt. absurd (not_later d i j o lt c b))
    (λ ge. ⊎_elim (λ lt. absurd (not_later d j i o lt a e)) (λ le. omega arith) (cases_lt j i))
    (cases_lt i j)

pub quotient_is : (d o i : ℕ) → i * d ≤ o → o < i * d + d → o / d ≡ i
quotient_is d o i from below =
    let pos : 0 < d = omega arith in
    let q = divided o d pos in
    same_cell d (o / d) i o q.0 q.1 from below

-- the cells of a page end before the page does
pub cells_end : (c i : ℕ) → i < PAGE_WORDS / c → i * (8 * c) + 8 * c ≤ PAGE_BYTES
cells_end c i h =
    let e : PAGE_WORDS / c * c + PAGE_WORDS % c ≡ PAGE_WORDS = div-add-mod' PAGE_WORDS c in
    let m : (i + 1) * (8 * c) ≤ PAGE_WORDS / c * (8 * c) = mul-le-mul_right (8 * c) (omega arith) in
    omega (arith, m, e)

-- a word that reads the object in a cell is one of the page, and has that cell
pub read_cell : (p i w : ℕ) (b : Cells) → i < PAGE_WORDS / b.class → IsInside w (cell_object p b i) → IsOnPage p w × (cell_at b w ≡ i)
read_cell p i w b lt reads =
    let from = reads.from in let below = reads.below in
    let ends = cells_end b.class i lt in
    let at : IsOnPage p w = record { from = omega arith; below = omega (arith, ends) } in
    let r = byte_of_page p w at in
    (at, quotient_is (8 * b.class) (w % PAGE_BYTES) i (omega arith) (omega arith))

pub cell_read : (p w : ℕ) (b : Cells) → IsSizeClass b.class → IsOnPage p w → IsInside w (cell_object p b (cell_at b w))
cell_read p w b class at =
    let bounds = class_bounds b.class class in
    let pos : 0 < 8 * b.class = omega (arith, bounds.0) in
    let q = divided (w % PAGE_BYTES) (8 * b.class) pos in
    let r = byte_of_page p w at in
    record { from = omega (arith, q.0); below = omega (arith, q.1) }
