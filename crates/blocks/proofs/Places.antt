-- Cells of a page by division.
use Rattle.std.proofs.Common.{◌≡◌, ℕ, ◌+◌, ◌*◌, ◌/◌, ◌%◌, ◌<◌, ◌≤◌, arith}
use Rattle.std.proofs.lemmas.Nat.{div-add-mod', mod_below}
use Rattle.std.proofs.Math.Nat.{mul-le-mul_right, mul-le-mul_left}
use Rattle.words.specs.declared.limits.TheConstants.{PAGE_BYTES, PAGE_GRANULES, PAGE_WORDS, MAX_SMALL_WORDS}
use Rattle.words.specs.Classes.{IsSizeClass}
use Rattle.words.proofs.Classes.{class_some, class_few}
use Rattle.blocks.specs.Cells.{IsInCell, IsLeftOver}
use Rattle.blocks.proofs.Reciprocals.{quotient, product_fits}

pub class_bounds : (c : ℕ) → IsSizeClass c → (2 ≤ c) × (c ≤ MAX_SMALL_WORDS)
class_bounds c h = (class_some c h, class_few c h)

-- the quotient and the rest of a division by a number above 0
pub divided : (o d : ℕ) → 0 < d → (o / d * d ≤ o) × (o < o / d * d + d)
divided o d h =
    let e : o / d * d + o % d ≡ o = div-add-mod' o d in
    let r : o % d < d = mod_below o d h in
    (omega arith, omega arith)

quotient_le : (n c : ℕ) → 2 ≤ c → n / c ≤ n / 2
quotient_le n c h =
    let d = divided n c (omega arith) in
    let m : n / c * 2 ≤ n / c * c = mul-le-mul_left (n / c) h in
    omega arith

pub found_cell : (c o : ℕ) → IsSizeClass c → o / (8 * c) < PAGE_WORDS / c → IsInCell c (o / (8 * c)) o
found_cell c o h lt =
    let b = class_bounds c h in
    let d = divided o (8 * c) (omega arith) in
    record { cell = lt; from = d.0; below = d.1 }

pub left_over : (c o : ℕ) → IsSizeClass c → PAGE_WORDS / c ≤ o / (8 * c) → IsLeftOver c o
left_over c o h le =
    let b = class_bounds c h in
    let d = divided o (8 * c) (omega arith) in
    let m : PAGE_WORDS / c * (8 * c) ≤ o / (8 * c) * (8 * c) = mul-le-mul_right (8 * c) le in
    omega (arith, m, d.0)

pub quotient_small : (c o : ℕ) → IsSizeClass c → o < PAGE_BYTES → o / (8 * c) < 65536
quotient_small c o h lt =
    let b = class_bounds c h in
    let d = divided o (8 * c) (omega arith) in
    let m : o / (8 * c) * 1 ≤ o / (8 * c) * (8 * c) = mul-le-mul_left (o / (8 * c)) (omega arith) in
    omega (arith, m, d.0, lt)

pub cells_fit : (c : ℕ) → IsSizeClass c → PAGE_WORDS / c ≤ PAGE_GRANULES
cells_fit c h = let b = class_bounds c h in quotient_le PAGE_WORDS c b.0

pub ruleset places = (class_bounds, found_cell, left_over, cells_fit, product_fits, quotient, quotient_small)
