-- Addresses of cells and of pages.
use Rattle.std.proofs.Common.{◌≡◌, ℕ, ◌+◌, ◌*◌, ◌%◌, ◌<◌, ◌≤◌, List, ap, ◌∙◌, arith}
use Rattle.std.proofs.Math.Nat.{mul_assoc, mul-mod_right}
use Rattle.words.specs.declared.limits.TheConstants.{WORD_BYTES}
use Rattle.words.specs.Layout.{page_start}
use Rattle.plain_heap.specs.declared.extent.Extent.{Extent}
use Rattle.plain_heap.specs.Places.{IsCellAt, IsLargePlace, IsFreePage}

-- the cells of a page lie at multiples of their bytes
pub whole_cells : (page length a offset : ℕ) → a ≡ page_start page + offset → IsCellAt page length a → offset % (WORD_BYTES * length) ≡ 0
whole_cells page length a offset is p =
    let same : (WORD_BYTES * length) * p.cell ≡ WORD_BYTES * (length * p.cell) = mul_assoc WORD_BYTES length p.cell in
    let e : offset ≡ (WORD_BYTES * length) * p.cell = let c = p.is_cell in omega arith in
    ap (λ x. x % (WORD_BYTES * length)) e ∙ mul-mod_right (WORD_BYTES * length) p.cell

-- a large place begins at its first page
pub free_from : (row : List Extent) (pages count first a : ℕ) → a ≡ page_start first → IsLargePlace row pages count a → (page : ℕ) → first ≤ page → page < first + count → IsFreePage row page
free_from row pages count first a is p page low high =
    let same : p.first ≡ first = let q = p.is_start in omega arith in p.free page (omega arith) (omega arith)
