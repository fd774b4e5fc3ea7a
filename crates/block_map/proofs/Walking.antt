-- The next object of a page.
use Rattle.std.proofs.Common.{◌≡◌, ℕ, ◌+◌, ◌*◌, ◌%◌, ◌<◌, ◌≤◌, false, length, List, Some, sym, ◌∙◌, subst, arith, ⊎_elim}
use Rattle.std.proofs.lemmas.Bool.{cases_lt}
use Rattle.std.proofs.lemmas.List.{get_or_past}
use Rattle.std.proofs.Math.Nat.{mul-le-mul_right}
use Rattle.words.specs.declared.limits.TheConstants.{PAGE_BYTES}
use Rattle.words.specs.declared.class.Kind.{Kind}
use Rattle.words.specs.Bits.{IsEmptyFrom, IsFirstFrom}
use Rattle.words.proofs.Addresses.{byte_of_page}
use Rattle.blocks.specs.Cells.{Cells, IsCells, IsInCell, IsLeftOver}
use Rattle.blocks.proofs.Places.{class_bounds, divided}
use Rattle.words.specs.Layout.{page_start, IsOnPage}
use Rattle.block_map.specs.States.{PageState, free, cut, head, body, state_at, IsLaid}
use Rattle.block_map.specs.Objects.{cell_object, large_object, IsInside}
use Rattle.block_map.specs.FoundIn.{cell_at, found_in, found_large}
use Rattle.block_map.specs.Walks.{IsNextObject, IsNoObject, IsNextCell}
use Rattle.block_map.specs.declared.found.Found.{Found}
use Rattle.block_map.proofs.Seen.{laid_at}
use Rattle.block_map.proofs.Words.{read_cell}
use Rattle.block_map.proofs.Finding.{found_as, on_free, on_head, on_body, in_cell, past_cells, block_none, block_here, body_head}

-- ---- a page without blocks
pub none_past : (s : List PageState) (p from : ℕ) → page_start (p + 1) ≤ from → IsNoObject (found_in s) from (page_start (p + 1))
none_past s p from past = record { none = λ w a b. absurd (omega arith) }

pub none_free : (s : List PageState) (p from : ℕ) → page_start p ≤ from → state_at s p ≡ free → IsNoObject (found_in s) from (page_start (p + 1))
none_free s p from low is = record { none = λ w a b. sym (on_free s p w (record { from = omega arith; below = omega arith }) is) }

at_once : (s : List PageState) (p from : ℕ) (f : Found) → from < page_start (p + 1) → Some f ≡ found_in s from → IsNextObject (found_in s) from (page_start (p + 1)) f
at_once s p from f high e = record { at = from; after = omega arith; below = high; reads = sym e; least = λ w a b. absurd (omega arith) }

pub next_head : (s : List PageState) (p from n : ℕ) (k : Kind) (f : Found) → page_start p ≤ from → from < page_start (p + 1) → state_at s p ≡ head n k → f ≡ large_object p n k
    → IsNextObject (found_in s) from (page_start (p + 1)) f
next_head s p from n k f low high is e = at_once s p from f high (on_head s p from n k f (record { from = low; below = high }) is e)

pub next_body : (s : List PageState) (p from q : ℕ) (f : Found) → page_start p ≤ from → from < page_start (p + 1) → state_at s p ≡ body q → found_large q (state_at s q) ≡ Some f
    → IsNextObject (found_in s) from (page_start (p + 1)) f
next_body s p from q f low high is e = at_once s p from f high (on_body s p from q f (record { from = low; below = high }) is e)

-- ---- the cells of a block
cell_grows : (b : Cells) (p v w : ℕ) → 0 < b.class → IsOnPage p v → IsOnPage p w → v ≤ w → cell_at b v ≤ cell_at b w
cell_grows b p v w pos at at' le =
    let d : ℕ = 8 * b.class in
    let r = byte_of_page p v at in let r' = byte_of_page p w at' in
    let q = divided (v % PAGE_BYTES) (8 * b.class) (omega arith) in
    let q' = divided (w % PAGE_BYTES) (8 * b.class) (omega arith) in
    ⊎_elim
    (λ (lt : cell_at b w < cell_at b v).
    let m : (cell_at b w + 1) * (8 * b.class) ≤ cell_at b v * (8 * b.class) = mul-le-mul_right (8 * b.class) (omega arith) in
    let e : (cell_at b w + 1) * (8 * b.class) ≡ cell_at b w * (8 * b.class) + 8 * b.class = omega arith in
    absurd (omega (arith, m, e, q.0, q'.1)))
    (λ ge. ge)
    (cases_lt (cell_at b w) (cell_at b v))

class_pos : (s : List PageState) (p : ℕ) (b : Cells) → IsCells b → 0 < b.class
class_pos s p b cells = let bounds = class_bounds b.class cells.class in omega (arith, bounds.0)

pub none_cut : (s : List PageState) (p from : ℕ) (b : Cells) → IsLaid s → p < length s → page_start p ≤ from → from < page_start (p + 1) → state_at s p ≡ cut b → IsEmptyFrom b.taken (cell_at b from)
    → IsNoObject (found_in s) from (page_start (p + 1))
none_cut s p from b laid lt low high is empty =
    let cells : IsCells b = laid_at s p (cut b) laid is lt in
    let at : IsOnPage p from = record { from = low; below = high } in
    record {
      none = λ w a c.
          let at' : IsOnPage p w = record { from = omega arith; below = c } in
          let grows = cell_grows b p from w (class_pos s p b cells) at at' a in
          found_as s p w (cut b) at' is
          ∙ sym (block_none p w b (⊎_elim (λ inside. empty (cell_at b w) grows inside) (λ past. get_or_past b.taken (cell_at b w) false past) (cases_lt (cell_at b w) (length b.taken))));
    }

next_cell : (s : List PageState) (p from i : ℕ) (b : Cells) → IsCells b → IsOnPage p from → state_at s p ≡ cut b → IsFirstFrom b.taken (cell_at b from) i → cell_at b from < i
    → IsNextObject (found_in s) from (page_start (p + 1)) (cell_object p b i)
next_cell s p from i b cells at is first later =
    let pos = class_pos s p b cells in
    let size = cells.size in let inside = first.inside in
    let base : ℕ = page_start p + i * (8 * b.class) in
    let reads : IsInside base (cell_object p b i) = record { from = omega arith; below = omega arith } in
    let r = read_cell p i base b (omega arith) reads in
    let onpage = r.0 in let below = onpage.below in let onbelow = at.below in
    let rest = byte_of_page p from at in
    let q = divided (from % PAGE_BYTES) (8 * b.class) (omega arith) in
    let m : (cell_at b from + 1) * (8 * b.class) ≤ i * (8 * b.class) = mul-le-mul_right (8 * b.class) (omega arith) in
    let e : (cell_at b from + 1) * (8 * b.class) ≡ cell_at b from * (8 * b.class) + 8 * b.class = omega arith in
    record {
      at = base;
      after = omega (arith, m, e, q.1);
      below = below;
      reads = found_as s p base (cut b) r.0 is ∙ sym (block_here p base i b r.1 first.member);
      least = λ w a c.
          let at' : IsOnPage p w = (let f = at.from in record { from = omega arith; below = omega arith }) in
          let grows = cell_grows b p from w pos at at' a in
          let rest' = byte_of_page p w at' in
          let q' = divided (w % PAGE_BYTES) (8 * b.class) (omega arith) in
          let before : cell_at b w < i = ⊎_elim (λ (h : cell_at b w < i). h)
          (λ ge. let m' : i * (8 * b.class) ≤ cell_at b w * (8 * b.class) = mul-le-mul_right (8 * b.class) ge in absurd (omega (arith, m', q'.0))) (cases_lt (cell_at b w) i) in
          found_as s p w (cut b) at' is ∙ sym (block_none p w b (first.least (cell_at b w) grows before));
    }

pub next_cut : (s : List PageState) (p from : ℕ) (b : Cells) (f : Found) → IsLaid s → p < length s → page_start p ≤ from → from < page_start (p + 1) → state_at s p ≡ cut b → IsNextCell p b from f
    → IsNextObject (found_in s) from (page_start (p + 1)) f
next_cut s p from b f laid lt low high is next =
    let cells : IsCells b = laid_at s p (cut b) laid is lt in
    let at : IsOnPage p from = record { from = low; below = high } in
    let first = next.first in let after = first.from in
    subst (IsNextObject (found_in s) from (page_start (p + 1))) (sym next.object)
    (⊎_elim
    (λ later. next_cell s p from next.cell b cells at is first later)
    (λ now.
    let same : cell_at b from ≡ next.cell = omega arith in
    at_once s p from (cell_object p b next.cell) high (block_here p from next.cell b same first.member ∙ sym (found_as s p from (cut b) at is)))
    (cases_lt (cell_at b from) next.cell))

pub ruleset walking = (none_past, none_free, none_cut, next_head, next_body, next_cut, body_head)

-- ---- the returns of the code in a block
pub empty_left : (b : Cells) (w : ℕ) → IsCells b → IsLeftOver b.class (w % PAGE_BYTES) → IsEmptyFrom b.taken (cell_at b w)
empty_left b w cells left k from inside = let past = past_cells b w cells left in absurd (omega arith)

pub empty_after : (b : Cells) (w i : ℕ) → IsInCell b.class i (w % PAGE_BYTES) → IsEmptyFrom b.taken i → IsEmptyFrom b.taken (cell_at b w)
empty_after b w i cell empty = subst (IsEmptyFrom b.taken) (sym (in_cell b w i cell)) empty

pub next_after : (b : Cells) (p w i j : ℕ) (f : Found) → IsInCell b.class i (w % PAGE_BYTES) → IsFirstFrom b.taken i j → f ≡ cell_object p b j → IsNextCell p b w f
next_after b p w i j f cell first e = record { cell = j; first = subst (λ low. IsFirstFrom b.taken low j) (sym (in_cell b w i cell)) first; object = e }

pub ruleset cells = (empty_left, empty_after, next_after)
