-- Where an object lies.
use Rattle.block_map.proofs.Words.{cells_end}
use Rattle.block_map.specs.Objects.{IsObject, IsObjectOn, cell_object}
use Rattle.block_map.specs.States.{PageState, free, cut, head, body, state_at, LaidAt, IsLaid}
use Rattle.block_map.specs.declared.found.Found.{Found}
use Rattle.blocks.proofs.Places.{class_bounds}
use Rattle.blocks.specs.Cells.{Cells}
use Rattle.heap_spec.specs.Layout.{LiesOn}
use Rattle.std.proofs.Common.{◌≡◌, ℕ, ◌+◌, ◌*◌, ◌<◌, ◌≤◌, Bool, true, false, List, length, get_or, refl, sym, ap, ◌∙◌, subst, ⊎_elim, arith, ◌⊎◌, inl, inr}
use Rattle.std.proofs.lemmas.Bool.{cases_lt, cases_eq}
use Rattle.std.proofs.lemmas.List.{get_or_past}
use Rattle.words.proofs.Classes.{class_some}
use Rattle.words.specs.Layout.{page_of, page_start}
use Rattle.words.specs.declared.class.Kind.{Kind}
use Rattle.words.specs.declared.limits.TheConstants.{PAGE_BYTES, PAGE_WORDS}

pub free_cut : (b : Cells) → free ≡ cut b → ⊥
free_cut b e = cc

pub free_head : (n : ℕ) (k : Kind) → free ≡ head n k → ⊥
free_head n k e = cc

pub free_body : (q : ℕ) → free ≡ body q → ⊥
free_body q e = cc

pub cut_head : (b : Cells) (n : ℕ) (k : Kind) → cut b ≡ head n k → ⊥
cut_head b n k e = cc

pub cut_body : (b : Cells) (q : ℕ) → cut b ≡ body q → ⊥
cut_body b q e = cc

pub same_block : (a b : Cells) → cut a ≡ cut b → a ≡ b
same_block a b e = cc

-- a bit that is set is one of its row
pub in_row : (row : List Bool) (i : ℕ) → get_or row i false ≡ true → i < length row
in_row row i is = ⊎_elim (λ lt. lt) (λ past. absurd (let none : get_or row i false ≡ false = get_or_past row i false past in let z : false ≡ true = sym none ∙ is in cc)) (cases_lt i (length row))

-- Where an object lies that has a byte on a page: in a cell of that page, or over consecutive pages with it among them.
pub data Lies (states : List PageState) (f : Found) (page : ℕ) : Type 0 where
  in_cell : (b : Cells) → state_at states page ≡ cut b → f ≡ cell_object page b f.cell → get_or b.taken f.cell false ≡ true → Lies states f page
  in_large : (n : ℕ) (k : Kind) → state_at states f.page ≡ head n k → f.page ≤ page → page < f.page + n → f.len ≡ PAGE_WORDS * n → Lies states f page

module _ (states : List PageState) (laid : IsLaid states) where
  lies_by : (f : Found) (page : ℕ) (st : PageState) → state_at states f.page ≡ st → LaidAt states f.page st → IsObjectOn st f → LiesOn f.base f.len page → Lies states f page
  lies_by f page free is here on lies = absurd on
  lies_by f page (cut b) is here on lies =
      let bounds = class_bounds b.class here.class in let some = bounds.0 in
      let base : f.base ≡ page_start f.page + f.cell * (8 * b.class) = ap (λ (x : Found). x.base) on.0 in
      let len : f.len ≡ b.class = ap (λ (x : Found). x.len) on.0 in
      let size = here.size in let inside = on.1 in
      let ends : f.cell * (8 * b.class) + 8 * b.class ≤ PAGE_BYTES = cells_end b.class f.cell (omega arith) in
      let low = lies.0 in let high = lies.1 in
      let same : f.page ≡ page = omega arith in
      in_cell b (ap (state_at states) (sym same) ∙ is) (on.0 ∙ ap (λ p. cell_object p b f.cell) same) on.2
  lies_by f page (head n k) is here on lies =
      let base : f.base ≡ page_start f.page = ap (λ (x : Found). x.base) on in
      let len : f.len ≡ PAGE_WORDS * n = ap (λ (x : Found). x.len) on in
      let low = lies.0 in let high = lies.1 in
      in_large n k is (omega arith) (omega arith) len
  lies_by f page (body q) is here on lies = absurd on

  pub lies_cases : (f : Found) (page : ℕ) → IsObject states f → LiesOn f.base f.len page → Lies states f page
  lies_cases f page o lies = lies_by f page (state_at states f.page) refl (laid.each f.page o.page) o.on lies

  -- a page of a large object is its first, or a further one
  pub large_page : (first n : ℕ) (k : Kind) (page : ℕ) → first < length states → state_at states first ≡ head n k → first ≤ page → page < first + n → (state_at states page ≡ head n k) ⊎ (state_at states page ≡ body first)
  large_page first n k page lt is low high =
      let here : LaidAt states first (head n k) = subst (LaidAt states first) is (laid.each first lt) in
      ⊎_elim (λ (e : page ≡ first). inl (ap (state_at states) e ∙ is)) (λ ne. inr (here.2 page (omega arith) high)) (cases_eq page first)

-- an object begins on its page
place_on : (states : List PageState) (st : PageState) (f : Found) → LaidAt states f.page st → IsObjectOn st f → page_of f.base ≡ f.page
place_on states free f laid on = absurd on
place_on states (cut b) f laid on =
    let base : f.base ≡ page_start f.page + f.cell * (8 * b.class) = ap (λ (x : Found). x.base) on.0 in
    let size = laid.size in let some = class_some b.class laid.class in let lt = on.1 in
    let ends = cells_end b.class f.cell (omega arith) in
    omega (arith, base, ends)
place_on states (head n k) f laid on = let base : f.base ≡ page_start f.page = ap (λ (x : Found). x.base) on in omega arith
place_on states (body q) f laid on = absurd on

pub begins_on : (states : List PageState) → IsLaid states → (f : Found) → IsObject states f → page_of f.base ≡ f.page
begins_on states laid f o = place_on states (state_at states f.page) f (laid.each f.page o.page) o.on
