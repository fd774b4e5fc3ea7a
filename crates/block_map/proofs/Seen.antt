-- The state of a page that the code has looked at.
use Rattle.std.proofs.Common.{◌≡◌, ℕ, ◌<◌, Bool, false, List, [], ◌∷◌, zero, suc, length, map, get_or, sym, ap, subst, arith}
use Rattle.std.proofs.lemmas.List.{get_or_past}
use Rattle.std.proofs.lemmas.Bool.{cases_lt}
use Rattle.std.proofs.Common.{⊎_elim}
use Rattle.blocks.specs.Cells.{Cells}
use Rattle.block_map.specs.declared.page.Page.{Page}
use Rattle.block_map.specs.States.{PageState, free, cut, state_at, LaidAt, IsLaid, HasCell}
use Rattle.block_map.specs.Shown.{shown}

pub state_read : (items : List Page) (p : ℕ) (x : Page) → p < length items → x ≡ get_or items p x → state_at (map shown items) p ≡ shown x
state_read [] p x h e = absurd (omega arith)
state_read (y ∷ ys) zero x h e = ap shown (sym e)
state_read (y ∷ ys) (suc p) x h e = state_read ys p x (omega arith) e

-- a page where something stands is one of the heap's
pub within : (s : List PageState) (p : ℕ) → (state_at s p ≡ free → ⊥) → p < length s
within s p used = ⊎_elim (λ lt. lt) (λ past. absurd (used (get_or_past s p free past))) (cases_lt p (length s))

pub laid_at : (s : List PageState) (p : ℕ) (st : PageState) → IsLaid s → state_at s p ≡ st → p < length s → LaidAt s p st
laid_at s p st laid is lt = subst (LaidAt s p) is (laid.each p lt)

-- a cell of a block that has been looked at
pub has_cell : (st : PageState) (b : Cells) (i : ℕ) (taken : Bool) → st ≡ cut b → i < length b.taken → get_or b.taken i false ≡ taken → HasCell st i taken
has_cell st b i taken is inside e = subst (λ x. HasCell x i taken) (sym is) (inside, e)
