-- What is left of a page on which a cell became free.
use Rattle.std.proofs.Common.{◌≡◌, ℕ, ◌<◌, false, List, length, set, get_or-set_same, refl, sym, ap, ◌∙◌, subst}
use Rattle.words.specs.Bits.{IsEmptyFrom, IsFirstFrom}
use Rattle.words.specs.declared.class.Kind.{Kind}
use Rattle.words.specs.Classes.{IsSizeClass}
use Rattle.blocks.specs.Cells.{Cells}
use Rattle.block_map.specs.States.{PageState, free, cut, head, body, state_at, IsBlockFor}
use Rattle.blocks.specs.Lists.{first_after_put}
use Rattle.block_map.specs.FreeCells.{IsEmptyOn, HasAllocated}
use Rattle.block_map.specs.Listed.{with_put}

-- the block that is left, which is cut for the same class and kind
pub record IsLeft (mid : List PageState) (page cell class : ℕ) (kind : Kind) (st : PageState) : Type 0 where
  pub block : Cells
  pub is : state_at mid page ≡ cut block
  pub became : with_put st cell ≡ cut block
  pub of_class : class ≡ block.class
  pub of_kind : kind ≡ block.kind

pub left : (states mid : List PageState) (page cell class : ℕ) (kind : Kind) → page < length states → mid ≡ set states page (with_put (state_at states page) cell)
    → IsBlockFor (state_at states page) class kind → IsLeft mid page cell class kind (state_at states page)
left states mid page cell class kind inside became block = by (state_at states page) (ap (λ x. state_at x page) became ∙ get_or-set_same states page _ free inside) block
  where
    by : (st : PageState) → state_at mid page ≡ with_put st cell → IsBlockFor st class kind → IsLeft mid page cell class kind st
    by free now is = absurd is
    by (cut a) now is = record { block = record a { taken = set a.taken cell false; first = first_after_put a.first cell }; is = now; became = refl; of_class = sym is.0; of_kind = sym is.1 }
    by (head n k) now is = absurd is
    by (body q) now is = absurd is

module _ (mid : List PageState) (page cell class : ℕ) (kind : Kind) (st : PageState) (x : IsLeft mid page cell class kind st) where
  pub left_class : IsSizeClass class → IsSizeClass x.block.class
  left_class = subst IsSizeClass x.of_class

  pub left_empty : IsEmptyOn (with_put st cell) → IsEmptyFrom x.block.taken 0
  left_empty = subst IsEmptyOn x.became

  pub left_allocated : HasAllocated (with_put st cell) → (i : ℕ) × IsFirstFrom x.block.taken 0 i
  left_allocated = subst HasAllocated x.became
