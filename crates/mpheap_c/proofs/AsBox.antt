-- An open handle and its parts own what a box at the same types owns.
use mir.Syntax.{Args, a_type, impl, tnil, dnil}
use mathlib.Core.List.{[], ◌∷◌}
use denote.RattleType.{RattleType}
use denote.Param.{layouts, param}
use denote.Param.Laws.{Laws}
use Rattle.std_alloc.proofs.BoxSteps.Form.{Bx}
use Rattle.std_heap.specs.contracts.Global as Allocator
use Rattle.std_heap.specs.contracts.GlobalAllocator.TheImpl.{ghosts, dict}
use Rattle.std_heap.proofs.Global.TheLaws as allocator
use Rattle.mpheap_c.specs.contracts.handle.parts.Parts as Parts
use Rattle.mpheap_c.specs.contracts.handle.Handle as Handle

abbrev pub boxed : (X : RattleType) → Laws X → Bx
boxed X L = record { row = X; laws = L; al = record { row = Allocator.the_row; laws = allocator.the_row_laws; g = ghosts; d = dict; drops = impl [] tnil dnil } }

module _ (X : RattleType) where
  -- what a call at this element passes
  abbrev pub args : Args
  args = layouts (a_type ∷ []) (X, tt)

  abbrev pub FromParts : RattleType
  FromParts = Parts.the_row (param 0 X) Allocator.the_row ghosts

  abbrev pub FromHandle : RattleType
  FromHandle = Handle.the_row (param 0 X)
