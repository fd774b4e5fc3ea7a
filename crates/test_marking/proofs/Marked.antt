-- What keeps a heap under a marker in order.
use Rattle.std.proofs.Common.{◌≡◌, ℕ, ◌<◌, List, length, Some, sym, ap, ◌∙◌, arith}
use Rattle.blocks.specs.Cells.{Cells, IsCells}
use Rattle.blocks.proofs.Places.{class_bounds}
use Rattle.block_map.specs.Listed.{AreListed, first_object}
use Rattle.block_map.specs.States.{PageState, cut, state_at, IsLaid}
use Rattle.block_map.specs.Changes.{IsAdded}
use Rattle.block_map.proofs.Seen.{laid_at}
use Rattle.block_map.specs.FoundIn.{found_in}
use Rattle.block_map.specs.declared.found.Found.{Found}
use Rattle.marker.specs.Marking.{Marking}
use Rattle.marker.specs.Growth.{Traces}
use Rattle.marker.specs.Mutations.{HasNoNew, KeepsWords}
use Rattle.marker.proofs.Mutating.{free_traced}
use Rattle.marker.proofs.Objects.{objects_marked}
use Rattle.test_marking.specs.Marked.{IsOfOneHeap}

-- the marker goes on
pub traced : (states : List PageState) (words roots : List ℕ) (old new : Marking) → IsOfOneHeap states words old → Traces (found_in states) words roots old new → IsOfOneHeap states words new
traced states words roots old new is t = record {
  pages = t.dirty_len ∙ is.pages;
  listed = is.listed;
  objects = objects_marked (found_in states) old new is.objects t.objects;
  invariant = t.keeps is.invariant;
}

-- pages are cut, and objects stay
pub recut : (states states' : List PageState) (words words' : List ℕ) (m : Marking) → length states' ≡ length states → ((w : ℕ) → found_in states' w ≡ found_in states w) → HasNoNew (found_in states) (found_in states') → KeepsWords (found_in states') words words' → AreListed words' states'
    → IsOfOneHeap states words m → IsOfOneHeap states' words' m
recut states states' words words' m size stays less same listed is = record {
  pages = is.pages ∙ sym size;
  listed = listed;
  objects = λ k h. let o = is.objects k h in record { object = o.object; is = stays o.object.base ∙ o.is; first = o.first };
  invariant = free_traced (found_in states) (found_in states') words words' m less same is.invariant;
}

-- an object that was taken is there
pub taken_there : (old new : List PageState) (page : ℕ) (b : Cells) (f : Found) → IsLaid old → page < length old → state_at old page ≡ cut b → f ≡ first_object page (state_at old page) → IsAdded (found_in old) (found_in new) f → found_in new f.base ≡ Some f
taken_there old new page b f laid inside is object added =
    let cells : IsCells b = laid_at old page (cut b) laid is inside in
    let some = (class_bounds b.class cells.class).0 in
    let size : f.len ≡ b.class = ap (λ (g : Found). g.len) (object ∙ ap (first_object page) is) in
    added.after f.base (record { from = omega arith; below = omega arith })
