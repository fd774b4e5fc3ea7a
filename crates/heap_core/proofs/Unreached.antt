-- What isn't marked, where all is marked that is to be, is reached by no root.
use Rattle.std.proofs.Common.{◌≡◌, true, false, get_or, ap, ◌∙◌}
use Rattle.std.specs.Prelude.{◌&&◌, Option}
use Rattle.std.proofs.lemmas.Bool.{eq-eqb}
use Rattle.words.specs.Layout.{granule}
use Rattle.heap_spec.proofs.Closures.{reached_in}
use Rattle.block_map.specs.declared.found.Found.{Found}
use Rattle.block_map.specs.FoundIn.{found_in}
use Rattle.marker.specs.Closure.{Closure, AreClosed}
use Rattle.marker.specs.Invariant.{AreRootsMarked}
use Rattle.marker.specs.Marking.{IsDone, IsMarked}
use Rattle.final_pause.proofs.Final.{closure_marked}
use Rattle.heap_view.specs.Shows.{IsMarkedBirth}
use Rattle.roots.specs.Roots.{root_words_of}
use Rattle.heap_core.specs.CoreContents.{CoreContents}
use Rattle.heap_core.specs.DirectWrites.{IsWholeCore}
use Rattle.heap_core.specs.Looks.{begins_at}
use Rattle.heap_core.specs.Unreached.{UnmarkedIsUnreached}
use Rattle.heap_core.proofs.Collecting.{all_marked}

-- the marks are closed
closed_now : (c : CoreContents) → IsWholeCore c → c.cycle.is_marking ≡ true → IsDone c.cycle.marker → AreRootsMarked (found_in c.store.states) (root_words_of c.roots) c.cycle.marker
    → AreClosed (found_in c.store.states) c.store.words (root_words_of c.roots) c.cycle.marker c.cycle.marker
closed_now c whole marking done roots f e = (
  λ marked. Closure.held e marked,
  λ inside. closure_marked _ (found_in c.store.states) c.store.words (root_words_of c.roots) (IsMarked c.cycle.marker) c.cycle.marker whole.core.lawful.map (whole.core.traced.invariant marking) done roots (λ b h. h) inside,
)

pub unmarked_unreached : UnmarkedIsUnreached
unmarked_unreached c whole marking done roots s base o h has reached =
    let marked : get_or c.cycle.marker.marks (granule base) false ≡ true =
    all_marked c whole.core.lawful.map (whole.core.traced.swept marking) s h c.cycle.marker (closed_now c whole marking done roots) base o has (reached_in s (IsMarkedBirth s c.cycle.marker) reached) in
    let f = h.store.shows.shown.only base o has in
    ap (λ (x : Option Found). begins_at base x && get_or c.cycle.marker.marks (granule base) false) f.1
    ∙ ap (λ b. b && get_or c.cycle.marker.marks (granule base) false) (eq-eqb f.0.base base f.2)
    ∙ marked
