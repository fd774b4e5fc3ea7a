use Rattle.std.proofs.Common.{ℕ, List, sym, subst}
use Rattle.block_map.specs.FoundIn.{found_in}
use Rattle.marker.specs.Marking.{IsMarked}
use Rattle.marker.specs.Invariant.{DirtyPageInvariant}
use Rattle.marker.specs.Closure.{Closure}
use Rattle.marker.specs.Growth.{Traces}
use Rattle.marker.proofs.Closures.{closure_same}
use Rattle.marker.proofs.Growing.{traces_trans}
use Rattle.marker.proofs.Objects.{objects_marked}
use Rattle.final_pause.proofs.parallel.close_marks_with.Goals as goal
use Rattle.final_pause.proofs.parallel.close_marks_with.Given.{Over}
use Rattle.final_pause.proofs.parallel.close_marks_with.Goals.{After-mark_with_helpers}

-- the calling thread alone, and then the helpers
traces : (g : Over) (c : After-mark_with_helpers g) → Traces (found_in c.args.graph.map.now) c.args.graph.memory.now c.args.graph.roots.now c.args.marker.now c.mark_with_helpers.new.marker
traces g c = traces_trans (found_in c.args.graph.map.now) c.args.graph.memory.now c.args.graph.roots.now c.args.marker.now c.mark_before_helpers.new.marker c.mark_with_helpers.new.marker
    c.mark_before_helpers.ensures.traces c.mark_with_helpers.ensures.traces

pub close_marks-requires-clause-invariant : goal.close_marks-requires-clause-invariant
close_marks-requires-clause-invariant g c =
    subst (λ (w : List ℕ). DirtyPageInvariant (found_in c.args.graph.map.now) w c.mark_with_helpers.new.marker) (sym c.new-reader.ensures.words)
    ((traces g (goal.at.close_marks-requires-clause-invariant g c).After-mark_with_helpers).keeps c.requires.invariant)

pub returns-clause-closure : goal.returns-clause-closure
returns-clause-closure g c = λ f e.
    let found = found_in c.args.graph.map.now in let words = c.args.graph.memory.now in let roots = c.args.graph.roots.now in
    let mid = c.mark_with_helpers.new.marker in let new = c.close_marks.new.marker in
    let same = closure_same found words roots c.args.marker.now mid (traces g (goal.at.returns-clause-closure g c).After-mark_with_helpers) f in
    let closed = subst (λ (w : List ℕ). (IsMarked new f.base → Closure found w roots (IsMarked mid) f) × (Closure found w roots (IsMarked mid) f → IsMarked new f.base)) c.new-reader.ensures.words (c.close_marks.ensures.closure f e) in
    ((λ k. same.0 (closed.0 k)), (λ k. closed.1 (same.1 k)))

pub returns-clause-traces : goal.returns-clause-traces
returns-clause-traces g c =
    let found = found_in c.args.graph.map.now in let words = c.args.graph.memory.now in let roots = c.args.graph.roots.now in
    let mid = c.mark_with_helpers.new.marker in let new = c.close_marks.new.marker in
    traces_trans found words roots c.args.marker.now mid new (traces g (goal.at.returns-clause-traces g c).After-mark_with_helpers)
    (subst (λ (w : List ℕ). Traces found w roots mid new) c.new-reader.ensures.words c.close_marks.ensures.traces)

pub close_marks-requires-clause-objects : goal.close_marks-requires-clause-objects
close_marks-requires-clause-objects g c =
    objects_marked (found_in c.args.graph.map.now) c.args.marker.now c.mark_with_helpers.new.marker c.requires.objects (traces g (goal.at.close_marks-requires-clause-objects g c).After-mark_with_helpers).objects
