use Rattle.std.proofs.Common.{◌≡◌, subst, ◌∙◌}
use Rattle.block_map.specs.FoundIn.{found_in}
use Rattle.marker.specs.Closure.{AreClosed}
use Rattle.marker.specs.Growth.{Traces}
use Rattle.roots.specs.Roots.{root_words_of}
use Rattle.heap_core.proofs.Tracing.{traced_on}
use Rattle.heap_core.proofs.Cycling.{closes_marks, marks_on}
use Rattle.heap_core.proofs.Legal.{legal_on}
use Rattle.heap_core.proofs.heap.Core.close_with.Goals as goal

pub invariant_of-self : goal.invariant_of-self
invariant_of-self g c =
    let e : c.as_slice.result.now ≡ root_words_of c.self.inside.roots = c.as_slice.ensures.value ∙ c.write_words.ensures in
    let closes = c.close_with.ensures in
    legal_on _ _ c.self.invariant (traced_on _ _ _ _ c.self.invariant.traced c.close_with.ensures.traces) (root_words_of c.self.inside.roots)
    (marks_on _ _ _ closes.lawful.map (c.self.invariant.traced.swept c.if-not-self.false) (λ w h. h)
    (subst (λ rs. Traces (found_in c.self.inside.objects.states) c.self.inside.objects.words rs c.self.inside.marker c.close_with.new.marker) e closes.traces))

pub returns : goal.returns
returns g c =
    let e : c.as_slice.result.now ≡ root_words_of c.self.inside.roots = c.as_slice.ensures.value ∙ c.write_words.ensures in
    let closes = c.close_with.ensures in
    rw (← c.self.view_is) (
      c.if-not-self.false,
      closes_marks _ _ closes.lawful.map (c.self.invariant.traced.swept c.if-not-self.false)
          (subst (λ rs. Traces (found_in c.self.inside.objects.states) c.self.inside.objects.words rs c.self.inside.marker c.close_with.new.marker) e closes.traces) closes.done
          (subst (λ rs. AreClosed (found_in c.self.inside.objects.states) c.self.inside.objects.words rs c.self.inside.marker c.close_with.new.marker) e closes.closure),
    )
