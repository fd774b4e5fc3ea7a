use Rattle.std.proofs.Common.{◌≡◌, refl, subst, ◌∙◌}
use Rattle.block_map.specs.FoundIn.{found_in}
use Rattle.marker.specs.Growth.{Traces}
use Rattle.roots.specs.Roots.{root_words_of}
use Rattle.object_space.specs.Sweeps.{ForgetsUnreached}
use Rattle.heap_core.proofs.Cycling.{ends_cycle}
use Rattle.heap_core.proofs.Along.{traced_along}
use Rattle.heap_core.proofs.Tracing.{traced_ended}
use Rattle.heap_core.proofs.Legal.{legal_ended}
use Rattle.heap_core.proofs.heap.Core.finish.Goals as goal

pub returns : goal.returns
returns c =
    let e : c.as_slice-root_words.result.now ≡ root_words_of c.self.inside.roots = c.as_slice-root_words.ensures.value ∙ c.write_words.ensures in
    rw (← c.self.view_is) (
      c.if-not-self.false,
      ends_cycle _ _ _ _ _ _ _ _ c.finish-count.ensures.lawful.map (c.self.invariant.traced.swept c.if-not-self.false)
          (subst (λ rs. ForgetsUnreached c.self.inside.objects rs c.self.inside.marker c.finish-count.result c.finish-count.new.marker.marks c.finish-count.new.self) e c.finish-count.ensures.forgets) c.finish-count.ensures.cells c.finish-count.ensures.pending c.finish-count.ensures.done c.self.invariant.traced.pages
          (subst (λ rs. Traces (found_in c.self.inside.objects.states) c.self.inside.objects.words rs c.self.inside.marker c.finish-count.new.marker) e c.finish-count.ensures.traces) refl c.take_along.ensures.lawful.map c.take_along.ensures.along c.take_along.ensures.links c.finish-count.ensures.reads c.finish-count.ensures.all,
    )

pub invariant_of-self : goal.invariant_of-self
invariant_of-self c =
    let e : c.as_slice-root_words.result.now ≡ root_words_of c.self.inside.roots = c.as_slice-root_words.ensures.value ∙ c.write_words.ensures in
    legal_ended _ _ c.self.invariant
    (traced_along _ _ _ _ _ c.take_along.ensures.lawful.map (traced_ended _ _ _ _ c.finish-count.ensures.pages c.finish-count.ensures.objects (λ is. c.finish-count.ensures.carries (c.self.invariant.traced.carried is))) c.take_along.ensures.along)
    c.finish-count.result
    (ends_cycle _ _ _ _ _ _ _ _ c.finish-count.ensures.lawful.map (c.self.invariant.traced.swept c.if-not-self.false)
    (subst (λ rs. ForgetsUnreached c.self.inside.objects rs c.self.inside.marker c.finish-count.result c.finish-count.new.marker.marks c.finish-count.new.self) e c.finish-count.ensures.forgets) c.finish-count.ensures.cells c.finish-count.ensures.pending c.finish-count.ensures.done c.self.invariant.traced.pages
    (subst (λ rs. Traces (found_in c.self.inside.objects.states) c.self.inside.objects.words rs c.self.inside.marker c.finish-count.new.marker) e c.finish-count.ensures.traces) refl c.take_along.ensures.lawful.map c.take_along.ensures.along c.take_along.ensures.links c.finish-count.ensures.reads c.finish-count.ensures.all)
