use Rattle.std.proofs.Common.{◌≡◌, refl, sym, subst, ◌∙◌}
use Rattle.block_map.specs.FoundIn.{found_in}
use Rattle.marker.specs.Marking.{IsBlank}
use Rattle.marker.specs.Growth.{Traces}
use Rattle.roots.specs.Roots.{root_words_of}
use Rattle.object_space.specs.Sweeps.{ForgetsUnreached}
use Rattle.heap_core.proofs.Cycling.{collects_all}
use Rattle.heap_core.proofs.Along.{traced_along}
use Rattle.heap_core.proofs.Tracing.{traced_ended}
use Rattle.heap_core.proofs.Legal.{legal_collected}
use Rattle.heap_core.proofs.Unmarked.{unmarked_past}
use Rattle.heap_core.proofs.heap.Core.collect.Goals as goal

pub begin-requires-clause-unmarked : goal.begin-requires-clause-unmarked
begin-requires-clause-unmarked c = unmarked_past _ c.self.inside.marker _ c.self.invariant.traced.objects c.used-used.ensures.below

pub returns : goal.returns
returns c =
    let e : c.as_slice-root_words.result.now ≡ root_words_of c.self.inside.roots = c.as_slice-root_words.ensures.value ∙ c.write_words.ensures in
    rw (← c.self.view_is)
    (collects_all _ c.sweep_all.new.self c.begin.new.self _ _ _ _ _ _ _ c.collect-count.ensures.lawful.map c.sweep_all.ensures.sweeps c.sweep_all.ensures.swept (subst (λ n. IsBlank n c.begin.new.self) (c.self.invariant.traced.pages ∙ sym c.sweep_all.ensures.sweeps.pages) c.begin.ensures.blank)
    (subst (λ rs. ForgetsUnreached c.sweep_all.new.self rs c.begin.new.self c.collect-count.result c.collect-count.new.marker.marks c.collect-count.new.self) e c.collect-count.ensures.forgets) c.collect-count.ensures.swept c.collect-count.ensures.done
    (subst (λ rs. Traces (found_in c.sweep_all.new.self.states) c.sweep_all.new.self.words rs c.begin.new.self c.collect-count.new.marker) e c.collect-count.ensures.traces) refl c.take_along.ensures.lawful.map c.take_along.ensures.along c.take_along.ensures.links c.collect-count.ensures.objects c.collect-count.ensures.reads c.collect-count.ensures.all)

pub invariant_of-self : goal.invariant_of-self
invariant_of-self c =
    let e : c.as_slice-root_words.result.now ≡ root_words_of c.self.inside.roots = c.as_slice-root_words.ensures.value ∙ c.write_words.ensures in
    legal_collected _ _ c.self.invariant
    (traced_along _ _ _ _ _ c.take_along.ensures.lawful.map (traced_ended _ _ _ _ c.collect-count.ensures.pages c.collect-count.ensures.objects (λ _. c.collect-count.ensures.carries (c.begin.ensures.carried _ _))) c.take_along.ensures.along)
    c.collect-count.result
    (collects_all _ c.sweep_all.new.self c.begin.new.self _ _ _ _ _ _ _ c.collect-count.ensures.lawful.map c.sweep_all.ensures.sweeps c.sweep_all.ensures.swept (subst (λ n. IsBlank n c.begin.new.self) (c.self.invariant.traced.pages ∙ sym c.sweep_all.ensures.sweeps.pages) c.begin.ensures.blank)
    (subst (λ rs. ForgetsUnreached c.sweep_all.new.self rs c.begin.new.self c.collect-count.result c.collect-count.new.marker.marks c.collect-count.new.self) e c.collect-count.ensures.forgets) c.collect-count.ensures.swept c.collect-count.ensures.done
    (subst (λ rs. Traces (found_in c.sweep_all.new.self.states) c.sweep_all.new.self.words rs c.begin.new.self c.collect-count.new.marker) e c.collect-count.ensures.traces) refl c.take_along.ensures.lawful.map c.take_along.ensures.along c.take_along.ensures.links c.collect-count.ensures.objects c.collect-count.ensures.reads c.collect-count.ensures.all)
