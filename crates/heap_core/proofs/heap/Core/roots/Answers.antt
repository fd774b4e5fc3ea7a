use Rattle.std.proofs.Common.{◌≡◌, subst, ◌∙◌}
use Rattle.block_map.specs.FoundIn.{found_in}
use Rattle.marker.specs.Growth.{MarksWords, Traces}
use Rattle.marker.specs.Invariant.{AreRootsMarked}
use Rattle.roots.specs.Roots.{root_words_of}
use Rattle.heap_core.proofs.Tracing.{traced_on}
use Rattle.heap_core.proofs.Cycling.{marks_on}
use Rattle.heap_core.proofs.Legal.{legal_on}
use Rattle.heap_core.proofs.heap.Core.roots.Goals as goal

pub invariant_of-self : goal.invariant_of-self
invariant_of-self c =
    let e : c.as_slice.result.now ≡ root_words_of c.self.inside.roots = c.as_slice.ensures.value ∙ c.write_words.ensures in
    legal_on _ _ c.self.invariant (traced_on _ _ _ _ c.self.invariant.traced c.mark_roots.ensures.traces) (root_words_of c.self.inside.roots)
    (marks_on _ _ _ c.mark_roots.ensures.lawful.map (c.self.invariant.traced.swept c.if-not-self.false) (λ w h. h)
    (subst (λ rs. Traces (found_in c.self.inside.objects.states) c.self.inside.objects.words rs c.self.inside.marker c.mark_roots.new.marker) e c.mark_roots.ensures.traces))

pub returns : goal.returns
returns c =
    let e : c.as_slice.result.now ≡ root_words_of c.self.inside.roots = c.as_slice.ensures.value ∙ c.write_words.ensures in
    rw (← c.self.view_is) (
      c.if-not-self.false,
      record {
        marks = marks_on _ _ _ c.mark_roots.ensures.lawful.map (c.self.invariant.traced.swept c.if-not-self.false) (λ w h. h)
            (subst (λ rs. Traces (found_in c.self.inside.objects.states) c.self.inside.objects.words rs c.self.inside.marker c.mark_roots.new.marker) e c.mark_roots.ensures.traces);
        words = subst (λ rs. MarksWords (found_in c.self.inside.objects.states) c.self.inside.marker rs c.mark_roots.new.marker) e c.mark_roots.ensures.marks;
        dirty = c.mark_roots.ensures.dirty;
        roots = subst (λ rs. AreRootsMarked (found_in c.self.inside.objects.states) rs c.mark_roots.new.marker) e c.mark_roots.ensures.roots;
      },
    )
