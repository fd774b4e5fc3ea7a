use Rattle.std.proofs.Common.{refl, arith}
use Rattle.std.specs.Prelude.{Ok}
use Rattle.heap_spec.specs.declared.event.Event.TheVariants.{Begin, Roots, Mark, Retrace, Finish, Sweep}
use Rattle.heap_spec.specs.declared.reply.Reply.TheVariants.{Count, Done}
use Rattle.uses_heap.proofs.Calling.{loaded_is}
use Rattle.uses_heap.proofs.cycle.keep_through_cycle.Goals as goal

pub returns : goal.returns
returns c =
    let law = c.held_words.ensures in
    let next = c.calls_are_lines.ensures.more in
    let sound = c.stands.ensures.stands in
    let in_range = c.in_range.ensures in
    let made = law.granted _ _ c.args.slot c.args.object 2 0 sound (in_range.object, omega arith) (omega arith) c.in_ok-alloc.ensures in
    let stored = law.stored _ _ _ c.args.slot c.args.object 0 c.args.scratch 0 c.args.word made (in_range.scratch, c.ranges.word.fits) (in_range.object, omega arith, in_range.scratch) c.requires.apart c.in_ok-set.ensures c.in_ok-store.ensures in
    let begun = law.stays _ _ Begin Done _ _ 0 _ stored tt tt (Ok tt, refl, c.in_ok-begin.ensures) in
    let read = law.stays _ _ Roots Done _ _ 0 _ begun tt tt (Ok tt, refl, c.in_ok-roots.ensures) in
    let marked = law.stays _ _ (Mark 1) (Count _) _ _ 0 _ read tt tt (Ok _, refl, c.in_ok-mark.ensures) in
    let retraced = law.stays _ _ Retrace (Count _) _ _ 0 _ marked tt tt (Ok _, refl, c.in_ok-retrace.ensures) in
    let finished = law.stays _ _ Finish (Count _) _ _ 0 _ retraced tt tt (Ok _, refl, c.in_ok-finish.ensures) in
    let swept = law.stays _ _ Sweep (Count _) _ _ 0 _ finished tt tt (Ok _, refl, c.in_ok-sweep.ensures) in
    let word = loaded_is c.load.result c.args.word (law.loaded _ _ _ c.args.slot c.args.scratch c.args.object 0 c.args.word swept c.load.ensures) in
    let loads = rw word at c.load.ensures in
    rw word (record {
      lines = (
        record { marked = _; read = _; forgotten = _; swept = _ },
        next _ _ _ _ _ _ sound (in_range.object, omega arith) c.in_ok-alloc.ensures
            (λ s1. next _ _ _ _ _ _ s1 (in_range.scratch, c.ranges.word.fits) c.in_ok-set.ensures
            (λ s2. next _ _ _ _ _ _ s2 (in_range.object, omega arith, in_range.scratch) c.in_ok-store.ensures
            (λ s3. next _ _ _ _ _ _ s3 tt (Ok tt, refl, c.in_ok-begin.ensures)
            (λ s4. next _ _ _ _ _ _ s4 tt (Ok tt, refl, c.in_ok-roots.ensures)
            (λ s5. next _ _ _ _ _ _ s5 tt (Ok _, refl, c.in_ok-mark.ensures)
            (λ s6. next _ _ _ _ _ _ s6 tt (Ok _, refl, c.in_ok-retrace.ensures)
            (λ s7. next _ _ _ _ _ _ s7 tt (Ok _, refl, c.in_ok-finish.ensures)
            (λ s8. next _ _ _ _ _ _ s8 tt (Ok _, refl, c.in_ok-sweep.ensures)
            (λ s9. next _ _ _ _ _ _ s9 (in_range.scratch, in_range.object, omega arith) loads (λ _. c.calls_are_lines.ensures.none _)))))))))),
      );
      loaded = refl;
    })
