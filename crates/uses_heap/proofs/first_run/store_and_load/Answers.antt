use Rattle.std.proofs.Common.{refl, arith}
use Rattle.words.specs.declared.class.Kind.TheVariants.{Normal}
use Rattle.heap_spec.specs.declared.call.Call.TheVariants.{Set}
use Rattle.heap_spec.specs.declared.event.Event.TheVariants.{Mutator}
use Rattle.heap_spec.specs.declared.reply.Reply.TheVariants.{Done}
use Rattle.uses_heap.proofs.Calling.{loaded_is, handed_on, two_have_a_place}
use Rattle.uses_heap.proofs.first_run.store_and_load.Goals as goal

pub returns-in_err-alloc : goal.returns-in_err-alloc
returns-in_err-alloc c =
    rw (handed_on _ _ c.from_residual.ensures.1) (record {
      lines = c.calls_are_lines.ensures.more _ _ _ _ _ _ c.stands.ensures.stands (c.in_range.ensures.object, omega arith) c.in_err-alloc.ensures (λ _. c.calls_are_lines.ensures.none _);
      loaded = tt;
      refused = λ two. c.held_words.ensures.few_refused _ _ c.args.slot c.args.object 2 Normal _ c.stands.ensures.stands (two_have_a_place _ two) c.in_err-alloc.ensures;
    })

pub returns-in_err-set : goal.returns-in_err-set
returns-in_err-set c =
    let law = c.held_words.ensures in
    let made = law.granted _ _ c.args.slot c.args.object 2 0 c.stands.ensures.stands (c.in_range.ensures.object, omega arith) (omega arith) c.in_ok-alloc.ensures in
    let done = law.sets _ _ _ c.args.slot _ 0 _ c.args.scratch c.args.word made c.in_err-set.ensures in
    absurd cc

pub returns-in_err-store : goal.returns-in_err-store
returns-in_err-store c =
    let law = c.held_words.ensures in
    let made = law.granted _ _ c.args.slot c.args.object 2 0 c.stands.ensures.stands (c.in_range.ensures.object, omega arith) (omega arith) c.in_ok-alloc.ensures in
    let set = law.stays _ _ (Mutator c.args.slot (Set c.args.scratch c.args.word)) Done c.args.slot c.args.object 0 0 made (c.in_range.ensures.scratch, c.ranges.word.fits) (tt, λ same. c.requires.apart) c.in_ok-set.ensures in
    let done = law.stores _ _ _ c.args.slot _ 0 _ c.args.scratch set c.in_err-store.ensures in
    absurd cc

pub returns : goal.returns
returns c =
    let law = c.held_words.ensures in
    let next = c.calls_are_lines.ensures.more in
    let sound = c.stands.ensures.stands in
    let in_range = c.in_range.ensures in
    let made = law.granted _ _ c.args.slot c.args.object 2 0 sound (in_range.object, omega arith) (omega arith) c.in_ok-alloc.ensures in
    let stored = law.stored _ _ _ c.args.slot c.args.object 0 c.args.scratch 0 c.args.word made (in_range.scratch, c.ranges.word.fits) (in_range.object, omega arith, in_range.scratch) c.requires.apart c.in_ok-set.ensures c.in_ok-store.ensures in
    let word = loaded_is c.load.result c.args.word (law.loaded _ _ _ c.args.slot c.args.scratch c.args.object 0 c.args.word stored c.load.ensures) in
    let loads = rw word at c.load.ensures in
    rw word (record {
      lines = next _ _ _ _ _ _ sound (in_range.object, omega arith) c.in_ok-alloc.ensures
          (λ s1. next _ _ _ _ _ _ s1 (in_range.scratch, c.ranges.word.fits) c.in_ok-set.ensures
          (λ s2. next _ _ _ _ _ _ s2 (in_range.object, omega arith, in_range.scratch) c.in_ok-store.ensures
          (λ s3. next _ _ _ _ _ _ s3 (in_range.scratch, in_range.object, omega arith) loads (λ _. c.calls_are_lines.ensures.none _))));
      loaded = refl;
      refused = λ two. tt;
    })
