use Rattle.std.proofs.Common.{◌∙◌, List, ℕ, subst}
use Rattle.plain_heap.specs.Aging.{MarksClosure}
use Rattle.plain_heap.specs.Reached.{MarksReached}
use Rattle.plain_heap.specs.Discovery.{IsDiscovered}
use Rattle.plain_heap.proofs.reach.Reach.list.Goals as goal

pub returns-clause-marks : goal.returns-clause-marks
returns-clause-marks c =
    subst (λ (w : List ℕ). MarksClosure c.args.directory.now.origin w c.args.words.now c.args.directory.now.objects.items c.args.flags.now c.list_closure.new.self.marks.items) (c.as_slice.ensures.value ∙ c.write_words.ensures) c.list_closure.ensures.marks

pub returns-clause-reached : goal.returns-clause-reached
returns-clause-reached c none =
    subst (λ (w : List ℕ). MarksReached c.args.directory.now.origin w c.args.words.now c.args.directory.now.objects.items c.list_closure.new.self.marks.items) (c.as_slice.ensures.value ∙ c.write_words.ensures) (c.list_closure.ensures.reached none)

pub returns-clause-discovered : goal.returns-clause-discovered
returns-clause-discovered c none =
    subst (λ (w : List ℕ). IsDiscovered c.args.directory.now.origin w c.args.words.now c.args.directory.now.objects.items c.list_closure.new.self.order.items) (c.as_slice.ensures.value ∙ c.write_words.ensures) (c.list_closure.ensures.discovered none)
