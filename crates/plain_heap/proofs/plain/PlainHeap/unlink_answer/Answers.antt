use Rattle.std.proofs.Common.{sym, ap, ◌∙◌}
use Rattle.plain_heap.proofs.Linking.{unlink_acts, one_if}
use Rattle.plain_heap.proofs.plain.PlainHeap.unlink_answer.Goals as goal

pub returns-then-not-has : goal.returns-then-not-has
returns-then-not-has c = rw (← c.self.view_is) (λ s h slot. (_, unlink_acts _ s h slot _ _ c.args.mutator.now 0 (ap one_if (sym c.if-not-has.true ∙ rw c.address-address.ensures at c.has.ensures))))

pub returns : goal.returns
returns c = rw (← c.self.view_is) (λ s h slot. (_, unlink_acts _ s h slot _ _ c.args.mutator.now 1 (ap one_if (sym c.if-not-has.false ∙ rw c.address-address.ensures at c.has.ensures))))
