use Rattle.std.proofs.Common.{subst}
use Rattle.plain_heap.specs.Flags.{ForgetsUnflagged, CantForget}
use Rattle.replayer.proofs.flags.forget.Goals as goal

pub returns-clause-yes : goal.returns-clause-yes
returns-clause-yes c done = subst (λ f. ForgetsUnflagged c.args.heap.now f c.args.bases.now c.forget.new.self) c.deref.ensures.value (c.forget.ensures.yes done)

pub returns-clause-no : goal.returns-clause-no
returns-clause-no c refused = subst (λ f. CantForget c.args.heap.now f c.args.bases.now) c.deref.ensures.value (c.forget.ensures.no refused)
