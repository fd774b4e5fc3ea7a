use Rattle.std.proofs.Common.{◌==◌, length, sym, ap, ◌∙◌, length-take-le, arith}
use Rattle.words.specs.declared.limits.TheConstants.{MARK_STACK_ENTRIES}
use Rattle.marker.proofs.stack.MarkStack.is_full.Goals as goal

pub returns-clause-value : goal.returns-clause-value
returns-clause-value c = let some = c.self.invariant.0 in let all = c.self.invariant.1 in ap (λ n. n == MARK_STACK_ENTRIES) (sym (length-take-le c.self.inside.len c.self.inside.entries (omega arith)) ∙ ap length c.self.view_is)
