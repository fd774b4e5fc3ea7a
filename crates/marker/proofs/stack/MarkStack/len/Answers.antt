use Rattle.std.proofs.Common.{length, sym, ap, ◌∙◌, length-take-le, arith}
use Rattle.marker.proofs.stack.MarkStack.len.Goals as goal

pub returns-clause-count : goal.returns-clause-count
returns-clause-count c = let some = c.self.invariant.0 in let all = c.self.invariant.1 in sym (length-take-le c.self.inside.len c.self.inside.entries (omega arith)) ∙ ap length c.self.view_is
