use Rattle.std.proofs.Common.{subst}
use Rattle.heap_history.specs.Passes.{HeapPass, IsLegalPass}
use Rattle.shared.proofs.tokens.Mutator.slot.Goals as goal

pub returns-clause-fine : goal.returns-clause-fine
returns-clause-fine g c = subst (λ (p : HeapPass). IsLegalPass g.J.Naming.origin p) c.self.view_is c.slot-slot.ensures.agrees
