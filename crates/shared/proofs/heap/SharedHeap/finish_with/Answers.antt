use Rattle.std.proofs.Common.{true, subst}
use Rattle.heap_core.specs.CoreContents.{CoreContents}
use Rattle.heap_core.specs.Collections.{ClosesMarks, IsGrantedInPhase}
use Rattle.heap_core.proofs.AsObject.{closes_stay}
use Rattle.shared.proofs.heap.SharedHeap.finish_with.Goals as goal

pub finish_after-requires-clause-keeps : goal.finish_after-requires-clause-keeps
finish_after-requires-clause-keeps g c = λ before answer after did.
    closes_stay before after answer (subst (λ (o : CoreContents). IsGrantedInPhase true before answer o (λ _. ClosesMarks before o)) did.leaves (subst (λ (o : CoreContents). IsGrantedInPhase true o answer did.left.now (λ _. ClosesMarks o did.left.now)) did.shows did.met))
