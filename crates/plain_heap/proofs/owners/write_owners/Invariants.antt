use Rattle.plain_heap.proofs.Owning.{OwnSoFar}
use Rattle.plain_heap.proofs.owners.write_owners.Given as goal

-- so far
abbrev pub invariant-loop-index : goal.invariant-loop-index
invariant-loop-index l = OwnSoFar l.origin l.objects l.index l.owners
