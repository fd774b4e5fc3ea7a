use Rattle.plain_heap.proofs.Lowest.{FlaggedSoFar}
use Rattle.plain_heap.proofs.directory.Directory.mark_flagged.Given as goal

-- so far
abbrev pub invariant-loop-index : goal.invariant-loop-index
invariant-loop-index l = FlaggedSoFar l.self.origin l.self.objects.items l.flags l.index l.marks
