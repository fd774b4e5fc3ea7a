use Rattle.plain_heap.proofs.Flagging.{MarkedSoFar}
use Rattle.plain_heap.proofs.directory.Directory.flag_marked.Given as goal

-- so far
abbrev pub invariant-loop-index : goal.invariant-loop-index
invariant-loop-index l = MarkedSoFar l.self.origin l.self.objects.items l.marks l.initial.flags l.index l.flags
