use Rattle.plain_heap.specs.Wrongs.{TellsLowest, IsBelow, IsLeftAt}
use Rattle.plain_heap.proofs.directory.Directory.lowest_left.Given as goal

-- so far
abbrev pub invariant-loop-index : goal.invariant-loop-index
invariant-loop-index l = TellsLowest (IsBelow (IsLeftAt l.self.objects.items l.marks l.stays) l.index) l.lowest
