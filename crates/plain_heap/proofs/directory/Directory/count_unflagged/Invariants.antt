use Rattle.std.proofs.Common.{List}
use Rattle.plain_heap.specs.declared.extent.Extent.{Extent}
use Rattle.plain_heap.proofs.Stays.{IsKept}
use Rattle.plain_heap.proofs.directory.Directory.count_unflagged.Given as goal

-- so far
abbrev pub invariant-loop-index : goal.invariant-loop-index
invariant-loop-index l = (row : List Extent) × IsKept l.self.objects.items l.flags l.index l.stay row
