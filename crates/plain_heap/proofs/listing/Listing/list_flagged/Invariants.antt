use Rattle.std.proofs.Common.{take}
use Rattle.plain_heap.specs.Aging.{ListsFlagged}
use Rattle.plain_heap.proofs.listing.Listing.list_flagged.Given as goal

-- so far
abbrev pub invariant-loop-index : goal.invariant-loop-index
invariant-loop-index l = ListsFlagged l.directory.origin l.directory.objects.items (take l.index l.directory.objects.items) l.flags l.fn.self l.self
