use Rattle.std.proofs.Common.{take}
use Rattle.plain_heap.specs.Listing.{ListsAll}
use Rattle.plain_heap.proofs.listing.Listing.list_all.Given as goal

-- so far
abbrev pub invariant-loop-word : goal.invariant-loop-word
invariant-loop-word l = ListsAll l.directory.objects.items (take l.word-index l.words) l.fn.self l.self
