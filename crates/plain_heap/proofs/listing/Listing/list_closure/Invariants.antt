use Rattle.std.proofs.Common.{List, ℕ, ◌++◌}
use Rattle.plain_heap.specs.Aging.{AreFlaggedBases}
use Rattle.plain_heap.proofs.Reaching.{IsTraced}
use Rattle.plain_heap.proofs.listing.Listing.list_closure.Given as goal

-- so many of the listed objects were read
abbrev pub invariant-loop-next : goal.invariant-loop-next
invariant-loop-next l = (bases : List ℕ) × AreFlaggedBases l.directory.origin l.directory.objects.items l.flags bases × IsTraced l.directory.origin (l.roots ++ bases) l.words l.directory.objects.items l.fn.self l.next l.self
