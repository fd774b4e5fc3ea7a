use Rattle.plain_heap.proofs.Pathing.{IsWalked}
use Rattle.plain_heap.proofs.listing.Listing.walk_back.Given as goal

-- so far
abbrev pub invariant-loop-before : goal.invariant-loop-before
invariant-loop-before l = IsWalked l.graph.directory.now.origin l.graph.roots.now l.graph.words.now l.graph.directory.now.objects.items l.self.order.items l.start l.path.items l.place

abbrev pub decreases-loop-before : goal.decreases-loop-before
decreases-loop-before l = l.place
