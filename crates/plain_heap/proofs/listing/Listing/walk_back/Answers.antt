use Rattle.plain_heap.proofs.Pathing.{walked_none, walked_more, walked_all}
use Rattle.plain_heap.proofs.listing.Listing.walk_back.Goals as goal

pub loop-before-init : goal.loop-before-init
loop-before-init c = walked_none _ _ _ _ _ _ _ c.requires.empty c.requires.within

pub returns-in_default : goal.returns-in_default
returns-in_default c = walked_all _ _ _ _ _ _ _ _ _ c.loop-before.invariant (rw c.in_default.is at c.in_ok-before.ensures)

pub loop-before-preserved : goal.loop-before-preserved
loop-before-preserved c = walked_more _ _ _ _ _ _ _ _ _ _ c.loop-before.invariant (rw c.in-Some.is at c.in_ok-before.ensures)
