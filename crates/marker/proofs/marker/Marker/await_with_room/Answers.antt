use Rattle.std.proofs.Common.{refl}
use Rattle.marker.proofs.MarkWord.{consistent_push}
use Rattle.marker.proofs.marker.Marker.await_with_room.Goals as goal

pub invariant_of-self : goal.invariant_of-self
invariant_of-self c = consistent_push _ _ _ c.self.invariant refl (rw (← c.self.view_is) at c.requires) refl refl refl c.push.ensures.items
