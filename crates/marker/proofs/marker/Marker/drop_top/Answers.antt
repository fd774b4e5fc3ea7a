use Rattle.std.proofs.Common.{refl}
use Rattle.marker.proofs.MarkWord.{consistent_pop}
use Rattle.marker.proofs.marker.Marker.drop_top.Goals as goal

pub invariant_of-self : goal.invariant_of-self
invariant_of-self c = consistent_pop _ c.pop.result _ c.self.invariant refl refl refl c.pop.ensures.items
