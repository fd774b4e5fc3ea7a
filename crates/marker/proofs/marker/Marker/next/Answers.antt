use Rattle.std.proofs.Common.{◌∙◌, sym, ap}
use Rattle.block_map.specs.FoundIn.{found_in}
use Rattle.marker.specs.Entries.{IsKnown}
use Rattle.marker.proofs.Settling.{settles_none}
use Rattle.marker.proofs.Known.{known_current, known_live}
use Rattle.marker.proofs.marker.Marker.next.Goals as goal
use Rattle.marker.proofs.marker.Marker.next.Goals.{After-laws}

known : (c : After-laws) → IsKnown (found_in c.args.map.now) c.args.self.now c.in-Some.entry
known c =
    let e = c.known_entry.ensures in
    known_current (found_in c.args.map.now) c.args.self.now c.args.known c.in-Some.entry c.requires.known (e.known c.in-Some.entry c.in-Some.is) (e.entry c.in-Some.entry c.in-Some.is)

pub object_at-requires : goal.object_at-requires
object_at-requires c = let k = known (goal.at.object_at-requires c).After-laws in let u = k.unread in record { base = (k.object, ap (found_in c.args.map.now) (sym u.base) ∙ u.object, u.base) }

pub returns-clause-settles : goal.returns-clause-settles
returns-clause-settles c = settles_none (found_in c.args.map.now) c.args.self.now c.in-Some.entry (c.known_entry.ensures.entry c.in-Some.entry c.in-Some.is)

pub returns-clause-live : goal.returns-clause-live
returns-clause-live c = known_live (found_in c.args.map.now) c.args.self.now c.in-Some.entry c.object_at.result (c.known_entry.ensures.entry c.in-Some.entry c.in-Some.is) (known (goal.at.returns-clause-live c).After-laws) c.object_at.ensures.object

pub returns-clause-placed : goal.returns-clause-placed
returns-clause-placed c = (c.laws.ensures.lawful.map.placed c.in-Some.entry.base c.object_at.result c.object_at.ensures.object, c.laws.ensures.small)
