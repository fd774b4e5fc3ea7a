use Rattle.std.proofs.Common.{rules}
use Rattle.block_map.specs.FoundIn.{found_in}
use Rattle.marker.proofs.Settling.{Drops, drops_refl, drops_more, drops_settles}
use Rattle.marker.proofs.marker.Marker.settle.Goals as goal
use Rattle.marker.proofs.marker.Marker.settle.Goals.{After-take_entry}

more : (c : After-take_entry) → Drops (found_in c.args.map.now) c.args.self.now c.take_entry.new.self
more c =
    let e = c.take_entry.ensures in
    drops_more (found_in c.args.map.now) _ _ _ c.loop-found.invariant e.marks e.dirty e.carried e.taken c.in_default.ensures.live

pub loop-found-init : goal.loop-found-init
loop-found-init c = drops_refl (found_in c.args.map.now) c.args.self.now

pub loop-found-preserved : goal.loop-found-preserved
loop-found-preserved c = more (goal.at.loop-found-preserved c).After-take_entry

pub returns-then-not-take_entry-clause-settles : goal.returns-then-not-take_entry-clause-settles
returns-then-not-take_entry-clause-settles c =
    drops_settles (found_in c.args.map.now) _ _ (more (goal.at.returns-then-not-take_entry-clause-settles c).After-take_entry) (λ n. (c.take_entry.ensures.none (search rules)).stack)
