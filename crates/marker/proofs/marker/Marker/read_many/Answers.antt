use Rattle.block_map.specs.FoundIn.{found_in}
use Rattle.marker.proofs.Wholes.{whole_less}
use Rattle.marker.proofs.marker.Marker.read_many.Goals as goal

pub returns-then-depth-known-clause-takes : goal.returns-then-depth-known-clause-takes
returns-then-depth-known-clause-takes c = whole_less (found_in c.args.map.now) c.args.reader.now.moments c.args.self.now 0
