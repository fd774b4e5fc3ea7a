use Rattle.std.proofs.Common.{length}
use Rattle.block_map.specs.FoundIn.{found_in}
use Rattle.marker.proofs.Beginning.{begun_bases}
use Rattle.marker.proofs.marker.Marker.read_together.Goals as goal

pub read_firsts-firsts-requires : goal.read_firsts-firsts-requires
read_firsts-firsts-requires c = begun_bases (length c.args.map.now) (found_in c.args.map.now) c.begin_objects.new.self c.args.reader.now.words c.requires.memory c.begin_objects.new.begun.items c.begin_objects.ensures.begun
