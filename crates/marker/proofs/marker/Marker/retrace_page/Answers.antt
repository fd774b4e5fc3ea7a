use Rattle.std.proofs.Common.{[]}
use Rattle.block_map.specs.FoundIn.{found_in}
use Rattle.marker.proofs.Beside.{traces_in_refl}
use Rattle.marker.proofs.Growing.{traces_refl}
use Rattle.marker.proofs.marker.Marker.retrace_page.Goals as goal

pub returns-then-not-is_dirty-clause-traces : goal.returns-then-not-is_dirty-clause-traces
returns-then-not-is_dirty-clause-traces c = traces_refl (found_in c.args.map.now) c.args.reader.now.words [] c.args.self.now

pub returns-then-not-is_dirty-clause-beside : goal.returns-then-not-is_dirty-clause-beside
returns-then-not-is_dirty-clause-beside c s = traces_in_refl (found_in c.args.map.now) c.args.reader.now.moments c.args.self.now s
