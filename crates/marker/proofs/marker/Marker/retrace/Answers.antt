use Rattle.std.proofs.Common.{[]}
use Rattle.block_map.specs.FoundIn.{found_in}
use Rattle.marker.proofs.Beside.{traces_in_refl}
use Rattle.marker.proofs.Growing.{traces_refl}
use Rattle.marker.proofs.marker.Marker.retrace.Goals as goal

pub returns-in_err-page-clause-traces : goal.returns-in_err-page-clause-traces
returns-in_err-page-clause-traces c = traces_refl (found_in c.args.map.now) c.args.reader.now.words [] c.args.self.now

pub returns-in_err-page-clause-beside : goal.returns-in_err-page-clause-beside
returns-in_err-page-clause-beside c s = traces_in_refl (found_in c.args.map.now) c.args.reader.now.moments c.args.self.now s
