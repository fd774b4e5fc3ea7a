use Rattle.std.proofs.Common.{◌∙◌, ap}
use Rattle.marker.specs.Marking.{bytes_of}
use Rattle.final_pause.specs.Pauses.{pause_view}
use Rattle.final_pause.specs.Helping.{found}
use Rattle.final_pause.proofs.Growing.{tells_object}
use Rattle.final_pause.proofs.share.Pause.visit_target.Goals as goal
