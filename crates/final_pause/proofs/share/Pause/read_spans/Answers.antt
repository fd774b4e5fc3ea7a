use Rattle.marker.specs.Closure.{held}
use Rattle.final_pause.specs.Pauses.{pause_view}
use Rattle.final_pause.proofs.Serving.{serves_own}
use Rattle.final_pause.proofs.share.Pause.read_spans.Goals as goal

pub make_room-requires-after_bounds : goal.make_room-requires-after_bounds
make_room-requires-after_bounds g c κs within =
    let p = pause_view c.args.self.now in
    (serves_own p c.requires.serving.fits.ready.map c.args.piece.found c.args.piece.first c.args.piece.count c.args.helper.now c.read_own.new.helper
    (held c.requires.object c.requires.marked) c.requires.normal c.read_own.ensures c.requires.serving).serving
