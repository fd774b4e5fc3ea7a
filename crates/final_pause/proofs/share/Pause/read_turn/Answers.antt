use Rattle.std.proofs.Common.{arith}
use Rattle.marker.specs.Closure.{held}
use Rattle.final_pause.specs.Pauses.{pause_view}
use Rattle.final_pause.proofs.Serving.{serves_words}
use Rattle.final_pause.proofs.share.Pause.read_turn.Goals as goal

pub page_of-requires : goal.page_of-requires
page_of-requires g c = let placed = (c.requires.serving.fits.ready.map.placed _ _ c.requires.object).above in omega arith

pub page_of-requires-2 : goal.page_of-requires-2
page_of-requires-2 g c = (c.requires.serving.fits.ready.map.placed _ _ c.requires.object).above

pub make_room-requires-after_bounds : goal.make_room-requires-after_bounds
make_room-requires-after_bounds g c κs within =
    let p = pause_view c.args.self.now in
    (serves_words p c.requires.serving.fits.ready.map c.args.piece.found c.args.piece.first c.args.piece.count c.args.helper.now c.read_run.new.helper
    (held c.requires.object c.requires.marked) c.requires.normal c.read_run.ensures c.requires.serving).serving
