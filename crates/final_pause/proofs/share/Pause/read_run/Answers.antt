use Rattle.std.proofs.Common.{arith}
use Rattle.final_pause.specs.Pauses.{pause_view}
use Rattle.final_pause.proofs.Reading.{row_of}
use Rattle.final_pause.proofs.share.Pause.read_run.Goals as goal

pub overflow_add-start : goal.overflow_add-start
overflow_add-start g c =
    let f = c.from.ensures in let p = (c.requires.fits.ready.map.placed _ _ c.requires.object.points).below in
    let s = c.requires.fits.ready.few in let l = c.requires.inside in omega arith

pub read_row-requires-clause-row : goal.read_row-requires-clause-row
read_row-requires-clause-row g c κs within = let f = c.from.ensures in
    (c.args.piece.found, c.args.piece.first, row_of (pause_view c.args.self.now) c.args.piece.found c.args.piece.first c.args.piece.count _ c.requires.fits.ready.map c.requires.object c.requires.inside c.requires.one_page (omega arith))

pub returns : goal.returns
returns g c = let f = c.from.ensures in
    c.read_row.ensures c.args.piece.found c.args.piece.first
    (row_of (pause_view c.args.self.now) c.args.piece.found c.args.piece.first c.args.piece.count _ c.requires.fits.ready.map c.requires.object c.requires.inside c.requires.one_page (omega arith))
