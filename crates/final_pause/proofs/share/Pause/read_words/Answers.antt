use Rattle.std.proofs.Common.{◌+◌, arith}
use Rattle.final_pause.specs.Pauses.{pause_view}
use Rattle.final_pause.proofs.Reading.{reads_none, reads_append}
use Rattle.final_pause.proofs.Serving.{fits_more}
use Rattle.final_pause.proofs.share.Pause.read_words.Goals as goal

pub loop-done-init : goal.loop-done-init
loop-done-init g c = record { reads = reads_none (pause_view c.args.self.now) c.args.piece.found c.args.piece.first c.args.helper.now c.requires.fits.of; within = omega arith }

pub overflow_add-address : goal.overflow_add-address
overflow_add-address g c =
    let p = (c.requires.fits.ready.map.placed _ _ c.requires.object.points).below in let n = c.from.ensures in
    let s = c.requires.fits.ready.few in let l = c.requires.inside in omega arith

pub read_run-requires-clause-fits : goal.read_run-requires-clause-fits
read_run-requires-clause-fits g c κs within = fits_more (pause_view c.args.self.now) c.args.helper.now c.loop-done.helper c.loop-done.invariant.reads.extends c.requires.fits

pub read_run-requires-clause-one_page : goal.read_run-requires-clause-one_page
read_run-requires-clause-one_page g c κs within i from below =
    let p = c.requires.fits.ready.map.placed _ _ c.requires.object.points in let above = p.above in let aligned = p.aligned in
    let n = c.from.ensures in let on = c.min-run.ensures in
    omega arith

pub loop-done-preserved : goal.loop-done-preserved
loop-done-preserved g c = record {
  reads = reads_append (pause_view c.args.self.now) c.args.piece.found c.args.piece.first c.loop-done.done (c.args.piece.first + c.loop-done.done) c.min-run.result c.args.helper.now c.loop-done.helper c.read_run.new.helper (omega arith)
      c.loop-done.invariant.reads c.read_run.ensures;
  within = (let m = c.min-run.ensures in let b = c.loop-done.invariant.within in omega arith);
}

pub loop-done-smaller : goal.loop-done-smaller
loop-done-smaller g c =
    let p = c.requires.fits.ready.map.placed _ _ c.requires.object.points in let above = p.above in let aligned = p.aligned in
    let n = c.from.ensures in let m = c.min-run.ensures in let t = c.loop-done-test.true in
    omega arith
