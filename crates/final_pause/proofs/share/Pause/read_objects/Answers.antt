use Rattle.std.proofs.Common.{ℕ, ◌+◌, length, subst, arith}
use Rattle.words.specs.Layout.{page_start}
use Rattle.mark_bits.specs.Tables.{view}
use Rattle.marker.specs.Parts.{HasPart}
use Rattle.marker.proofs.Closures.{at_base}
use Rattle.marker.proofs.Parts.{next_has_part}
use Rattle.final_pause.specs.Pauses.{pause_view}
use Rattle.final_pause.specs.Helping.{found}
use Rattle.final_pause.specs.Serving.{AreWordsRead}
use Rattle.final_pause.proofs.Serving.{serves_refl, serves_trans, part_read, words_more, words_append, words_end}
use Rattle.final_pause.proofs.share.Pause.read_objects.Goals as goal

pub loop-found-init : goal.loop-found-init
loop-found-init g c =
    let f = c.page_start-address.ensures in
    record {
      serves = serves_refl (pause_view c.args.self.now) c.args.helper.now c.requires.serving;
      read = λ h o n m turn i lt from below. absurd (omega (arith, f, from, below));
      from = omega arith;
      within = omega arith;
      aligned = omega arith;
    }

pub part_between-part-requires : goal.part_between-part-requires
part_between-part-requires g c =
    let p = pause_view c.args.self.now in let r = c.requires.serving.fits.ready in let start = c.page_start-address.ensures in
    subst (λ (high : ℕ). HasPart c.loop-found.address high c.in-Some.found) (omega (arith, start))
    (next_has_part (length p.map) (found p) r.map r.few c.loop-found.address (page_start (c.args.page + 1)) c.in-Some.found c.in-Some.ensures c.loop-found.invariant.aligned (omega arith))

pub read_part-requires-clause-object : goal.read_part-requires-clause-object
read_part-requires-clause-object g c κs within =
    let p = pause_view c.args.self.now in
    at_base (length p.map) (found p) c.requires.serving.fits.ready.map c.in-Some.ensures.at c.in-Some.found c.in-Some.ensures.reads

pub loop-found-preserved : goal.loop-found-preserved
loop-found-preserved g c =
    let p = pause_view c.args.self.now in let map = c.requires.serving.fits.ready.map in let i = c.loop-found.invariant in
    let e = c.read_part.ensures in let q = c.part_between-part.ensures in let part = c.part_between-part.result in
    let h = c.loop-found.helper in let h' = c.read_part.new.helper in let ends = q.ends in
    record {
      serves = serves_trans p c.args.helper.now h h' i.serves e.serves;
      read = words_append p (view h'.claimer) h'.carried c.args.helper.now.place c.args.number (page_start c.args.page) c.loop-found.address part.stop
          (words_more p (view h.claimer) (view h'.claimer) h.carried h'.carried e.serves.learns.known e.serves.carried c.args.helper.now.place c.args.number _ _ i.read)
          (subst (λ (n : ℕ). AreWordsRead p (view h'.claimer) h'.carried n c.args.number c.loop-found.address part.stop) i.serves.place
          (part_read p map (view h'.claimer) h'.carried h.place c.args.number c.loop-found.address (page_start (c.args.page + 1)) part.stop c.in-Some.found c.in-Some.ensures q.inside
          (λ n m turn k lt from below. e.read n m turn k (q.reaches k from) (omega (arith, below, ends)))));
      from = (let b = i.from in let a = q.further in omega arith);
      within = (let a = q.within in let f = c.page_start-address.ensures in omega arith);
      aligned = q.aligned;
    }

pub returns-clause-read : goal.returns-clause-read
returns-clause-read g c =
    let p = pause_view c.args.self.now in let i = c.loop-found.invariant in
    words_append p (view c.loop-found.helper.claimer) c.loop-found.helper.carried c.args.helper.now.place c.args.number (page_start c.args.page) c.loop-found.address (page_start (c.args.page + 1)) i.read
    (words_end p c.requires.serving.fits.ready.map (view c.loop-found.helper.claimer) c.loop-found.helper.carried c.args.helper.now.place c.args.number c.loop-found.address (page_start (c.args.page + 1)) c.in_default.ensures)
