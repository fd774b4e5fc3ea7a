use Rattle.std.proofs.Common.{ℕ, ◌+◌, ◌*◌, ◌<◌, subst, arith}
use Rattle.std.specs.Int.{trailing_zeros, w64}
use Rattle.marker.proofs.Rests.{rest_all, rest_first, rest_more, rest_none}
use Rattle.mark_bits.specs.Tables.{view}
use Rattle.final_pause.specs.Pauses.{pause_view}
use Rattle.final_pause.specs.Serving.{AreObjectsRead}
use Rattle.final_pause.proofs.Marked.{marks_len, objects_none, objects_append, objects_next}
use Rattle.final_pause.proofs.OwnMarks.{own_mark, no_own}
use Rattle.final_pause.proofs.Serving.{serves_refl, serves_trans}
use Rattle.final_pause.proofs.share.Pause.read_marked.Goals as goal

pub own_marks-own-requires-clause-inside : goal.own_marks-own-requires-clause-inside
own_marks-own-requires-clause-inside g c =
    let marks = marks_len (pause_view c.args.self.now) c.requires.serving.fits.ready in let high = c.requires.on.1 in let inside = c.requires.inside in
    omega arith

pub loop-rest-init : goal.loop-rest-init
loop-rest-init g c =
    let p = pause_view c.args.self.now in let h = c.args.helper.now in (
      serves_refl p h c.requires.serving,
      0,
      rest_all _,
      objects_none p c.requires.serving.fits.ready.map (view h.claimer) h.carried h.place c.args.dirty.number (64 * c.args.j) (64 * c.args.j + 0) (λ k from below. absurd (omega arith)),
    )

pub read_at-requires-clause-on : goal.read_at-requires-clause-on
read_at-requires-clause-on g c κs within =
    let i = c.loop-rest.invariant in let some : 0 < c.loop-rest.rest = (let ne = c.loop-rest-test.true in omega arith) in
    let first = rest_first _ _ _ i.2 some (omega arith) in let inside = first.inside in let on = c.requires.on in let low = on.0 in let high = on.1 in
    (omega arith, omega arith)

pub read_at-requires-clause-marked : goal.read_at-requires-clause-marked
read_at-requires-clause-marked g c κs within =
    let p = pause_view c.args.self.now in let i = c.loop-rest.invariant in let some : 0 < c.loop-rest.rest = (let ne = c.loop-rest-test.true in omega arith) in
    let first = rest_first _ _ _ i.2 some (omega arith) in
    own_mark p c.args.helper.now.place c.args.dirty.number c.args.j c.own_marks-own.result c.own_marks-own.ensures _ first.inside first.here

pub loop-rest-preserved : goal.loop-rest-preserved
loop-rest-preserved g c =
    let p = pause_view c.args.self.now in let map = c.requires.serving.fits.ready.map in let i = c.loop-rest.invariant in let e = c.read_at.ensures in
    let h = c.loop-rest.helper in let h' = c.read_at.new.helper in let place = c.args.helper.now.place in
    let some : 0 < c.loop-rest.rest = (let ne = c.loop-rest-test.true in omega arith) in
    let first = rest_first _ _ _ i.2 some (omega arith) in let inside = first.inside in
    let t : ℕ = trailing_zeros w64 c.loop-rest.rest in (
      serves_trans p c.args.helper.now h h' i.0 e.serves,
      t + 1,
      rest_more _ _ _ i.2 some (omega arith),
      objects_next p map (view h.claimer) (view h'.claimer) h.carried h'.carried e.serves.learns.known e.serves.carried place c.args.dirty.number (64 * c.args.j) (64 * c.args.j + i.1) (64 * c.args.j + t) (64 * c.args.j + (t + 1)) (omega arith)
          (no_own p place c.args.dirty.number c.args.j c.own_marks-own.result c.own_marks-own.ensures i.1 t (omega arith) first.least)
          i.3 (subst (λ (n : ℕ). AreObjectsRead p (view h'.claimer) h'.carried n c.args.dirty.number (64 * c.args.j + t) (64 * c.args.j + t + 1)) i.0.place (e.read c.args.dirty.number)),
    )

pub returns-clause-read : goal.returns-clause-read
returns-clause-read g c =
    let p = pause_view c.args.self.now in let map = c.requires.serving.fits.ready.map in let i = c.loop-rest.invariant in let h = c.loop-rest.helper in
    let place = c.args.helper.now.place in
    let none = rest_none _ _ _ c.loop-rest-test.false i.2 in let few = i.2.few in
    objects_append p map (view h.claimer) h.carried place c.args.dirty.number (64 * c.args.j) (64 * c.args.j + i.1) (64 * (c.args.j + 1)) i.3
    (objects_none p map (view h.claimer) h.carried place c.args.dirty.number (64 * c.args.j + i.1) (64 * (c.args.j + 1))
    (λ k from below. no_own p place c.args.dirty.number c.args.j c.own_marks-own.result c.own_marks-own.ensures i.1 64 (omega arith) none.none k from (omega arith)))
