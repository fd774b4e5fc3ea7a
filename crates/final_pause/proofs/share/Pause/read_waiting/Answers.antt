use Rattle.std.proofs.Common.{◌∙◌, ◌-◌, refl, sym, ap, subst, arith}
use Rattle.std.proofs.lemmas.Option.{same_Some}
use Rattle.block_map.specs.declared.found.Found.{Found}
use Rattle.block_map.specs.Objects.{IsPlaced}
use Rattle.final_pause.specs.declared.waiting.Unread.{Unread}
use Rattle.final_pause.specs.Pauses.{pause_view}
use Rattle.final_pause.specs.Helping.{found, QueuesObject}
use Rattle.final_pause.proofs.Serving.{serves_pop, serves_left, serves_trans, waiting_words}
use Rattle.final_pause.proofs.share.Pause.read_waiting.Goals as goal

pub take-requires : goal.take-requires
take-requires g c = waiting_words (pause_view c.args.self.now) c.loop-unread.helper c.loop-unread.invariant.serving

pub object_at-requires : goal.object_at-requires
object_at-requires g c =
    let p = pause_view c.args.self.now in let q = c.loop-unread.invariant.serving.queued c.in-Some.unread c.in-Some.ensures.was in
    let base = ap (λ (o : Unread). o.base) q.same in
    record { base = (q.object, ap (found p) (sym base) ∙ q.is, base) }

pub put_off-requires-clause-placed : goal.put_off-requires-clause-placed
put_off-requires-clause-placed g c =
    let s = c.loop-unread.invariant.serving in let f = c.object_at.result in
    subst (λ n. IsPlaced n f) (sym s.fits.dirty) (s.fits.ready.map.placed c.in-Some.unread.base f c.object_at.ensures.object)

pub read_whole-requires-clause-object : goal.read_whole-requires-clause-object
read_whole-requires-clause-object g c κs within =
    let q = c.loop-unread.invariant.serving.queued c.in-Some.unread c.in-Some.ensures.was in (q.object, q.is, q.same)

pub loop-unread-preserved-then-words-helper : goal.loop-unread-preserved-then-words-helper
loop-unread-preserved-then-words-helper g c =
    let p = pause_view c.args.self.now in let h = c.loop-unread.helper in let inv = c.loop-unread.invariant in
    let m = record h { waiting = c.take.new.self } in let b = c.put_off.new.helper in
    let q = inv.serving.queued c.in-Some.unread c.in-Some.ensures.was in let base = ap (λ (o : Unread). o.base) q.same in
    let is = same_Some c.object_at.result q.object (sym c.object_at.ensures.object ∙ (ap (found p) (sym base) ∙ q.is)) in
    serves_trans p c.args.helper.now h b inv
    (serves_left p inv.serving.fits.ready.map h m c.in-Some.unread refl refl refl refl c.in-Some.ensures inv.serving q
    b (subst (λ (f : Found). QueuesObject f m b) is c.put_off.ensures.queued) c.put_off.ensures.waiting)

pub loop-unread-preserved : goal.loop-unread-preserved
loop-unread-preserved g c =
    let p = pause_view c.args.self.now in let h = c.loop-unread.helper in let inv = c.loop-unread.invariant in
    let m = record h { waiting = c.take.new.self; left = c.loop-unread.helper.left - c.from-words.result } in let b = c.read_whole.new.helper in
    let q = inv.serving.queued c.in-Some.unread c.in-Some.ensures.was in
    serves_trans p c.args.helper.now h b inv
    (serves_pop p inv.serving.fits.ready.map h m c.in-Some.unread refl refl refl refl c.in-Some.ensures inv.serving q
    b (c.read_whole.ensures q.object q.is q.same))

pub loop-unread-smaller : goal.loop-unread-smaller
loop-unread-smaller g c =
    let q = c.loop-unread.invariant.serving.queued c.in-Some.unread c.in-Some.ensures.was in
    let left = (c.read_whole.ensures q.object q.is q.same).extends.left in let size = c.in-Some.ensures.size in
    omega (arith, left, size)
