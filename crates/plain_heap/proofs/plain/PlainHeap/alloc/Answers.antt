use Rattle.std.proofs.Common.{sym, ap, ◌∙◌, subst}
use Rattle.words.specs.Placing.{placement_of}
use Rattle.heap_spec.specs.Steps.{Acts}
use Rattle.plain_heap.specs.PlainContents.{PlainContents, IsLaidOut, ArePlaced}
use Rattle.plain_heap.specs.Standing.{StandsFor}
use Rattle.roots.proofs.Refusals.{handed_on_none}
use Rattle.plain_heap.proofs.Stands.{refused_vacant, keeps_all}
use Rattle.plain_heap.proofs.Rooms.{place_of}
use Rattle.plain_heap.proofs.Alloc.{fits_by, limit_is, may_have, put_steps}
use Rattle.plain_heap.proofs.Placed.{placed_soundly}
use Rattle.plain_heap.proofs.plain.PlainHeap.alloc.Goals as goal

pub returns-in_err-ok_or-clause-step : goal.returns-in_err-ok_or-clause-step
returns-in_err-ok_or-clause-step c _ = rw (handed_on_none _ _ _ _ c.from_residual.ensures.1 c.in_err-ok_or.ensures.value)
    (refused_vacant _ _ _ (rw c.in_err-ok_or.ensures.ok_part at c.mutator.ensures.none))

pub returns-in_err-placement-clause-step : goal.returns-in_err-placement-clause-step
returns-in_err-placement-clause-step c _ = rw (handed_on_none _ _ _ _ c.from_residual-in_err-placement.ensures.1 c.in_err-placement.ensures.value)
    (keeps_all _ _ _ _ c.in_ok-ok_or.field-0.now (rw c.in_ok-ok_or.ensures.ok_part at c.mutator.ensures.some) (λ s h. Acts.bad_size (limit_is _ s c.args.words h ∙ sym (c.placement.ensures.placement ∙ ap (λ (x : PlainContents). placement_of x.roots.request_words c.args.words) c.self.view_is) ∙ c.in_err-placement.ensures.ok_part)))

pub returns-in_err-object-clause-step : goal.returns-in_err-object-clause-step
returns-in_err-object-clause-step c _ =
    let none = rw c.in_err-object.ensures.ok_part at c.place_for.ensures.none in
    rw (handed_on_none _ _ _ _ c.from_residual-in_err-object.ensures.1 c.in_err-object.ensures.value)
    (keeps_all _ _ _ _ c.in_ok-ok_or.field-0.now (rw c.in_ok-ok_or.ensures.ok_part at c.mutator.ensures.some)
    (λ s h. Acts.full (limit_is _ s c.args.words h ∙ sym (c.placement.ensures.placement ∙ ap (λ (x : PlainContents). placement_of x.roots.request_words c.args.words) c.self.view_is) ∙ c.in_ok-placement.ensures.ok_part) (λ a room. none a (place_of _ c.self.invariant.0 s (subst (λ (x : PlainContents). StandsFor x s) (sym c.self.view_is) h) _ _ a room))))

pub returns-then-not-may_be_put-clause-step : goal.returns-then-not-may_be_put-clause-step
returns-then-not-may_be_put-clause-step c soundly =
    let some = rw c.in_ok-object.ensures.ok_part at c.place_for.ensures.some in
    let fits = may_have _ c.self.invariant.0 c.args.words _ _ c.in_ok-object.object (subst ArePlaced (sym c.self.view_is) (placed_soundly _ (subst IsLaidOut c.self.view_is c.self.invariant.0) soundly)) (sym c.placement.ensures.placement ∙ c.in_ok-placement.ensures.ok_part) some.1 some.2 in
    absurd (c.may_be_put.ensures.no c.if-not-may_be_put.true fits.in_heap fits.fresh)

pub put-requires-clause-fits : goal.put-requires-clause-fits
put-requires-clause-fits c = let yes = c.may_be_put.ensures.yes c.if-not-may_be_put.false in fits_by _ _ c.self.view_is _ yes.0 yes.1

pub returns-clause-step : goal.returns-clause-step
returns-clause-step c _ =
    let some = rw c.in_ok-object.ensures.ok_part at c.place_for.ensures.some in
    let at = rw c.in_ok-ok_or.ensures.ok_part at c.mutator.ensures.some in
    let is = sym c.placement.ensures.placement ∙ c.in_ok-placement.ensures.ok_part in
    rw (← c.self.view_is) (put_steps _ _ c.self.invariant.0 _ _ c.args.words _ _ c.in_ok-object.object c.in_ok-ok_or.field-0.now (rw (← c.self.view_is) at at) is some.0 some.1 some.2 (rw (← c.self.view_is) at c.put.ensures.put))
