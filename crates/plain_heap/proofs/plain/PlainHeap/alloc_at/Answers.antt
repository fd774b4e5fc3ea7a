use Rattle.std.proofs.Common.{sym, ap, ◌∙◌}
use Rattle.words.specs.Placing.{placement_of}
use Rattle.plain_heap.specs.PlainContents.{PlainContents}
use Rattle.plain_heap.proofs.Alloc.{cant_place, cant_size, cant_call, cant_share, fits_by, put_at}
use Rattle.plain_heap.proofs.plain.PlainHeap.alloc_at.Goals as goal

pub returns-in_default-clause-no : goal.returns-in_default-clause-no
returns-in_default-clause-no c refused = cant_call _ _ _ _ _ _ c.in_default.ensures.none

pub returns-in_default-placement-clause-no : goal.returns-in_default-placement-clause-no
returns-in_default-placement-clause-no c refused = cant_size _ _ _ _ _ _ (sym (c.placement.ensures.placement ∙ ap (λ (x : PlainContents). placement_of x.roots.request_words c.args.words) c.self.view_is) ∙ c.in_default-placement.is)

pub returns-in_default-place_at-clause-no : goal.returns-in_default-place_at-clause-no
returns-in_default-place_at-clause-no c refused =
    rw (← c.self.view_is) (cant_place _ c.self.invariant.0 _ _ _ _ _ c.in-Some-placement.placement (sym c.placement.ensures.placement ∙ c.in-Some-placement.is) c.in_default-place_at.ensures.none)

pub returns-then-not-may_be_put-clause-no : goal.returns-then-not-may_be_put-clause-no
returns-then-not-may_be_put-clause-no c refused =
    let some = c.in-Some-place_at.ensures.some in
    let room = some.3 in
    rw (← c.self.view_is)
    (cant_share _ c.self.invariant.0 _ _ c.args.words _ _ _ c.in-Some-place_at.object (sym c.placement.ensures.placement ∙ c.in-Some-placement.is) some.2 some.0 room
    (λ fits. c.may_be_put.ensures.no c.if-not-may_be_put.true fits.in_heap fits.fresh))

pub put-requires-clause-fits : goal.put-requires-clause-fits
put-requires-clause-fits c = let yes = c.may_be_put.ensures.yes c.if-not-may_be_put.false in fits_by _ _ c.self.view_is _ yes.0 yes.1

pub returns-clause-yes : goal.returns-clause-yes
returns-clause-yes c done =
    let some = c.in-Some-place_at.ensures.some in
    let room = some.3 in
    let is = sym c.placement.ensures.placement ∙ c.in-Some-placement.is in
    rw (← c.self.view_is) (put_at _ _ c.self.invariant.0 _ _ c.args.words _ _ _ c.in-Some-place_at.object c.in-Some.field-0.now (rw (← c.self.view_is) at c.in-Some.ensures.some) is some.1 some.2 some.0 room (rw (← c.self.view_is) at c.put.ensures.put))
