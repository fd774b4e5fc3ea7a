use Rattle.std.proofs.Common.{refl, arith}
use Rattle.plain_heap.proofs.Alloc.{fits_by}
use Rattle.plain_heap.proofs.Anywhere.{put_anywhere, cant_anywhere, cant_attached}
use Rattle.plain_heap.proofs.plain.PlainHeap.alloc_anywhere.Goals as goal

pub returns-in_default-clause-no : goal.returns-in_default-clause-no
returns-in_default-clause-no c refused = rw (← c.self.view_is) (cant_attached _ c.self.invariant.0 _ _ _ _ _ _ (rw (← c.self.view_is) at c.in_default.ensures.none))

pub returns-then-object-words-clause-no : goal.returns-then-object-words-clause-no
returns-then-object-words-clause-no c refused = rw (← c.self.view_is) (cant_anywhere _ c.self.invariant.0 _ _ _ _ _ _ (λ few fits. omega arith))

pub returns-then-not-may_be_put-clause-no : goal.returns-then-not-may_be_put-clause-no
returns-then-not-may_be_put-clause-no c refused =
    rw (← c.self.view_is) (cant_anywhere _ c.self.invariant.0 _ _ _ _ _ _ (λ few fits. c.may_be_put.ensures.no c.if-not-may_be_put.true fits.in_heap fits.fresh))

pub put-requires-clause-fits : goal.put-requires-clause-fits
put-requires-clause-fits c = let yes = c.may_be_put.ensures.yes c.if-not-may_be_put.false in fits_by _ _ c.self.view_is _ yes.0 yes.1

pub returns-clause-yes : goal.returns-clause-yes
returns-clause-yes c done =
    let yes = c.may_be_put.ensures.yes c.if-not-may_be_put.false in
    rw (← c.self.view_is) (put_anywhere _ c.self.invariant.0 _ _ _ _ _ _ _ c.in-Some.field-0.now (rw (← c.self.view_is) at c.in-Some.ensures.some) (omega arith)
    (fits_by _ _ refl _ yes.0 yes.1) (rw (← c.self.view_is) at c.put.ensures.put))
