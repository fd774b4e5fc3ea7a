use Rattle.std.proofs.Common.{sym, ap, ◌∙◌}
use Rattle.words.specs.Placing.{placement_of}
use Rattle.plain_heap.specs.PlainContents.{PlainContents}
use Rattle.plain_heap.proofs.Anywhere.{refuse_vacant, refuse_full, refuse_size, not_vacant, not_refused}
use Rattle.plain_heap.proofs.plain.PlainHeap.may_refuse.Goals as goal

pub returns-in_default-clause-yes : goal.returns-in_default-clause-yes
returns-in_default-clause-yes c done = refuse_vacant _ _ _ _ c.in_default.ensures.none (c.is_same.ensures.yes done)

pub returns-in_default-clause-no : goal.returns-in_default-clause-no
returns-in_default-clause-no c refused = not_vacant _ _ _ _ c.in_default.ensures.none (c.is_same.ensures.no refused)

pub returns-then-is_same-clause-yes : goal.returns-then-is_same-clause-yes
returns-then-is_same-clause-yes c done = refuse_full _ _ _ _ c.in-Some.field-0.now c.in-Some.ensures.some (c.is_same-2.ensures.yes c.if-is_same.true)

pub returns-in_default-placement-clause-no : goal.returns-in_default-placement-clause-no
returns-in_default-placement-clause-no c refused =
    not_refused _ _ _ _ c.in-Some.field-0.now c.in-Some.ensures.some (c.is_same-2.ensures.no c.if-is_same.false) (λ none is. c.in_default-placement.not-None ((c.placement.ensures.placement ∙ ap (λ (x : PlainContents). placement_of x.roots.request_words c.args.words) c.self.view_is) ∙ none))

pub returns-clause-yes : goal.returns-clause-yes
returns-clause-yes c done = refuse_size _ _ _ _ c.in-Some.field-0.now c.in-Some.ensures.some (sym (c.placement.ensures.placement ∙ ap (λ (x : PlainContents). placement_of x.roots.request_words c.args.words) c.self.view_is) ∙ c.in-None.is) (c.is_same-3.ensures.yes done)

pub returns-clause-no : goal.returns-clause-no
returns-clause-no c refused = not_refused _ _ _ _ c.in-Some.field-0.now c.in-Some.ensures.some (c.is_same-2.ensures.no c.if-is_same.false) (λ none. c.is_same-3.ensures.no refused)
