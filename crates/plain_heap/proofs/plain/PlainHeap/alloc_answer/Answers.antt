use Rattle.std.proofs.Common.{sym, ap, ◌∙◌}
use Rattle.words.specs.Placing.{placement_of}
use Rattle.plain_heap.specs.PlainContents.{PlainContents}
use Rattle.heap_spec.specs.Steps.{Acts}
use Rattle.plain_heap.proofs.Alloc.{limit_is}
use Rattle.plain_heap.proofs.Rooms.{room_of, place_of}
use Rattle.plain_heap.proofs.plain.PlainHeap.alloc_answer.Goals as goal

pub returns-in_default : goal.returns-in_default
returns-in_default c m into s h slot = (s, Acts.bad_size (limit_is _ s c.args.words h ∙ sym (c.placement.ensures.placement ∙ ap (λ (x : PlainContents). placement_of x.roots.request_words c.args.words) c.self.view_is) ∙ c.in_default.is))

pub returns-in_default-place_for : goal.returns-in_default-place_for
returns-in_default-place_for c = rw (← c.self.view_is)
    (let none = c.in_default-place_for.ensures.none in
    λ m into s h slot. (s, Acts.full (limit_is _ s c.args.words h ∙ sym c.placement.ensures.placement ∙ c.in-Some.is) (λ a room. none a (place_of _ c.self.invariant.0 s h _ _ a room))))

pub returns : goal.returns
returns c = rw (← c.self.view_is)
    (let room = c.in-Some-place_for.ensures.some.2 in
    λ m into s h slot. (_, Acts.allocated _ (limit_is _ s c.args.words h ∙ sym c.placement.ensures.placement ∙ c.in-Some.is) (room_of _ c.self.invariant.0 s h _ _ _ room)))
