use Rattle.std.proofs.Common.{ap, subst, ◌∙◌}
use Rattle.heap_spec.specs.Steps.{Acts, address}
use Rattle.links.specs.Rows.{HasRowRoom, LacksRowRoom}
use Rattle.plain_heap.specs.PlainContents.{PlainContents}
use Rattle.plain_heap.proofs.Linking.{room_for, full_acts}
use Rattle.plain_heap.proofs.plain.PlainHeap.link_answer.Goals as goal

pub returns-then-address-ne0 : goal.returns-then-address-ne0
returns-then-address-ne0 c s h slot = (s, Acts.link_misaligned (rw c.address-address.ensures at c.if-address-ne0.true))

pub returns-in_default : goal.returns-in_default
returns-in_default c s h slot = (s, Acts.link_nowhere (rw c.address-address.ensures at c.if-address-ne0.false) (rw c.address-address.ensures at (c.in_default.ensures.none s h)))

pub returns-then-is_normal : goal.returns-then-is_normal
returns-then-is_normal c s h slot =
    let holder = rw c.address-address.ensures at (c.in-Some.ensures.some s h) in
    (s, Acts.link_in_normal (rw c.address-address.ensures at c.if-address-ne0.false) holder.1 (holder.3 ∙ c.if-is_normal.ensures))

pub returns-in_default-found : goal.returns-in_default-found
returns-in_default-found c s h slot =
    let holder = rw c.address-address.ensures at (c.in-Some.ensures.some s h) in
    (s, Acts.link_to_nothing (rw c.address-address.ensures at c.if-address-ne0.false) holder.1 (holder.3 ∙ c.if-is_normal.ensures) (rw c.word-word.ensures at (c.in_default-found.ensures.none s h)))

pub returns-then-not-has_room : goal.returns-then-not-has_room
returns-then-not-has_room c s h slot =
    let holder = rw c.address-address.ensures at (c.in-Some.ensures.some s h) in
    let object = rw c.word-word.ensures at (c.in-Some-found.ensures.some s h) in (
      s,
      full_acts c.args.self.now s h slot _ _ _ _ _ c.args.mutator.now holder.0 object.0 (rw c.address-address.ensures at c.if-address-ne0.false) holder.1 (holder.3 ∙ c.if-is_normal.ensures) object.1
          (subst (λ row. LacksRowRoom row (address c.args.mutator.now c.args.at c.args.offset)) (ap (λ (x : PlainContents). x.links) c.self.view_is) (rw c.address-address.ensures at c.if-not-has_room.ensures)),
    )

pub returns : goal.returns
returns c s h slot =
    let holder = rw c.address-address.ensures at (c.in-Some.ensures.some s h) in
    let object = rw c.word-word.ensures at (c.in-Some-found.ensures.some s h) in (
      _,
      Acts.linked (rw c.address-address.ensures at c.if-address-ne0.false) holder.1 (holder.3 ∙ c.if-is_normal.ensures) object.1
          (room_for c.args.self.now s _ h (subst (λ row. HasRowRoom row (address c.args.mutator.now c.args.at c.args.offset)) (ap (λ (x : PlainContents). x.links) c.self.view_is) (rw c.address-address.ensures at c.if-not-has_room.ensures))),
    )
