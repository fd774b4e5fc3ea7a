use Rattle.std.proofs.Common.{◌∙◌}
use Rattle.heap_spec.specs.Steps.{Acts}
use Rattle.roots.proofs.Refusals.{handed_on}
use Rattle.plain_heap.proofs.Stands.{refused_vacant, keeps_all}
use Rattle.plain_heap.proofs.Objects.{reads_object, reads_nothing}
use Rattle.plain_heap.proofs.Linking.{full_acts, linked}
use Rattle.plain_heap.proofs.plain.PlainHeap.link.Goals as goal

pub returns-in_err-mutator-clause-step : goal.returns-in_err-mutator-clause-step
returns-in_err-mutator-clause-step c = rw (← c.self.view_is, handed_on _ _ _ c.from_residual.ensures.1 c.in_err-mutator.ensures.err.0) (refused_vacant _ _ _ c.in_err-mutator.ensures.err.1)

pub returns-then-address-ne0-clause-step : goal.returns-then-address-ne0-clause-step
returns-then-address-ne0-clause-step c =
    rw (← c.self.view_is)
    (keeps_all _ _ _ _ c.in_ok-mutator.mutator.now c.in_ok-mutator.ensures.ok (λ s h. Acts.link_misaligned (rw c.address-address.ensures at c.if-address-ne0.true)))

pub returns-in_err-holder-clause-step : goal.returns-in_err-holder-clause-step
returns-in_err-holder-clause-step c =
    rw (← c.self.view_is, handed_on _ _ _ c.from_residual-in_err-holder.ensures.1 c.in_err-holder.ensures.err.0)
    (let none = rw c.address-address.ensures at c.in_err-holder.ensures.err.1 in
    keeps_all _ _ _ _ c.in_ok-mutator.mutator.now c.in_ok-mutator.ensures.ok (λ s h. Acts.link_nowhere (rw c.address-address.ensures at c.if-address-ne0.false) (reads_nothing _ c.self.invariant.0 s h _ none)))

pub returns-then-is_normal-clause-step : goal.returns-then-is_normal-clause-step
returns-then-is_normal-clause-step c =
    rw (← c.self.view_is)
    (keeps_all _ _ _ _ c.in_ok-mutator.mutator.now c.in_ok-mutator.ensures.ok (λ s h.
    let holder = reads_object _ c.self.invariant.0 s h c.in_ok-holder.holder c.in_ok-holder.ensures.ok.0 _ (rw c.address-address.ensures at c.in_ok-holder.ensures.ok.1) in
    Acts.link_in_normal (rw c.address-address.ensures at c.if-address-ne0.false) holder.1 (holder.3 ∙ c.if-is_normal.ensures)))

pub returns-in_err-named-clause-step : goal.returns-in_err-named-clause-step
returns-in_err-named-clause-step c =
    rw (← c.self.view_is, handed_on _ _ _ c.from_residual-in_err-named.ensures.1 c.in_err-named.ensures.err.0)
    (let none = rw c.word-word.ensures at c.in_err-named.ensures.err.1 in
    keeps_all _ _ _ _ c.in_ok-mutator.mutator.now c.in_ok-mutator.ensures.ok (λ s h.
    let holder = reads_object _ c.self.invariant.0 s h c.in_ok-holder.holder c.in_ok-holder.ensures.ok.0 _ (rw c.address-address.ensures at c.in_ok-holder.ensures.ok.1) in
    Acts.link_to_nothing (rw c.address-address.ensures at c.if-address-ne0.false) holder.1 (holder.3 ∙ c.if-is_normal.ensures) (reads_nothing _ c.self.invariant.0 s h _ none)))

pub returns-then-not-has_room-clause-step : goal.returns-then-not-has_room-clause-step
returns-then-not-has_room-clause-step c =
    rw (← c.self.view_is)
    (keeps_all _ _ _ _ c.in_ok-mutator.mutator.now c.in_ok-mutator.ensures.ok (λ s h.
    let holder = reads_object _ c.self.invariant.0 s h c.in_ok-holder.holder c.in_ok-holder.ensures.ok.0 _ (rw c.address-address.ensures at c.in_ok-holder.ensures.ok.1) in
    let object = reads_object _ c.self.invariant.0 s h c.in_ok-named.named c.in_ok-named.ensures.ok.0 _ (rw c.word-word.ensures at c.in_ok-named.ensures.ok.1) in
    full_acts _ s h _ _ _ _ _ _ c.in_ok-mutator.mutator.now holder.0 object.0 (rw c.address-address.ensures at c.if-address-ne0.false) holder.1 (holder.3 ∙ c.if-is_normal.ensures) object.1
    (rw c.address-address.ensures at c.if-not-has_room.ensures)))

pub returns-clause-step : goal.returns-clause-step
returns-clause-step c =
    rw (← c.self.view_is, c.link.ensures, c.address-address.ensures)
    (linked _ c.self.invariant.0 _ _ _ _ c.in_ok-mutator.mutator.now c.in_ok-holder.holder c.in_ok-named.named c.in_ok-mutator.ensures.ok (rw c.address-address.ensures at c.if-address-ne0.false)
    c.in_ok-holder.ensures.ok.0 (rw c.address-address.ensures at c.in_ok-holder.ensures.ok.1) c.if-is_normal.ensures
    c.in_ok-named.ensures.ok.0 (rw c.word-word.ensures at c.in_ok-named.ensures.ok.1) (rw c.address-address.ensures at c.if-not-has_room.ensures))
