use Rattle.std.proofs.Common.{sym, ◌∙◌}
use Rattle.heap_spec.specs.declared.call.Call.TheVariants.{Link}
use Rattle.heap_spec.specs.declared.reply.Reply.TheVariants.{Done}
use Rattle.heap_spec.specs.Steps.{Acts}
use Rattle.roots.proofs.Refusals.{handed_on}
use Rattle.heap_core.proofs.Roots.{refused, refused_vacant}
use Rattle.heap_core.proofs.Lookups.{finds, finds_nothing}
use Rattle.heap_core.proofs.Linking.{linked, no_room}
use Rattle.heap_core.proofs.Legal.{legal_called}
use Rattle.heap_core.proofs.heap.Core.link.Goals as goal

pub returns-in_err-mutator : goal.returns-in_err-mutator
returns-in_err-mutator c = rw (← c.self.view_is, handed_on _ _ _ c.from_residual.ensures.1 c.in_err-mutator.ensures.err.0) (refused_vacant _ _ _ c.in_err-mutator.ensures.err.1)

pub returns-then-address-ne0 : goal.returns-then-address-ne0
returns-then-address-ne0 c = rw (← c.self.view_is)
    (refused _ _ _ _ c.in_ok-mutator.mutator.now _ _ c.in_ok-mutator.ensures.ok (λ h. h) (λ s h. Acts.link_misaligned (rw c.address-address.ensures at c.if-address-ne0.true)))

pub returns-in_err-holder : goal.returns-in_err-holder
returns-in_err-holder c = rw (← c.self.view_is, handed_on _ _ _ c.from_residual-in_err-holder.ensures.1 c.in_err-holder.ensures.err.0)
    (refused _ _ _ _ c.in_ok-mutator.mutator.now _ _ c.in_ok-mutator.ensures.ok (λ h. h)
    (λ s h. Acts.link_nowhere (rw c.address-address.ensures at c.if-address-ne0.false) (finds_nothing _ _ s _ c.in_err-holder.ensures.lawful h (rw c.address-address.ensures at (sym c.in_err-holder.ensures.err.1)))))

pub returns-then-is_normal : goal.returns-then-is_normal
returns-then-is_normal c = rw (← c.self.view_is)
    (refused _ _ _ _ c.in_ok-mutator.mutator.now _ _ c.in_ok-mutator.ensures.ok (λ h. h)
    (λ s h. let f = finds _ _ s _ c.in_ok-holder.holder c.in_ok-holder.ensures.lawful h (rw c.address-address.ensures at (sym c.in_ok-holder.ensures.ok)) in
    Acts.link_in_normal (rw c.address-address.ensures at c.if-address-ne0.false) f.1 (f.2.kind ∙ c.if-is_normal.ensures)))

pub returns-in_err-named : goal.returns-in_err-named
returns-in_err-named c = rw (← c.self.view_is, handed_on _ _ _ c.from_residual-in_err-named.ensures.1 c.in_err-named.ensures.err.0)
    (refused _ _ _ _ c.in_ok-mutator.mutator.now _ _ c.in_ok-mutator.ensures.ok (λ h. h)
    (λ s h. let f = finds _ _ s _ c.in_ok-holder.holder c.in_ok-holder.ensures.lawful h (rw c.address-address.ensures at (sym c.in_ok-holder.ensures.ok)) in
    Acts.link_to_nothing (rw c.address-address.ensures at c.if-address-ne0.false) f.1 (f.2.kind ∙ c.if-is_normal.ensures)
    (finds_nothing _ _ s _ c.in_err-named.ensures.lawful h (rw c.word-word.ensures at (sym c.in_err-named.ensures.err.1)))))

pub returns-then-not-has_room : goal.returns-then-not-has_room
returns-then-not-has_room c = rw (← c.self.view_is)
    (no_room _ _ _ _ _ _ _ _ c.in_ok-mutator.mutator.now c.in_ok-holder.holder c.in_ok-named.named c.in_ok-holder.ensures.lawful c.in_ok-mutator.ensures.ok
    (rw c.address-address.ensures at c.if-address-ne0.false) (rw c.address-address.ensures at (sym c.in_ok-holder.ensures.ok)) c.if-is_normal.ensures (rw c.word-word.ensures at (sym c.in_ok-named.ensures.ok))
    c.if-not-has_room.ensures.full (rw c.address-address.ensures at c.if-not-has_room.ensures.free))

pub returns : goal.returns
returns c = rw (← c.self.view_is, c.link.ensures, c.address-address.ensures)
    (linked _ _ _ _ _ _ _ _ c.in_ok-mutator.mutator.now c.in_ok-holder.holder c.in_ok-named.named c.in_ok-holder.ensures.lawful c.in_ok-mutator.ensures.ok
    (rw c.address-address.ensures at c.if-address-ne0.false) (rw c.address-address.ensures at (sym c.in_ok-holder.ensures.ok)) c.if-is_normal.ensures (rw c.word-word.ensures at (sym c.in_ok-named.ensures.ok))
    (rw c.address-address.ensures at c.if-not-has_room.ensures))

pub invariant_of-self : goal.invariant_of-self
invariant_of-self c = rw (c.link.ensures, c.address-address.ensures)
    (legal_called _ _ c.self.invariant c.self.invariant.traced c.args.slot (Link c.args.at c.args.offset c.args.to) Done tt
    (linked _ _ _ _ _ _ _ _ c.in_ok-mutator.mutator.now c.in_ok-holder.holder c.in_ok-named.named c.in_ok-holder.ensures.lawful c.in_ok-mutator.ensures.ok
    (rw c.address-address.ensures at c.if-address-ne0.false) (rw c.address-address.ensures at (sym c.in_ok-holder.ensures.ok)) c.if-is_normal.ensures (rw c.word-word.ensures at (sym c.in_ok-named.ensures.ok))
    (rw c.address-address.ensures at c.if-not-has_room.ensures)))
