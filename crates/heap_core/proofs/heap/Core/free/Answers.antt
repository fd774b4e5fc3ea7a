use Rattle.std.proofs.Common.{◌≡◌, Some, sym, refl, subst, arith}
use Rattle.heap_spec.specs.declared.call.Call.TheVariants.{Free}
use Rattle.heap_spec.specs.declared.reply.Reply.TheVariants.{Done}
use Rattle.heap_spec.specs.Steps.{Acts}
use Rattle.heap_core.proofs.Tracing.{traced_freed}
use Rattle.heap_core.proofs.Along.{traced_along}
use Rattle.block_map.specs.FoundIn.{found_in}
use Rattle.heap_core.proofs.Calls.{freed, inside, kept_there}
use Rattle.heap_core.proofs.Lookups.{finds_nothing}
use Rattle.roots.proofs.Refusals.{handed_on}
use Rattle.heap_core.proofs.Roots.{refused, refused_vacant}
use Rattle.heap_core.proofs.Legal.{legal_called}
use Rattle.heap_core.proofs.heap.Core.free.Goals as goal

pub returns-in_err-mutator : goal.returns-in_err-mutator
returns-in_err-mutator c = rw (← c.self.view_is, handed_on _ _ _ c.from_residual.ensures.1 c.in_err-mutator.ensures.err.0) (refused_vacant _ _ _ c.in_err-mutator.ensures.err.1)

pub returns-in_err-found : goal.returns-in_err-found
returns-in_err-found c = rw (← c.self.view_is, handed_on _ _ _ c.from_residual-in_err-found.ensures.1 c.in_err-found.ensures.err.0)
    (refused _ _ _ _ c.in_ok-mutator.mutator.now _ _ c.in_ok-mutator.ensures.ok (λ h. h)
    (λ s h. Acts.free_nothing (finds_nothing _ _ s _ c.in_err-found.ensures.lawful h (rw c.word-word.ensures at (sym c.in_err-found.ensures.err.1)))))

pub returns-then-found-word : goal.returns-then-found-word
returns-then-found-word c = rw (← c.self.view_is)
    (refused _ _ _ _ c.in_ok-mutator.mutator.now _ _ c.in_ok-mutator.ensures.ok (λ h. h)
    (λ s h. inside _ _ s _ _ _ c.in_ok-found.found c.in_ok-found.ensures.lawful (rw c.word-word.ensures at (sym c.in_ok-found.ensures.ok)) (rw c.word-word.ensures at c.if-found-word.true) h))

pub release-requires-clause-found : goal.release-requires-clause-found
release-requires-clause-found c = kept_there c.self.inside.objects c.self.inside.marker.marks _ c.in_ok-found.found c.if-found-word.false (sym c.in_ok-found.ensures.ok)

pub note_free-requires-clause-low : goal.note_free-requires-clause-low
note_free-requires-clause-low c =
    let there = kept_there c.self.inside.objects c.self.inside.marker.marks _ c.in_ok-found.found c.if-found-word.false (sym c.in_ok-found.ensures.ok) in
    let above = (c.in_ok-found.ensures.lawful.map.placed _ c.in_ok-found.found there).above in let base = c.if-found-word.false in omega arith

pub note_free-requires-clause-inside : goal.note_free-requires-clause-inside
note_free-requires-clause-inside c =
    let there = kept_there c.self.inside.objects c.self.inside.marker.marks _ c.in_ok-found.found c.if-found-word.false (sym c.in_ok-found.ensures.ok) in
    let p = c.in_ok-found.ensures.lawful.map.placed _ c.in_ok-found.found there in
    let above = p.above in let below = p.below in let some = p.some in let base = c.if-found-word.false in let size = c.laws.ensures.marks in let pages = c.self.invariant.traced.pages in omega arith

pub invariant_of-self : goal.invariant_of-self
invariant_of-self c =
    let there = kept_there c.self.inside.objects c.self.inside.marker.marks _ c.in_ok-found.found c.if-found-word.false (sym c.in_ok-found.ensures.ok) in
    legal_called _ _ c.self.invariant
    (traced_along _ _ _ _ _ c.take_along.ensures.lawful.map (traced_freed _ _ (record { marker = c.self.inside.marker; is_marking = c.self.inside.is_marking; needs_full = c.self.inside.needs_full; count = c.self.inside.count; reads = c.self.inside.reads }) _ c.in_ok-found.found c.self.invariant.traced (c.note_free.ensures.objects (found_in c.self.inside.objects.states) (found_in c.release.new.self.states) c.in_ok-found.found c.if-found-word.false (subst (λ w. found_in c.self.inside.objects.states w ≡ Some c.in_ok-found.found) c.if-found-word.false there) c.release.ensures.removed) c.in_ok-found.ensures.lawful.map there c.release.ensures
    (rw (sym c.if-found-word.false) at c.note_free.ensures.freed) refl c.note_free.ensures.needs (rw (sym c.if-found-word.false) at c.note_free.ensures.keeps)) c.take_along.ensures.along)
    c.args.slot (Free c.args.reg) Done tt
    (freed _ _ _ _ _ _ _ _ _ c.in_ok-mutator.mutator.now c.in_ok-found.found c.in_ok-found.ensures.lawful c.in_ok-mutator.ensures.ok
    (rw c.word-word.ensures at (sym c.in_ok-found.ensures.ok)) (rw c.word-word.ensures at c.if-found-word.false) c.release.ensures (rw (sym c.if-found-word.false) at c.note_free.ensures.freed) refl refl refl c.take_along.ensures.lawful c.take_along.ensures.along c.take_along.ensures.links c.note_free.ensures.needs)

pub returns : goal.returns
returns c = rw (← c.self.view_is)
    (freed _ _ _ _ _ _ _ _ _ c.in_ok-mutator.mutator.now c.in_ok-found.found c.in_ok-found.ensures.lawful c.in_ok-mutator.ensures.ok
    (rw c.word-word.ensures at (sym c.in_ok-found.ensures.ok)) (rw c.word-word.ensures at c.if-found-word.false) c.release.ensures (rw (sym c.if-found-word.false) at c.note_free.ensures.freed) refl refl refl c.take_along.ensures.lawful c.take_along.ensures.along c.take_along.ensures.links c.note_free.ensures.needs)
