use Rattle.std.proofs.Common.{refl, sym, arith}
use Rattle.block_map.specs.FoundIn.{found_in}
use Rattle.object_space.specs.Kept.{is_kept}
use Rattle.heap_core.proofs.Tracing.{traced_write}
use Rattle.heap_spec.specs.declared.call.Call.TheVariants.{Store}
use Rattle.heap_spec.specs.declared.reply.Reply.TheVariants.{Done}
use Rattle.heap_spec.specs.Steps.{Acts}
use Rattle.object_space.proofs.Kept.{kept_cases, kept_map}
use Rattle.roots.proofs.Refusals.{handed_on}
use Rattle.heap_core.proofs.Roots.{refused, refused_vacant}
use Rattle.heap_view.proofs.Shows.{is_word}
use Rattle.heap_core.proofs.Lookups.{finds_nothing, stores}
use Rattle.heap_core.proofs.Legal.{legal_called}
use Rattle.heap_core.proofs.heap.Core.store.Goals as goal

pub returns-in_err-mutator : goal.returns-in_err-mutator
returns-in_err-mutator c = rw (← c.self.view_is, handed_on _ _ _ c.from_residual.ensures.1 c.in_err-mutator.ensures.err.0) (refused_vacant _ _ _ c.in_err-mutator.ensures.err.1)

pub returns-then-target-ne0 : goal.returns-then-target-ne0
returns-then-target-ne0 c = rw (← c.self.view_is)
    (refused _ _ _ _ c.in_ok-mutator.mutator.now _ _ c.in_ok-mutator.ensures.ok (λ h. h) (λ s h. Acts.store_misaligned (rw c.address-target.ensures at c.if-target-ne0.true)))

pub returns-in_err-find_in : goal.returns-in_err-find_in
returns-in_err-find_in c = rw (← c.self.view_is, handed_on _ _ _ c.from_residual-in_err-find_in.ensures.1 c.in_err-find_in.ensures.err.0)
    (refused _ _ _ _ c.in_ok-mutator.mutator.now _ _ c.in_ok-mutator.ensures.ok (λ h. h)
    (λ s h. Acts.store_nothing (rw c.address-target.ensures at c.if-target-ne0.false) (finds_nothing _ _ s _ c.in_err-find_in.ensures.lawful h (rw c.address-target.ensures at (sym c.in_err-find_in.ensures.err.1)))))

pub write-requires-clause-address : goal.write-requires-clause-address
write-requires-clause-address c = is_word _ _ (kept_map _ _ _ c.in_ok-find_in.ensures.lawful.map) _ c.in_ok-find_in.ensures.long _ c.in_ok-find_in.field-0 (sym c.in_ok-find_in.ensures.ok) c.if-target-ne0.false

pub write-requires-clause-object : goal.write-requires-clause-object
write-requires-clause-object c = (
  c.in_ok-find_in.field-0,
  (kept_cases (is_kept c.self.inside.objects.pending c.self.inside.marker.marks) (found_in c.self.inside.objects.states) c.address-target.result c.in_ok-find_in.field-0
      (sym c.in_ok-find_in.ensures.ok)).0,
)

pub note_write-requires-clause-low : goal.note_write-requires-clause-low
note_write-requires-clause-low c =
    (is_word _ _ (kept_map _ _ _ c.in_ok-find_in.ensures.lawful.map) _ c.in_ok-find_in.ensures.long _ c.in_ok-find_in.field-0 (sym c.in_ok-find_in.ensures.ok) c.if-target-ne0.false).above

pub note_write-requires-clause-inside : goal.note_write-requires-clause-inside
note_write-requires-clause-inside c =
    let here = is_word _ _ (kept_map _ _ _ c.in_ok-find_in.ensures.lawful.map) _ c.in_ok-find_in.ensures.long _ c.in_ok-find_in.field-0 (sym c.in_ok-find_in.ensures.ok) c.if-target-ne0.false in
    let size = c.self.invariant.traced.pages in let long = c.in_ok-find_in.ensures.long in let below = here.below in let above = here.above in
    omega arith

pub invariant_of-self : goal.invariant_of-self
invariant_of-self c = legal_called _ _ c.self.invariant
    (traced_write _ _ (record { marker = c.self.inside.marker; is_marking = c.self.inside.is_marking; needs_full = c.self.inside.needs_full; count = c.self.inside.count; reads = c.self.inside.reads }) _ _ _ c.self.invariant.traced c.write.ensures c.note_write.ensures refl refl)
    c.args.slot (Store c.args.at c.args.offset c.args.from) Done tt
    (stores _ _ _ _ _ _ _ _ _ c.in_ok-mutator.mutator.now c.in_ok-find_in.field-0 c.in_ok-find_in.ensures.lawful c.in_ok-find_in.ensures.long c.in_ok-mutator.ensures.ok
    (rw c.address-target.ensures at c.if-target-ne0.false)
    (rw c.address-target.ensures at (sym c.in_ok-find_in.ensures.ok))
    (rw (c.address-target.ensures, c.word-word.ensures) at c.write.ensures)
    (rw c.address-target.ensures at c.note_write.ensures) refl refl refl refl)

pub returns : goal.returns
returns c = rw (← c.self.view_is)
    (stores _ _ _ _ _ _ _ _ _ c.in_ok-mutator.mutator.now c.in_ok-find_in.field-0 c.in_ok-find_in.ensures.lawful c.in_ok-find_in.ensures.long c.in_ok-mutator.ensures.ok
    (rw c.address-target.ensures at c.if-target-ne0.false)
    (rw c.address-target.ensures at (sym c.in_ok-find_in.ensures.ok))
    (rw (c.address-target.ensures, c.word-word.ensures) at c.write.ensures)
    (rw c.address-target.ensures at c.note_write.ensures) refl refl refl refl)
