use Rattle.std.proofs.Common.{refl, sym, ap, ◌∙◌, arith}
use Rattle.words.specs.Placing.{placement_of}
use Rattle.heap_core.proofs.Tracing.{traced_object, traced_swept, unmarked_new}
use Rattle.heap_spec.specs.declared.call.Call.TheVariants.{Alloc}
use Rattle.heap_spec.specs.declared.reply.Reply.TheVariants.{Done}
use Rattle.heap_spec.specs.Steps.{Acts}
use Rattle.heap_core.proofs.Calls.{allocated, full, swept_stands}
use Rattle.object_space.proofs.Placing.{sized}
use Rattle.roots.proofs.Refusals.{handed_on, handed_on_none}
use Rattle.heap_core.proofs.Roots.{refused_here, refused_vacant}
use Rattle.heap_core.proofs.Legal.{legal_called, legal_still}
use Rattle.heap_core.proofs.heap.Core.alloc_base.Goals as goal

pub returns-in_err-attached-clause-call : goal.returns-in_err-attached-clause-call
returns-in_err-attached-clause-call c = rw (← c.self.view_is, handed_on _ _ _ c.from_residual.ensures.1 c.in_err-attached.ensures.err.0) (refused_vacant _ _ _ c.in_err-attached.ensures.err.1)

pub returns-in_err-placement-clause-call : goal.returns-in_err-placement-clause-call
returns-in_err-placement-clause-call c = rw (← c.self.view_is, handed_on_none _ _ _ _ c.from_residual-in_err-placement.ensures.1 c.in_err-placement.ensures.value)
    (refused_here _ _ _ _ c.in_ok-attached.field-0.now _ _ c.in_ok-attached.ensures.ok (λ h. h) (λ s h. Acts.bad_size (ap (λ limit. placement_of limit c.args.words) h.request_words ∙ sym (rw c.in_err-placement.ensures.ok_part at c.placement.ensures.placement))))

pub allocate-requires-clause-request : goal.allocate-requires-clause-request
allocate-requires-clause-request c = sized _ c.args.words _ c.placement.ensures.few (sym (rw c.in_ok-placement.ensures.ok_part at c.placement.ensures.placement))

pub invariant_of-self : goal.invariant_of-self
invariant_of-self c =
    let sweeps = (rw c.in_err-base.ensures.ok_part at c.allocate.ensures.places).sweeps in
    legal_still _ _ c.self.invariant (traced_swept _ _ (record { marker = c.self.inside.marker; is_marking = c.self.inside.is_marking; needs_full = c.self.inside.needs_full; count = c.self.inside.count; reads = c.self.inside.reads }) c.self.invariant.traced sweeps) (swept_stands _ _ _ _ sweeps)

pub returns-in_err-base-clause-call : goal.returns-in_err-base-clause-call
returns-in_err-base-clause-call c =
    let none = rw c.in_err-base.ensures.ok_part at c.allocate.ensures.places in
    rw (← c.self.view_is, handed_on_none _ _ _ _ c.from_residual-in_err-base.ensures.1 c.in_err-base.ensures.value) (full _ _ _ _ _ _ _ _ c.in_ok-placement.placement c.in_ok-attached.field-0.now c.in_ok-attached.ensures.ok (sym (rw c.in_ok-placement.ensures.ok_part at c.placement.ensures.placement)) none.sweeps none.swept none.none)

pub note_object-requires-clause-low : goal.note_object-requires-clause-low
note_object-requires-clause-low c = let g = (rw c.in_ok-base.ensures.ok_part at c.allocate.ensures.places).gains in let above = (g.map.placed _ g.object g.found).above in let at = g.at in omega arith

pub note_object-requires-clause-inside : goal.note_object-requires-clause-inside
note_object-requires-clause-inside c =
    let a = rw c.in_ok-base.ensures.ok_part at c.allocate.ensures.places in
    let g = a.gains in
    let below = (g.map.placed _ g.object g.found).below in let some = (g.map.placed _ g.object g.found).some in let above = (g.map.placed _ g.object g.found).above in
    let at = g.at in let pages = g.pages in let before = a.sweeps.pages in let size = c.self.invariant.traced.pages in
    omega arith

pub invariant_of-self-2 : goal.invariant_of-self-2
invariant_of-self-2 c =
    let a = rw c.in_ok-base.ensures.ok_part at c.allocate.ensures.places in
    legal_called _ _ c.self.invariant
    (traced_object _ _ (record { marker = c.self.inside.marker; is_marking = c.self.inside.is_marking; needs_full = c.self.inside.needs_full; count = c.self.inside.count; reads = c.self.inside.reads }) _ _ _ _ (traced_swept _ a.ready _ c.self.invariant.traced a.sweeps) a.gains c.note_object.ensures refl refl)
    c.args.slot (Alloc c.args.into c.args.words c.args.kind) Done tt
    (allocated _ _ _ _ _ _ _ _ _ _ _ _ _ c.in_ok-attached.field-0.now c.in_ok-attached.ensures.ok (sym (rw c.in_ok-placement.ensures.ok_part at c.placement.ensures.placement)) a.sweeps a.room a.gains c.set_word.ensures c.note_object.ensures
    (unmarked_new a.ready _ (record { marker = c.self.inside.marker; is_marking = c.self.inside.is_marking; needs_full = c.self.inside.needs_full; count = c.self.inside.count; reads = c.self.inside.reads }) _ _ _ (traced_swept _ a.ready (record { marker = c.self.inside.marker; is_marking = c.self.inside.is_marking; needs_full = c.self.inside.needs_full; count = c.self.inside.count; reads = c.self.inside.reads }) c.self.invariant.traced a.sweeps).objects a.gains) refl refl refl refl (c.allocate.ensures.cuts))

pub returns-clause-call : goal.returns-clause-call
returns-clause-call c =
    let a = rw c.in_ok-base.ensures.ok_part at c.allocate.ensures.places in
    rw (← c.self.view_is)
    (allocated _ _ _ _ _ _ _ _ _ _ _ _ _ c.in_ok-attached.field-0.now c.in_ok-attached.ensures.ok (sym (rw c.in_ok-placement.ensures.ok_part at c.placement.ensures.placement)) a.sweeps a.room a.gains c.set_word.ensures c.note_object.ensures
    (unmarked_new a.ready _ (record { marker = c.self.inside.marker; is_marking = c.self.inside.is_marking; needs_full = c.self.inside.needs_full; count = c.self.inside.count; reads = c.self.inside.reads }) _ _ _ (traced_swept _ a.ready (record { marker = c.self.inside.marker; is_marking = c.self.inside.is_marking; needs_full = c.self.inside.needs_full; count = c.self.inside.count; reads = c.self.inside.reads }) c.self.invariant.traced a.sweeps).objects a.gains) refl refl refl refl (c.allocate.ensures.cuts))
