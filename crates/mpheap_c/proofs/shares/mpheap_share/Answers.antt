use Rattle.std.proofs.Common.{◌≡◌, ℕ, true, false, subst, refl, sym, inr, ap, ◌∙◌, Some, ⊎_elim}
use Rattle.heap_core.specs.CoreContents.{CoreContents}
use Rattle.heap_core.specs.Sharing.{IsDealt}
use Rattle.mpheap_c.specs.declared.handle.Handle.{Handle}
use Rattle.mpheap_c.specs.Sharing.IsShared.{shared, idle, bad, memory}
use Rattle.mpheap_c.proofs.Places.{stands, some_of, is_empty, none_of}
use Rattle.mpheap_c.proofs.shares.mpheap_share.Goals as goal

pub returns-then-is_some : goal.returns-then-is_some
returns-then-is_some c =
    let s = some_of c.place-place.result.now.shares (sym c.is_some.ensures ∙ c.if-is_some.true) in
    bad refl (inr (inr (s.0, stands _ c.place-place.result.now _ c.place-place.ensures.value s.1))) refl (sym c.place-place.ensures.value)

pub returns-in-Ok : goal.returns-in-Ok
returns-in-Ok c =
    let e = c.in-Ok.ensures.ok in
    let core : c.args.heap.now.core ≡ Some c.into_box-core.result.value = c.inside.ensures.value.1 ∙ (ap (λ (h : Handle CoreContents). h.value) (sym c.replace.ensures.value) ∙ c.into_box-core.ensures) in
    shared c.into_box-core.result.value c.in-Ok.shares refl
    (c.in-Some.ensures.2, c.in-Some.ensures.3, is_empty _ c.place-place.result.now c.place-place.ensures.value (none_of _ (sym c.is_some.ensures ∙ c.if-is_some.false)))
    core e.0 (ap (λ (h : Handle CoreContents). h.value) c.replace.ensures.after ∙ c.closed.ensures.0) refl
    (subst (λ (n : ℕ). IsDealt c.into_box-core.result.value n c.in-Ok.shares) c.in-Some.ensures.0 e.1)

pub returns-in-WrongPhase : goal.returns-in-WrongPhase
returns-in-WrongPhase c =
    let e = c.in-Err.ensures.err in
    let core : c.args.heap.now.core ≡ Some c.into_box-core.result.value = c.inside.ensures.value.1 ∙ (ap (λ (h : Handle CoreContents). h.value) (sym c.replace.ensures.value) ∙ c.into_box-core.ensures) in
    let idles : c.into_box-core.result.value.cycle.is_marking ≡ false = ⊎_elim (λ w. w.1) (λ m. absurd (cc (sym m.0 ∙ c.in-WrongPhase.is))) e.1 in
    idle c.into_box-core.result.value refl
    (c.in-Some.ensures.2, c.in-Some.ensures.3, is_empty _ c.place-place.result.now c.place-place.ensures.value (none_of _ (sym c.is_some.ensures ∙ c.if-is_some.false)))
    core idles
    (ap (λ (h : Handle CoreContents). h.value) c.replace-in-Err.ensures.after ∙ (c.of.ensures ∙ (ap Some e.0 ∙ sym core))) (sym c.place-place.ensures.value)

pub returns-in-Memory : goal.returns-in-Memory
returns-in-Memory c =
    let e = c.in-Err.ensures.err in
    let core : c.args.heap.now.core ≡ Some c.into_box-core.result.value = c.inside.ensures.value.1 ∙ (ap (λ (h : Handle CoreContents). h.value) (sym c.replace.ensures.value) ∙ c.into_box-core.ensures) in
    let marks : c.into_box-core.result.value.cycle.is_marking ≡ true = ⊎_elim (λ w. absurd (cc (sym w.0 ∙ c.in-Memory.is))) (λ m. m.1) e.1 in
    memory c.into_box-core.result.value refl
    (c.in-Some.ensures.2, c.in-Some.ensures.3, is_empty _ c.place-place.result.now c.place-place.ensures.value (none_of _ (sym c.is_some.ensures ∙ c.if-is_some.false)))
    core marks
    (ap (λ (h : Handle CoreContents). h.value) c.replace-in-Err.ensures.after ∙ (c.of.ensures ∙ (ap Some e.0 ∙ sym core))) (sym c.place-place.ensures.value)
