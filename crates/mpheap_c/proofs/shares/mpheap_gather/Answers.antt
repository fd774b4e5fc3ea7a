use Rattle.std.proofs.Common.{refl, ap, sym, ◌∙◌, Option, Some}
use Rattle.heap_core.specs.CoreContents.{CoreContents}
use Rattle.heap_core.specs.Sharing.{Sharing}
use Rattle.mpheap_c.specs.declared.handle.Handle.{Handle}
use Rattle.mpheap_c.specs.Sharing.IsGathered.{gathered, out}
use Rattle.mpheap_c.proofs.Places.{stands}
use Rattle.mpheap_c.proofs.shares.mpheap_gather.Goals as goal

pub returns-in-Ok : goal.returns-in-Ok
returns-in-Ok c = gathered c.in-Some.shares c.in-Ok.core.value refl
    (stands _ c.place-place.result.now _ c.place-place.ensures.value (sym c.take.ensures.value ∙ c.in-Some.is)) c.in-Ok.ensures.ok.0
    (ap (λ (x : Option Sharing). Some (record { shares = x })) c.take.ensures.after)
    (ap (λ (h : Handle CoreContents). h.value) c.replace.ensures.after ∙ c.of.ensures) c.in-Ok.ensures.ok.1

pub returns-in-Err : goal.returns-in-Err
returns-in-Err c = out c.in-Some.shares c.in-Err.back refl
    (stands _ c.place-place.result.now _ c.place-place.ensures.value (sym c.take.ensures.value ∙ c.in-Some.is)) refl c.in-Err.ensures.err c.requires.closed
