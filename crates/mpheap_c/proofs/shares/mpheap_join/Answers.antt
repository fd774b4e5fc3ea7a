use Rattle.std.proofs.Common.{refl, ap, sym, ◌∙◌, inr, Option, Some}
use Rattle.heap_core.specs.Sharing.{Sharing}
use Rattle.mpheap_c.specs.Sharing.IsJoined.{joined, bad}
use Rattle.mpheap_c.proofs.Places.{stands}
use Rattle.mpheap_c.proofs.shares.mpheap_join.Goals as goal

pub join-requires : goal.join-requires
join-requires c = record {
  same = c.requires.same c.in-Some.shares c.in-Some-take.other (stands _ c.place.result.now _ c.place.ensures.value c.in-Some.is)
      (stands _ c.place-place.result.now _ c.place-place.ensures.value (sym c.take.ensures.value ∙ c.in-Some-take.is));
}

pub returns-in-Ok : goal.returns-in-Ok
returns-in-Ok c = let e = c.in-Ok.ensures.ok in
    joined c.in-Some.shares c.in-Some-take.other c.join.new.self refl (stands _ c.place.result.now _ c.place.ensures.value c.in-Some.is)
    (stands _ c.place-place.result.now _ c.place-place.ensures.value (sym c.take.ensures.value ∙ c.in-Some-take.is)) refl
    (ap (λ (x : Option Sharing). Some (record { shares = x })) c.take.ensures.after) e.0 e.1

pub returns-in-Err : goal.returns-in-Err
returns-in-Err c =
    let e = c.in-Err.ensures.err in
    let stood = stands _ c.place.result.now _ c.place.ensures.value c.in-Some.is in
    let others = stands _ c.place-place.result.now _ c.place-place.ensures.value (sym c.take.ensures.value ∙ c.in-Some-take.is) in
    bad refl (inr (inr (c.in-Some.shares, c.in-Some-take.other, stood, others, e.0)))
    (ap (λ (x : Sharing). Some (record { shares = Some x })) e.2 ∙ sym stood) (ap (λ (x : Sharing). Some (record { shares = Some x })) e.1 ∙ sym others)
