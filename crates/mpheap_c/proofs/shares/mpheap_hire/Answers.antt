use Rattle.std.proofs.Common.{refl, sym, ap, ◌∙◌, inl, inr, Some}
use Rattle.std.proofs.lemmas.Option.{MatchOption-at_some, MatchOption-at_none}
use Rattle.heap_core.specs.Sharing.{Sharing}
use Rattle.mpheap_c.specs.Sharing.IsHired.{hired, bad, memory}
use Rattle.mpheap_c.proofs.Places.{stands, is_empty, none_of, some_of}
use Rattle.mpheap_c.proofs.shares.mpheap_hire.Goals as goal

pub returns-in-Ok-Some : goal.returns-in-Ok-Some
returns-in-Ok-Some c = let e = MatchOption-at_some _ _ c.in-Ok-Some.hired c.in-Ok-Some.field-0-is c.in-Ok-Some.ensures.ok in
    hired c.in-Some.shares c.hire.new.self c.in-Ok-Some.hired refl (stands _ c.place.result.now _ c.place.ensures.value c.in-Some.is)
    (is_empty _ c.place-place.result.now c.place-place.ensures.value (none_of _ (sym c.is_some.ensures ∙ c.if-is_some.false))) refl refl e

pub returns-then-is_some : goal.returns-then-is_some
returns-then-is_some c =
    let s = some_of c.place-place.result.now.shares (sym c.is_some.ensures ∙ c.if-is_some.true) in
    bad refl (inl (s.0, stands _ c.place-place.result.now _ c.place-place.ensures.value s.1)) refl (sym c.place-place.ensures.value)

pub returns-in-Ok-None : goal.returns-in-Ok-None
returns-in-Ok-None c =
    let e = MatchOption-at_none _ _ c.in-Ok-None.field-0-is c.in-Ok-None.ensures.ok in
    let stood = stands _ c.place.result.now _ c.place.ensures.value c.in-Some.is in
    bad refl (inr (inr (c.in-Some.shares, stood, e.0))) (ap (λ (x : Sharing). Some (record { shares = Some x })) e.1 ∙ sym stood) (sym c.place-place.ensures.value)

pub returns-in-Err : goal.returns-in-Err
returns-in-Err c =
    let stood = stands _ c.place.result.now _ c.place.ensures.value c.in-Some.is in
    memory c.in-Some.shares refl stood (is_empty _ c.place-place.result.now c.place-place.ensures.value (none_of _ (sym c.is_some.ensures ∙ c.if-is_some.false)))
    c.in-Err.ensures.err.0 (ap (λ (x : Sharing). Some (record { shares = Some x })) c.in-Err.ensures.err.1 ∙ sym stood) (sym c.place-place.ensures.value)
