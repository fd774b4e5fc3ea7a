-- What is written beside a call is written after it.
use Rattle.std.proofs.Common.{◌≡◌, ℕ, false, List, refl, sym, ap, ◌∙◌, inl, inr}
use Rattle.std.specs.Prelude.{Result, ⊤}
use Rattle.std.proofs.lemmas.Bool.{false≢true}
use Rattle.words.specs.declared.class.Kind.{Kind}
use Rattle.words.specs.declared.refusal.Refusal.{Refusal}
use Rattle.words.specs.Bits.{Has}
use Rattle.heap_spec.specs.declared.event.Event.{Event}
use Rattle.heap_spec.specs.declared.reply.Reply.{Reply}
use Rattle.heap_core.specs.CoreContents.{CoreContents}
use Rattle.heap_core.specs.DirectWrites.{IsLeftOrWritten}
use Rattle.heap_core.specs.Many.{Grants, Requests}
use Rattle.heap_core.specs.MutatorCalls.{IsCall}
use Rattle.heap_core.specs.BesideCalls.{IsCallBeside, IsLeftOrWrittenBeside, WrittenBesideCallsIsWrittenAfter}

-- The phase is the same, a full cycle is needed still if one was, and no page has become clean.
record Stays (old new : CoreContents) : Type 0 where
  phase : new.cycle.is_marking ≡ old.cycle.is_marking
  needs : new.cycle.needs_full ≡ false → old.cycle.needs_full ≡ false
  dirty : (p : ℕ) → Has old.cycle.marker.dirty p → Has new.cycle.marker.dirty p

stays_same : (c : CoreContents) → Stays c c
stays_same c = record { phase = refl; needs = λ n. n; dirty = λ p h. h }

stays_more : (a b c : CoreContents) → Stays a b → Stays b c → Stays a c
stays_more a b c x y = record { phase = y.phase ∙ x.phase; needs = λ n. x.needs (y.needs n); dirty = λ p h. y.dirty p (x.dirty p h) }

of_call : (old new : CoreContents) (event : Event) (reply : Reply) → IsCall old event reply new → Stays old new
of_call old new event reply call = record {
  phase = call.phase;
  needs = λ n. sym (call.needs_full (λ frees. false≢true (sym n ∙ call.freed frees))) ∙ n;
  dirty = call.stays_dirty;
}

of_grants : (slot into words : ℕ) (kind : Kind) (old new : CoreContents) (bases : List ℕ) → Grants slot into words kind old bases new → Stays old new
of_grants slot into words kind old new bases Grants.begun = stays_same old
of_grants slot into words kind old new bases (Grants.granted {mid = mid} before call holds) = stays_more old mid new (of_grants slot into words kind old mid _ before) (of_call mid new _ _ call)

of_requests : (slot into words most : ℕ) (kind : Kind) (old new : CoreContents) (bases : List ℕ) (answer : Result ⊤ Refusal) → Requests slot into words kind old bases most answer new → Stays old new
of_requests slot into words most kind old new bases answer (Requests.all size grants) = of_grants slot into words kind old new bases grants
of_requests slot into words most kind old new bases answer (Requests.refused {mid = mid} few grants call) = stays_more old mid new (of_grants slot into words kind old mid bases grants) (of_call mid new _ _ call)

stays : (old new : CoreContents) → IsCallBeside old new → Stays old new
stays old new (IsCallBeside.calls call) = of_call old new _ _ call
stays old new (IsCallBeside.requests made) = of_requests _ _ _ _ _ old new _ _ made
stays old new (IsCallBeside.sweeps sweep) = record {
  phase = ap (λ y. y.is_marking) sweep.cycle;
  needs = λ n. sym (ap (λ y. y.needs_full) sweep.cycle) ∙ n;
  dirty = λ p h. rw sweep.cycle h;
}
stays old new (IsCallBeside.tells told) = record {
  phase = ap (λ (c : CoreContents). c.cycle.is_marking) told.alone;
  needs = λ n. sym (ap (λ (c : CoreContents). c.cycle.needs_full) told.alone) ∙ n;
  dirty = told.stays_dirty;
}
stays old new IsCallBeside.leaves = stays_same old

pub written_beside : WrittenBesideCallsIsWrittenAfter
written_beside old new words call beside = record { alone = refl; size = beside.size; words = λ a at. each a (beside.each a at); dirty_len = refl; stays_dirty = λ p h. h }
  where
    s : Stays old new
    s = stays old new call

    each : (a : ℕ) → IsLeftOrWrittenBeside old new words a → IsLeftOrWritten new words new.cycle.marker.dirty a
    each a (IsLeftOrWrittenBeside.left same) = IsLeftOrWritten.left same
    each a (IsLeftOrWrittenBeside.written f before after word told) = IsLeftOrWritten.written f after word
        (λ marking normal. inr (s.dirty _ (told (inl (sym s.phase ∙ marking)) normal)))
        (λ full normal marked. inr (s.dirty _ (told (inr (s.needs full)) normal)))
