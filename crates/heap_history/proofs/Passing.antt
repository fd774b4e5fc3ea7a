-- What a pass tells of the heap that its history leads to.
use Rattle.std.proofs.Common.{◌≡◌, ℕ, ◌<◌, false, true, List, [], ◌∷◌, ◌++◌, sym, ap, ◌∙◌, subst}
use Rattle.std.specs.Prelude.{slice_get}
use Rattle.history.specs.Histories.{event, is_live, Reaches, Legal, count, own}
use Rattle.history.specs.Passes.{Owned}
use Rattle.heap_spec.specs.declared.event.Event.TheVariants.{Attach}
use Rattle.heap_spec.specs.declared.reply.Reply.{Reply}
use Rattle.heap_spec.specs.Heap.{Mutator as HeapMutator, IsAttached, IsVacant}
use Rattle.heap_spec.specs.Runs.{opening_start, is_marking}
use Rattle.heap_spec.specs.SequentialObject.{HeapState, heap_of, Opens, StateStep}
use Rattle.heap_history.specs.Ranks.{rank_of}
use Rattle.heap_history.specs.Passes.{MadeEvent, HeapPass, IsLegalPass, is_marking as marks}
use Rattle.heap_history.specs.Headline.{Begun}
use Rattle.heap_history.proofs.Slots.{is_there, found, attach_is}
use Rattle.heap_history.proofs.Chains.{attached_live, marking_own, count_own}

-- a slot with a pass has a mutator
pub live_attached : {pages : ℕ} → (t : HeapState) (log : List MadeEvent) (who : ℕ) → who < 16 → is_live rank_of who log ≡ true → Reaches (Opens pages) StateStep log t → (m : HeapMutator) × IsAttached (heap_of t) who m
live_attached t log who few live r = found (slice_get (heap_of t).mutators who) (attached_live log t who few r ∙ live)

-- a slot with no mutator has no pass
pub vacant_dead : {pages : ℕ} → (t : HeapState) (log : List MadeEvent) (who : ℕ) → who < 16 → IsVacant (heap_of t) who → Reaches (Opens pages) StateStep log t → is_live rank_of who log ≡ false
vacant_dead t log who lt vacant r = sym (attached_live log t who lt r) ∙ ap is_there vacant

-- the phase is that of the collector's own events
pub phase_is : {pages : ℕ} → (t : HeapState) (log mine : List MadeEvent) (slot : ℕ) → slot ≡ 16 → Owned rank_of slot log mine → Reaches (Opens pages) StateStep log t → is_marking (opening_start t.pages) t.run ≡ marks mine
phase_is t log mine slot e o r = marking_own log t r ∙ ap marks (sym (o.own_is ∙ ap (λ n. own rank_of n log) e))

-- the count is that of the collector's own events
pub own_count : {pages : ℕ} → (seen mine : List MadeEvent) (slot : ℕ) → slot ≡ 16 → Owned rank_of slot seen mine → Legal (Opens pages) StateStep seen → count rank_of seen ≡ count rank_of mine
own_count seen mine slot e o l = sym (count_own seen l) ∙ ap (count rank_of) (sym (o.own_is ∙ ap (λ n. own rank_of n seen) e))

-- an attach gives a pass whose own events begin with it
pub begun : {pages : ℕ} → (s t : HeapState) (log log2 : List MadeEvent) (who : ℕ) (reply : Reply) (pass : HeapPass) → StateStep s who Attach reply t → is_live rank_of who log ≡ false → log2 ≡ log ++ event who Attach reply ∷ []
    → pass ≡ record { slot = who; seen = log2; mine = event who Attach reply ∷ [] } → IsLegalPass pages pass → Begun pages pass
begun {pages = pages} s t log log2 who reply pass step spent log_is pass_is fine =
    let said = (attach_is (heap_of s) who step.fits.1 step.happens).0 in
    subst (λ (p : HeapPass). Begun pages p) (sym pass_is) (record {
      before = log;
      spent = spent;
      seen = log_is ∙ ap (λ r. log ++ event who Attach r ∷ []) said;
      mine = ap (λ r. event who Attach r ∷ []) said;
      fine = subst (λ (p : HeapPass). IsLegalPass pages p) pass_is fine;
    })
