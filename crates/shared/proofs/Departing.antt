-- What a mutator's last call leaves.
use Rattle.std.proofs.Common.{◌≡◌, ℕ, ◌<◌, true, true≢false, List, [], ◌∷◌, ◌++◌, refl, sym, ap, ◌∙◌, subst}
use Rattle.std.specs.Prelude.{slice_get}
use Rattle.history.specs.Histories.{event, GrowsByOthers}
use Rattle.history.specs.Passes.{Recalls}
use Rattle.heap_spec.specs.declared.call.Call.TheVariants.{Detach}
use Rattle.heap_spec.specs.declared.event.Event.TheVariants.{Mutator}
use Rattle.heap_spec.specs.declared.reply.Reply.{Reply}
use Rattle.heap_spec.specs.declared.reply.Reply.TheVariants.{Done}
use Rattle.heap_spec.specs.Heap.{Heap, Mutator as HeapMutator, IsAttached}
use Rattle.heap_spec.specs.Steps.{Acts}
use Rattle.heap_spec.specs.SequentialObject.{HeapState, heap_of, Opens, StateStep}
use Rattle.heap_history.specs.Headline.{Departs}
use Rattle.heap_history.specs.Passes.{MadeEvent, HeapPass, IsLegalPass, begins_with_attach}
use Rattle.heap_history.specs.Ranks.{rank_of}
use Rattle.heap_history.proofs.Chains.{mine_begins}
use Rattle.heap_history.proofs.OwnObjects.{calls_acts}
use Rattle.shared.proofs.Passing.{Learns}

-- it is granted
acts_done : (s : Heap) (slot : ℕ) (m : HeapMutator) {reply : Reply} {s' : Heap} → Acts s slot m Detach reply s' → reply ≡ Done
acts_done s slot m Acts.detached = refl

detach_done : (s t : HeapState) (who slot : ℕ) (reply : Reply) → StateStep s who (Mutator slot Detach) reply t → reply ≡ Done
detach_done s t who slot reply h =
    let there : IsAttached (heap_of s) slot h.fits.mutator = ap (λ (i : ℕ). slice_get (heap_of s).mutators i) (sym h.fits.own) ∙ h.fits.attached in
    acts_done (heap_of s) slot h.fits.mutator (calls_acts (heap_of s) slot h.fits.mutator there h.happens)

-- own events that begin with an attach, and one more
begins_still : (mine : List MadeEvent) (e : MadeEvent) → begins_with_attach mine ≡ true → begins_with_attach (mine ++ e ∷ []) ≡ true
begins_still [] e h = absurd (true≢false (sym h))
begins_still (x ∷ xs) e h = h

pub departed : (pages slot : ℕ) (s t : HeapState) (old mid past : HeapPass) (log log1 log2 : List MadeEvent) (reply : Reply) → GrowsByOthers old.slot old.seen log → Learns old mid log → log1 ≡ log → log2 ≡ log1 ++ event mid.slot (Mutator slot Detach) reply ∷ []
    → past ≡ record { slot = mid.slot; seen = log2; mine = mid.mine ++ event mid.slot (Mutator slot Detach) reply ∷ [] } → old.slot ≡ slot → slot < 16 → IsLegalPass pages mid → StateStep s mid.slot (Mutator slot Detach) reply t → Recalls rank_of (Opens pages) StateStep past
    → Departs pages old past
departed pages slot s t old mid past log log1 log2 reply before mid_is log1_is log2_is past_is own few fine step recalls =
    let done = detach_done s t mid.slot slot reply step in
    let same : mid.slot ≡ old.slot = ap (λ (p : HeapPass). p.slot) mid_is in
    let entry : event mid.slot (Mutator slot Detach) reply ≡ event old.slot (Mutator old.slot Detach) Done = (λ i. event (same i) (Mutator (sym own i) Detach) (done i)) in
    let slot_is : past.slot ≡ old.slot = ap (λ (p : HeapPass). p.slot) past_is ∙ same in
    let mine : past.mine ≡ mid.mine ++ event mid.slot (Mutator slot Detach) reply ∷ [] = ap (λ (p : HeapPass). p.mine) past_is in
    let lt : old.slot < 16 = subst (λ (n : ℕ). n < 16) (sym own) few in
    record {
      slot = slot_is;
      between = before.between;
      others = before.others;
      seen = ap (λ (p : HeapPass). p.seen) past_is ∙ (log2_is ∙ (ap (λ (l : List MadeEvent). l ++ event mid.slot (Mutator slot Detach) reply ∷ []) (log1_is ∙ sym before.whole) ∙ ap (λ (x : MadeEvent). (old.seen ++ before.between) ++ x ∷ []) entry));
      mine = mine ∙ (ap (λ (p : HeapPass). p.mine ++ event mid.slot (Mutator slot Detach) reply ∷ []) mid_is ∙ ap (λ (x : MadeEvent). old.mine ++ x ∷ []) entry);
      fine = record {
        mutator = subst (λ (n : ℕ). n < 16) (sym slot_is) lt;
        begins = ap begins_with_attach mine ∙ begins_still mid.mine (event mid.slot (Mutator slot Detach) reply) (mine_begins pages mid fine (subst (λ (n : ℕ). n < 16) (sym same) lt));
        recalls = recalls;
      };
    }
