-- The forgotten objects, and what changes of the store and of the marks leave of them.
use Rattle.std.proofs.Common.{◌≡◌, ℕ, Bool, true, false, List, get_or, Some, None, refl, sym, ap, ◌∙◌, subst, ⊎_elim}
use Rattle.std.specs.Prelude.{◌↔◌}
use Rattle.std.proofs.lemmas.Bool.{false≢true}
use Rattle.std.proofs.lemmas.Option.{same_Some}
use Rattle.words.specs.Bits.{Has}
use Rattle.block_map.specs.declared.found.Found.{Found}
use Rattle.block_map.specs.FoundIn.{found_in}
use Rattle.block_map.specs.Changes.{IsAdded, IsRemoved}
use Rattle.object_space.specs.Kept.{is_kept}
use Rattle.object_space.specs.Store.{Store}
use Rattle.object_space.specs.Sweeps.{Sweeps}
use Rattle.object_space.proofs.Kept.{kept_cases, kept_is, nothing_pending, pending_marked}
use Rattle.object_space.proofs.Sweeping.{read_or_not}
use Rattle.heap_core.specs.CoreContents.{CoreContents}
use Rattle.heap_core.specs.Standing.{IsForgotten}

-- the word reads an object of the store that isn't kept
abbrev IsDead : Store → List Bool → ℕ → Found → Type 0
IsDead t marks w f = (found_in t.states w ≡ Some f) × (is_kept t.pending marks f ≡ false)

none_some : (f : Found) → None ≡ Some f → ⊥
none_some f e = cc

-- an object that isn't kept lies on a page that is still to be swept
dead_pending : (pending marks : List Bool) (f : Found) → is_kept pending marks f ≡ false → Has pending f.page
dead_pending pending marks f dead = by (get_or pending f.page false) refl
  where
    by : (b : Bool) → get_or pending f.page false ≡ b → Has pending f.page
    by true e = e
    by false e = absurd (false≢true (sym dead ∙ nothing_pending pending marks f (λ h. false≢true (sym e ∙ h))))

-- where states, pending pages and marks are the same
pub forgotten_same : (old new : CoreContents) → new.store.states ≡ old.store.states → new.store.pending ≡ old.store.pending → new.cycle.marker.marks ≡ old.cycle.marker.marks
    → (w : ℕ) (f : Found) → IsForgotten new w f ↔ (IsForgotten old w f × Has new.store.pending f.page)
forgotten_same old new states pending marks w f = (
  λ h. ((ap (λ x. found_in x w) (sym states) ∙ h.0, sym keeps ∙ h.1), dead_pending new.store.pending new.cycle.marker.marks f h.1),
  λ h. (ap (λ x. found_in x w) states ∙ h.0.0, keeps ∙ h.0.1),
)
  where
    keeps : is_kept new.store.pending new.cycle.marker.marks f ≡ is_kept old.store.pending old.cycle.marker.marks f
    keeps = ap (λ row. is_kept row new.cycle.marker.marks f) pending ∙ ap (λ ms. is_kept old.store.pending ms f) marks

-- where pages were swept
pub forgotten_swept : (old new : Store) (marks : List Bool) → Sweeps old marks new → (w : ℕ) (f : Found) → IsDead new marks w f ↔ (IsDead old marks w f × Has new.pending f.page)
forgotten_swept old new marks sweeps w f = (
  λ h. let was = sweeps.less.before w f h.0 in ((was, not_kept was h.1 (is_kept old.pending marks f) refl), dead_pending new.pending marks f h.1),
  λ h. (
    sweeps.waiting w f h.0.0 h.1,
    pending_marked new.pending marks f h.1 ∙ sym (pending_marked old.pending marks f (dead_pending old.pending marks f h.0.1)) ∙ h.0.1,
  ),
)
  where
    not_kept : found_in old.states w ≡ Some f → is_kept new.pending marks f ≡ false → (b : Bool) → is_kept old.pending marks f ≡ b → is_kept old.pending marks f ≡ false
    not_kept was dead false e = e
    not_kept was dead true e =
        let now = sweeps.same.same w ∙ kept_is (is_kept old.pending marks) (found_in old.states) w f was e in
        absurd (false≢true (sym dead ∙ (kept_cases (is_kept new.pending marks) (found_in new.states) w f now).1))

-- where a kept object came
pub forgotten_added : (old new : Store) (marks marks' : List Bool) (object : Found) → IsAdded (found_in old.states) (found_in new.states) object → is_kept new.pending marks' object ≡ true
    → ((w : ℕ) (x : Found) → found_in old.states w ≡ Some x → is_kept new.pending marks' x ≡ is_kept old.pending marks x) → (w : ℕ) (f : Found) → IsDead new marks' w f ↔ IsDead old marks w f
forgotten_added old new marks marks' object added kept same w f = (
  λ h. ⊎_elim
      (λ r. absurd (false≢true (sym h.1 ∙ subst (λ (x : Found). is_kept new.pending marks' x ≡ true) (same_Some object f (sym (added.after w r) ∙ h.0)) kept)))
      (λ not. let was = sym (added.others w not) ∙ h.0 in (was, sym (same w f was) ∙ h.1))
      (read_or_not w object),
  λ h. ⊎_elim (λ r. absurd (none_some f (sym (added.before w r) ∙ h.0))) (λ not. (added.others w not ∙ h.0, same w f h.0 ∙ h.1)) (read_or_not w object),
)

-- where a kept object went
pub forgotten_removed : (old new : Store) (marks marks' : List Bool) (object : Found) → IsRemoved (found_in old.states) (found_in new.states) object → is_kept old.pending marks object ≡ true
    → ((w : ℕ) (x : Found) → found_in new.states w ≡ Some x → is_kept new.pending marks' x ≡ is_kept old.pending marks x) → (w : ℕ) (f : Found) → IsDead new marks' w f ↔ (IsDead old marks w f × Has new.pending f.page)
forgotten_removed old new marks marks' object removed kept same w f =
    let back = forgotten_added new old marks' marks object removed kept (λ v x there. sym (same v x there)) w f in
    (λ h. (back.1 h, dead_pending new.pending marks' f h.1), λ h. back.0 h.0)
