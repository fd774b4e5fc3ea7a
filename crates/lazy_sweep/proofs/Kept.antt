-- The kept objects, and that a sweep of a page keeps them.
use Rattle.std.proofs.Common.{◌≡◌, ℕ, ◌<◌, Bool, true, false, cond, List, length, get_or, set, Option, Some, None, refl, sym, ap, ◌∙◌, subst, ⊎_elim, get_or-set_same, get_or-set_other}
use Rattle.std.specs.Prelude.{◌≢◌}
use Rattle.std.proofs.lemmas.Bool.{cond-true, cond-false, false≢true, cases_eq, cases_lt}
use Rattle.std.proofs.lemmas.Option.{same_Some}
use Rattle.std.proofs.lemmas.List.{get_or_past}
use Rattle.words.specs.Bits.{Has}
use Rattle.words.specs.Layout.{granule}
use Rattle.block_map.specs.declared.found.Found.{Found}
use Rattle.block_map.specs.Changes.{IsSameMap}
use Rattle.lazy_sweep.specs.Kept.{keep_if, restrict, is_kept}

no_found : (f : Found) → None ≡ Some f → ⊥
no_found f e = cc

-- what is kept was there, and is one of these
pub kept_cases : (keep : Found → Bool) (found : ℕ → Option Found) (w : ℕ) (f : Found) → restrict keep found w ≡ Some f → (found w ≡ Some f) × (keep f ≡ true)
kept_cases keep found w f e = by (found w) refl
  where
    by : (o : Option Found) → found w ≡ o → (found w ≡ Some f) × (keep f ≡ true)
    by None n = absurd (no_found f (sym (ap (keep_if keep) n) ∙ e))
    by (Some g) is = choose (keep g) refl
      where
        choose : (b : Bool) → keep g ≡ b → (found w ≡ Some f) × (keep f ≡ true)
        choose true k = let same : g ≡ f = same_Some g f (sym (cond-true (keep g) (Some g) None k) ∙ sym (ap (keep_if keep) is) ∙ e) in (is ∙ ap (λ (x : Found). Some x) same, subst (λ (x : Found). keep x ≡ true) same k)
        choose false k = absurd (no_found f (sym (cond-false (keep g) (Some g) None k) ∙ sym (ap (keep_if keep) is) ∙ e))

-- and conversely
pub kept_is : (keep : Found → Bool) (found : ℕ → Option Found) (w : ℕ) (f : Found) → found w ≡ Some f → keep f ≡ true → restrict keep found w ≡ Some f
kept_is keep found w f is k = ap (keep_if keep) is ∙ cond-true (keep f) (Some f) None k

pub kept_none : (keep : Found → Bool) (found : ℕ → Option Found) (w : ℕ) → found w ≡ None → restrict keep found w ≡ None
kept_none keep found w none = ap (keep_if keep) none

pub kept_not : (keep : Found → Bool) (found : ℕ → Option Found) (w : ℕ) (f : Found) → found w ≡ Some f → keep f ≡ false → restrict keep found w ≡ None
kept_not keep found w f is k = ap (keep_if keep) is ∙ cond-false (keep f) (Some f) None k

-- no page is to be swept: all objects are kept, whatever is marked
pub nothing_pending : (pending marks : List Bool) (f : Found) → (Has pending f.page → ⊥) → is_kept pending marks f ≡ true
nothing_pending pending marks f none = by (get_or pending f.page false) refl
  where
    by : (b : Bool) → get_or pending f.page false ≡ b → is_kept pending marks f ≡ true
    by false e = cond-false (get_or pending f.page false) (get_or marks (granule f.base) false) true e
    by true e = absurd (none e)

pub pending_marked : (pending marks : List Bool) (f : Found) → Has pending f.page → is_kept pending marks f ≡ get_or marks (granule f.base) false
pending_marked pending marks f is = cond-true (get_or pending f.page false) (get_or marks (granule f.base) false) true is

-- A page was swept: its unmarked objects are gone, and it is not to be swept any more. The kept objects are the same.
pub page_swept : (pending marks : List Bool) (page : ℕ) (found after : ℕ → Option Found) → Has pending page
    → ((w : ℕ) (f : Found) → found w ≡ Some f → f.page ≢ page → after w ≡ Some f)
    → ((w : ℕ) (f : Found) → found w ≡ Some f → f.page ≡ page → Has marks (granule f.base) → after w ≡ Some f)
    → ((w : ℕ) (f : Found) → after w ≡ Some f → (found w ≡ Some f) × (f.page ≡ page → Has marks (granule f.base)))
    → IsSameMap (restrict (is_kept pending marks) found) (restrict (is_kept (set pending page false) marks) after)
page_swept pending marks page found after is others here only = record { same = λ w. by w (found w) refl }
  where
    -- what is not there any more
    gone : (w : ℕ) → ((g : Found) → found w ≡ Some g → (g.page ≡ page → Has marks (granule g.base)) → ⊥) → after w ≡ None
    gone w lost = look (after w) refl
      where
        look : (o : Option Found) → after w ≡ o → after w ≡ None
        look None n = n
        look (Some g) e = let was = only w g e in absurd (lost g was.0 was.1)

    now_clear : (f : Found) → f.page ≡ page → Has (set pending page false) f.page → ⊥
    now_clear f same h = clear (ap (λ p. get_or (set pending page false) p false) (sym same) ∙ h)
      where
        clear : get_or (set pending page false) page false ≡ true → ⊥
        clear e = false≢true (sym (get_or-set_same pending page false false inside) ∙ e)
          where
            inside : page < length pending
            inside = ⊎_elim (λ lt. lt) (λ past. absurd (false≢true (sym (get_or_past pending page false past) ∙ is))) (cases_lt page (length pending))

    on_page : (w : ℕ) (f : Found) → found w ≡ Some f → f.page ≡ page → (b : Bool) → get_or marks (granule f.base) false ≡ b → restrict (is_kept (set pending page false) marks) after w ≡ restrict (is_kept pending marks) found w
    on_page w f there same true marked =
        kept_is (is_kept (set pending page false) marks) after w f (here w f there same marked) (nothing_pending (set pending page false) marks f (now_clear f same))
        ∙ sym (kept_is (is_kept pending marks) found w f there (pending_marked pending marks f (ap (λ p. get_or pending p false) same ∙ is) ∙ marked))
    on_page w f there same false unmarked =
        kept_none (is_kept (set pending page false) marks) after w (gone w (λ g e m. let one : g ≡ f = same_Some g f (sym e ∙ there) in
        false≢true (sym unmarked ∙ subst (λ (x : Found). Has marks (granule x.base)) one (m (ap (λ (x : Found). x.page) one ∙ same)))))
        ∙ sym (kept_not (is_kept pending marks) found w f there (pending_marked pending marks f (ap (λ p. get_or pending p false) same ∙ is) ∙ unmarked))

    elsewhere : (w : ℕ) (f : Found) → found w ≡ Some f → f.page ≢ page → restrict (is_kept (set pending page false) marks) after w ≡ restrict (is_kept pending marks) found w
    elsewhere w f there ne =
        ap (keep_if (is_kept (set pending page false) marks)) (others w f there ne)
        ∙ ap (λ b. cond (cond b (get_or marks (granule f.base) false) true) (Some f) None) (get_or-set_other pending page f.page false false ne)
        ∙ sym (ap (keep_if (is_kept pending marks)) there)

    by : (w : ℕ) (o : Option Found) → found w ≡ o → restrict (is_kept (set pending page false) marks) after w ≡ restrict (is_kept pending marks) found w
    by w None n = kept_none (is_kept (set pending page false) marks) after w (gone w (λ g e m. no_found g (sym n ∙ e))) ∙ sym (kept_none (is_kept pending marks) found w n)
    by w (Some f) there = ⊎_elim (λ same. on_page w f there same (get_or marks (granule f.base) false) refl) (λ ne. elsewhere w f there ne) (cases_eq f.page page)
