-- The kept objects are those of a map of their own, and what changes of the map, of the marks and of the pages to be swept
-- are to them.
use Rattle.std.proofs.Common.{◌≡◌, ℕ, Bool, true, false, cond, List, get_or, Option, Some, None, refl, sym, ap, ◌∙◌}
use Rattle.std.proofs.lemmas.Bool.{false≢true}
use Rattle.words.specs.Bits.{Has}
use Rattle.words.specs.Layout.{granule}
use Rattle.block_map.specs.declared.found.Found.{Found}
use Rattle.block_map.specs.Objects.{IsMap}
use Rattle.block_map.specs.Changes.{IsAdded, IsRemoved, IsSameMap}
use Rattle.lazy_sweep.specs.Kept.{keep_if}
use Rattle.object_space.specs.Kept.{restrict, is_kept}
pub use Rattle.lazy_sweep.proofs.Kept.{kept_cases, kept_is, kept_none, nothing_pending, pending_marked}

-- They have the laws of a map.
pub kept_map : (pages : ℕ) (keep : Found → Bool) (found : ℕ → Option Found) → IsMap pages found → IsMap pages (restrict keep found)
kept_map pages keep found map = record {
  reads = λ w f e. map.reads w f (kept_cases keep found w f e).0;
  whole = λ w v f e r. let k = kept_cases keep found w f e in kept_is keep found v f (map.whole w v f k.0 r) k.1;
  placed = λ w f e. map.placed w f (kept_cases keep found w f e).0;
}

-- where all are kept, the map is the same
pub kept_all : (keep : Found → Bool) (found : ℕ → Option Found) → ((w : ℕ) (f : Found) → found w ≡ Some f → keep f ≡ true) → IsSameMap found (restrict keep found)
kept_all keep found all = record { same = λ w. by w (found w) refl }
  where
    by : (w : ℕ) (o : Option Found) → found w ≡ o → restrict keep found w ≡ found w
    by w None n = kept_none keep found w n ∙ sym n
    by w (Some f) is = kept_is keep found w f is (all w f is) ∙ sym is

-- where other sets of objects are kept, but the same of those that are there
pub kept_same : (keep keep' : Found → Bool) (found : ℕ → Option Found) → ((w : ℕ) (f : Found) → found w ≡ Some f → keep' f ≡ keep f) → IsSameMap (restrict keep found) (restrict keep' found)
kept_same keep keep' found same = record { same = λ w. by w (found w) refl }
  where
    by : (w : ℕ) (o : Option Found) → found w ≡ o → restrict keep' found w ≡ restrict keep found w
    by w None n = kept_none keep' found w n ∙ sym (kept_none keep found w n)
    by w (Some f) is = ap (keep_if keep') is ∙ ap (λ b. cond b (Some f) None) (same w f is) ∙ sym (ap (keep_if keep) is)

-- a kept object comes
pub kept_added : (keep keep' : Found → Bool) (found after : ℕ → Option Found) (f : Found) → IsAdded found after f → keep' f ≡ true → ((w : ℕ) (g : Found) → found w ≡ Some g → keep' g ≡ keep g)
    → IsAdded (restrict keep found) (restrict keep' after) f
kept_added keep keep' found after f came k same = record {
  before = λ w r. kept_none keep found w (came.before w r);
  after = λ w r. kept_is keep' after w f (came.after w r) k;
  others = λ w not. ap (keep_if keep') (came.others w not) ∙ (kept_same keep keep' found same).same w;
}

-- a kept object goes
pub kept_removed : (keep keep' : Found → Bool) (found after : ℕ → Option Found) (f : Found) → IsRemoved found after f → keep f ≡ true → ((w : ℕ) (g : Found) → after w ≡ Some g → keep' g ≡ keep g)
    → IsRemoved (restrict keep found) (restrict keep' after) f
kept_removed keep keep' found after f gone k same = record {
  before = λ w r. kept_none keep' after w (gone.before w r);
  after = λ w r. kept_is keep found w f (gone.after w r) k;
  others = λ w not. ap (keep_if keep) (gone.others w not) ∙ sym ((kept_same keep keep' after same).same w);
}

-- a marked object is kept
pub marked_kept : (pending marks : List Bool) (f : Found) → Has marks (granule f.base) → is_kept pending marks f ≡ true
marked_kept pending marks f m = look (get_or pending f.page false) refl
  where
    look : (b : Bool) → get_or pending f.page false ≡ b → is_kept pending marks f ≡ true
    look true p = pending_marked pending marks f p ∙ m
    look false p = nothing_pending pending marks f (λ h. false≢true (sym p ∙ h))

-- A cycle has ended: to the heap exactly the unmarked objects are gone, of those that were there, all of which were kept.
-- The large ones are gone from the map, and the pages of the others are still to be swept.
pub ended_lazily : (marks pending : List Bool) (found after : ℕ → Option Found)
    → ((w : ℕ) (f : Found) → after w ≡ Some f → found w ≡ Some f)
    → ((w : ℕ) (f : Found) → found w ≡ Some f → Has marks (granule f.base) → after w ≡ Some f)
    → ((w : ℕ) (f : Found) → after w ≡ Some f → (Has marks (granule f.base) → ⊥) → Has pending f.page)
    → (w : ℕ) (f : Found) → (restrict (is_kept pending marks) after w ≡ Some f → (found w ≡ Some f) × Has marks (granule f.base)) × ((found w ≡ Some f) × Has marks (granule f.base) → restrict (is_kept pending marks) after w ≡ Some f)
ended_lazily marks pending found after less kept unswept w f = (to, from)
  where
    to : restrict (is_kept pending marks) after w ≡ Some f → (found w ≡ Some f) × Has marks (granule f.base)
    to e = let k = kept_cases (is_kept pending marks) after w f e in (less w f k.0, look (get_or marks (granule f.base) false) refl k.0 k.1)
      where
        look : (b : Bool) → get_or marks (granule f.base) false ≡ b → after w ≡ Some f → is_kept pending marks f ≡ true → Has marks (granule f.base)
        look true m there k = m
        look false m there k = absurd (false≢true (sym m ∙ sym (pending_marked pending marks f (unswept w f there (λ h. false≢true (sym m ∙ h)))) ∙ k))

    from : (found w ≡ Some f) × Has marks (granule f.base) → restrict (is_kept pending marks) after w ≡ Some f
    from x = kept_is (is_kept pending marks) after w f (kept w f x.0 x.1) (marked_kept pending marks f x.1)
