-- Each mark is that of an object.
use Rattle.std.proofs.Common.{◌≡◌, ℕ, ◌%◌, ◌≤◌, ◌∙◌, Option, Some, sym, subst, ⊎_elim, arith}
use Rattle.std.specs.Prelude.{◌⊎◌}
use Rattle.std.proofs.lemmas.Bool.{false≢true}
use Rattle.words.specs.declared.limits.TheConstants.{FIRST_ADDRESS, GRANULE_BYTES}
use Rattle.words.specs.Bits.{Has}
use Rattle.words.specs.Layout.{granule}
use Rattle.block_map.specs.declared.found.Found.{Found}
use Rattle.block_map.specs.Objects.{IsMap}
use Rattle.marker.specs.Marking.{Marking, AreMarksObjects, IsBlank, IsMarked, IsObjectGranule}
use Rattle.marker.specs.Growth.{MarksWord, nothing, object}
use Rattle.marker.proofs.Closures.{at_base}
use Rattle.marker.proofs.Spreads.{has_set_back}

-- nothing is marked
pub blank_objects : (found : ℕ → Option Found) (pages : ℕ) (m : Marking) → IsBlank pages m → AreMarksObjects found m
blank_objects found pages m blank k h = absurd (false≢true (sym (blank.marks.clear k) ∙ h))

-- only marks of objects come
pub objects_marked : (found : ℕ → Option Found) (a b : Marking) → AreMarksObjects found a → ((k : ℕ) → Has b.marks k → Has a.marks k ⊎ IsObjectGranule found k) → AreMarksObjects found b
objects_marked found a b before grown k h = ⊎_elim (before k) (λ o. o) (grown k h)

-- one word is done with
pub objects_word : (pages : ℕ) (found : ℕ → Option Found) → IsMap pages found → (w : ℕ) (old new : Marking) → AreMarksObjects found old → MarksWord found w old new → AreMarksObjects found new
objects_word pages found map w old new objects (nothing t e) = subst (AreMarksObjects found) (sym e) objects
objects_word pages found map w old new objects (object f is x) = λ k h.
    ⊎_elim (λ o. objects k o) (λ (s : k ≡ granule f.base). record { object = f; is = at_base pages found map w f is; first = sym s })
    (has_set_back old.marks (granule f.base) k (subst (λ r. Has r k) x.marks h))

-- The word is the first address of a marked granule: it points into the object whose mark it is.
pub marked_base : (pages : ℕ) (found : ℕ → Option Found) (m : Marking) (w : ℕ) → IsMap pages found → AreMarksObjects found m → FIRST_ADDRESS ≤ w → w % GRANULE_BYTES ≡ 0 → Has m.marks (granule w)
    → (f : Found) × (found w ≡ Some f) × IsMarked m f.base
marked_base pages found m w map objects from aligned has =
    let o = objects (granule w) has in
    let p = map.placed _ o.object o.is in
    let a = p.aligned in let b = p.above in let g = o.first in
    let base : o.object.base ≡ w = omega (arith, a, b, g, from, aligned) in (
      o.object,
      subst (λ (v : ℕ). found v ≡ Some o.object) base o.is,
      subst (λ (k : ℕ). Has m.marks k) (sym o.first) has,
    )
