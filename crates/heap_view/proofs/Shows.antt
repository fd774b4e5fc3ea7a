-- What the objects that a map finds are to a heap that has the same.
use Rattle.std.proofs.Common.{◌≡◌, ℕ, ◌+◌, ◌-◌, ◌*◌, ◌/◌, ◌%◌, ◌<◌, ◌≤◌, List, length, get_or, Option, Some, None, sym, ap, ◌∙◌, subst, arith}
use Rattle.std.specs.Prelude.{slice_index}
use Rattle.std.proofs.lemmas.Option.{same_Some}
use Rattle.words.specs.declared.limits.TheConstants.{FIRST_ADDRESS, PAGE_WORDS}
use Rattle.heap_spec.specs.Layout.{PointsInto}
use Rattle.heap_spec.specs.Heap.{Object}
use Rattle.pages.specs.Memory.{IsWordAddress, word_index, word_at}
use Rattle.block_map.specs.Objects.{IsMap}
use Rattle.block_map.specs.declared.found.Found.{Found}
use Rattle.marker.specs.Marking.{word_address}
use Rattle.heap_view.specs.Shows.{IsShown, ShowsObjects}

module _ (found : ℕ → Option Found) (pages : ℕ) (map : IsMap pages found) where
  -- an object that is found is found at its base
  pub at_base : (w : ℕ) (f : Found) → found w ≡ Some f → found f.base ≡ Some f
  at_base w f is =
      let some = (map.placed w f is).some in
      map.whole w f.base f is (record { from = omega arith; below = omega arith })

  -- objects that are found at one base are one
  pub one_at_base : (f g : Found) → found f.base ≡ Some f → found g.base ≡ Some g → g.base ≡ f.base → g ≡ f
  one_at_base f g a b same = same_Some _ _ (sym b ∙ ap found same ∙ a)

  -- the address of a word of an object is one of the memory's
  pub is_word : (words : List ℕ) → length words ≡ PAGE_WORDS * pages → (w : ℕ) (f : Found) → found w ≡ Some f → w % 8 ≡ 0 → IsWordAddress words w
  is_word words long w f is aligned =
      let above = (map.placed w f is).above in let ends = (map.placed w f is).below in
      let from = (map.reads w f is).from in let below = (map.reads w f is).below in
      record { aligned = aligned; above = omega arith; below = omega arith }

  -- where the word at an address stands in its object
  pub index_of_word : (w : ℕ) (f : Found) → found w ≡ Some f → w % 8 ≡ 0 → ((w - f.base) / 8 < f.len) × (word_index f.base + (w - f.base) / 8 ≡ word_index w)
  index_of_word w f is aligned =
      let even = (map.placed w f is).aligned in let above = (map.placed w f is).above in
      let from = (map.reads w f is).from in let below = (map.reads w f is).below in
      (omega arith, omega arith)

  -- the word of an object that has the place of an address is read by it
  pub reads_place : (w i : ℕ) (g : Found) → found g.base ≡ Some g → i < g.len → FIRST_ADDRESS ≤ w → w % 8 ≡ 0 → word_index g.base + i ≡ word_index w → found w ≡ Some g
  reads_place w i g is inside low aligned same =
      let even = (map.placed g.base g is).aligned in let above = (map.placed g.base g is).above in
      map.whole g.base w g is (record { from = omega arith; below = omega arith })

  module _ (words : List ℕ) (objects : ℕ → Option Object) (shows : ShowsObjects found words objects) where
    -- an address that finds an object reads the heap's
    pub reads_object : (w : ℕ) (f : Found) → found w ≡ Some f → (o : Object) × (objects f.base ≡ Some o) × IsShown words f o × PointsInto w f.base (length o.words)
    reads_object w f is =
        let kept = shows.kept f (at_base w f is) in
        let from = (map.reads w f is).from in let below = (map.reads w f is).below in let size = kept.2.size in
        (kept.0, kept.1, kept.2, (from, omega arith))

    -- an object of the heap is the one that is found at its base
    pub seen : (base : ℕ) (o : Object) → objects base ≡ Some o → (f : Found) × (found base ≡ Some f) × (f.base ≡ base) × IsShown words f o
    seen base o is =
        let only = shows.only base o is in
        let kept = shows.kept only.0 (ap found only.2 ∙ only.1) in
        let same : kept.0 ≡ o = same_Some _ _ (sym kept.1 ∙ ap objects only.2 ∙ is) in
        (only.0, only.1, only.2, subst (IsShown words only.0) same kept.2)

    -- an address that finds nothing reads nothing
    pub reads_nothing : (w : ℕ) → found w ≡ None → (base : ℕ) (o : Object) → objects base ≡ Some o → PointsInto w base (length o.words) → ⊥
    reads_nothing w none base o is reads =
        let only = seen base o is in
        let size = only.3.size in
        let at = only.2 in let from = reads.0 in let below = reads.1 in
        let again : found w ≡ Some only.0 = map.whole base w only.0 only.1 (record { from = omega arith; below = omega arith }) in
        cc

    -- an address that finds an object reads the word that the memory has there
    pub word_read : (w : ℕ) (f : Found) (o : Object) → found w ≡ Some f → IsShown words f o → w % 8 ≡ 0 → slice_index o.words ((w - f.base) / 8) ≡ word_at words w
    word_read w f o is shown aligned =
        let at = index_of_word w f is aligned in
        shown.word ((w - f.base) / 8) at.0 ∙ ap (λ i. get_or words i 0) at.1

  -- a word of an object is the one that the memory has at its address
  pub word_shown : (words : List ℕ) (f : Found) (o : Object) → found f.base ≡ Some f → IsShown words f o → (i : ℕ) → i < f.len → slice_index o.words i ≡ word_at words (word_address f i)
  word_shown words f o is shown i lt = shown.word i lt ∙ ap (λ k. get_or words k 0) where_is
    where
      where_is : word_index f.base + i ≡ word_index (f.base + 8 * i)
      where_is = let above = (map.placed f.base f is).above in omega arith
