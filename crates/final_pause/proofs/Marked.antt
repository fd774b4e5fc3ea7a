-- A dirty page that is cut is read by the marks of before.
use Rattle.std.proofs.Common.{◌≡◌, ℕ, ◌+◌, ◌*◌, ◌/◌, ◌%◌, ◌<◌, ◌≤◌, ◌==◌, List, Bool, true, false, Some, length, get_or, sym, ap, subst, ◌∙◌, ⊎_elim, arith}
use Rattle.std.specs.Int.{bit_at}
use Rattle.std.proofs.lemmas.Bool.{cases_lt}
use Rattle.words.specs.Bits.{Has, bits}
use Rattle.words.specs.Layout.{granule}
use Rattle.words.specs.declared.class.Kind.TheVariants.{Normal, PointerFree}
use Rattle.words.specs.declared.limits.TheConstants.{FIRST_ADDRESS, GRANULE_BYTES, PAGE_GRANULES}
use Rattle.words.proofs.Rows.{get_or-bits}
use Rattle.blocks.specs.Cells.{Cells}
use Rattle.block_map.specs.declared.found.Found.{Found}
use Rattle.block_map.specs.FoundIn.{found_in_block}
use Rattle.block_map.specs.Objects.{IsMap}
use Rattle.block_map.specs.States.{cut, state_at}
use Rattle.mark_bits.specs.declared.claimer_view.ClaimerView.{ClaimerView}
use Rattle.mark_bits.specs.Claims.{knows}
use Rattle.mark_bits.proofs.Words.{bit_is}
use Rattle.marker.specs.Marking.{word_address}
use Rattle.marker.proofs.Closures.{same_object}
use Rattle.marker.proofs.Rereading.{cut_begins, cut_kind, found_cut}
use Rattle.marker.proofs.Rescanning.{reads_own}
use Rattle.final_pause.specs.Pauses.{PauseView}
use Rattle.final_pause.specs.Helping.{found, IsReadyPause, IsWordRead}
use Rattle.final_pause.specs.Serving.{IsTurnAt, AreObjectsRead, IsPageRead}
use Rattle.final_pause.proofs.Growing.{word_more}

-- the bits of the word j of a row
pub bits_of_word : (row : List Bool) (words : List ℕ) (j : ℕ) → bits words (length row) ≡ row → 64 * (j + 1) ≤ length row → (k : ℕ) → k / 64 ≡ j → get_or row k false ≡ (bit_at (get_or words j 0) (k % 64) == 1)
bits_of_word row words j is fits k e =
    ap (λ r. get_or r k false) (sym is)
    ∙ get_or-bits words (length row) k false (omega arith)
    ∙ bit_is words k
    ∙ ap (λ i. bit_at (get_or words i 0) (k % 64) == 1) e

-- how many marks there are
pub marks_len : (p : PauseView) → IsReadyPause p → length p.marker.marks ≡ PAGE_GRANULES * length p.map
marks_len p ready = ap length (sym ready.start) ∙ ready.granules

-- what a granule of a page that is cut finds is told by the page's block
pub granule_finds : (p : PauseView) (page g : ℕ) (b : Cells) → state_at p.map page ≡ cut b → PAGE_GRANULES * page ≤ g → g < PAGE_GRANULES * (page + 1)
    → found p (FIRST_ADDRESS + GRANULE_BYTES * g) ≡ found_in_block page b (FIRST_ADDRESS + GRANULE_BYTES * g)
granule_finds p page g b is from below = found_cut p.map page (FIRST_ADDRESS + GRANULE_BYTES * g) b is (omega arith) (omega arith)

module _ (p : PauseView) (map : IsMap (length p.map) (found p)) where
  -- none of these granules was marked and has the turn
  pub objects_none : (v : ClaimerView) (c : List Bool) (place number low past : ℕ) → ((k : ℕ) → low ≤ k → k < past → Has p.marker.marks k → IsTurnAt p place number k → ⊥) → AreObjectsRead p v c place number low past
  objects_none v c place number low past none f o n m turn from below i lt = absurd (none (granule f.base) from below m turn)

  -- no object begins at this granule
  pub objects_other : (v : ClaimerView) (c : List Bool) (place number g : ℕ) → ((f : Found) → found p (FIRST_ADDRESS + GRANULE_BYTES * g) ≡ Some f → f.base ≡ FIRST_ADDRESS + GRANULE_BYTES * g → ⊥) → AreObjectsRead p v c place number g (g + 1)
  objects_other v c place number g none f o n m turn from below i lt =
      let placed = map.placed f.base f o in let above = placed.above in let aligned = placed.aligned in
      let base : f.base ≡ FIRST_ADDRESS + GRANULE_BYTES * g = omega arith in
      absurd (none f (sym (ap (found p) base) ∙ o) base)

  -- the words of the object that begins at this granule were read
  pub objects_one : (v : ClaimerView) (c : List Bool) (place number g : ℕ) (f : Found) → found p f.base ≡ Some f → granule f.base ≡ g → ((i : ℕ) → i < f.len → IsWordRead p v c f i) → AreObjectsRead p v c place number g (g + 1)
  objects_one v c place number g f is at read h o n m turn from below i lt =
      let s : f ≡ h = same_object (length p.map) (found p) map f h is o (omega arith) in
      subst (λ (y : Found). i < y.len → IsWordRead p v c y i) s (read i) lt

  -- granules up to one, and then from it on
  pub objects_append : (v : ClaimerView) (c : List Bool) (place number low at past : ℕ) → AreObjectsRead p v c place number low at → AreObjectsRead p v c place number at past → AreObjectsRead p v c place number low past
  objects_append v c place number low at past a b f o n m turn from below i lt =
      ⊎_elim (λ before. a f o n m turn from before i lt) (λ after. b f o n m turn after below i lt) (cases_lt (granule f.base) at)

  pub objects_more : (v w : ClaimerView) (c d : List Bool) → ((k : ℕ) → knows v k ≡ true → knows w k ≡ true) → ((q : ℕ) → Has c q → Has d q) → (place number low past : ℕ) → AreObjectsRead p v c place number low past → AreObjectsRead p w d place number low past
  objects_more v w c d more carried place number low past h f o n m turn from below i lt = word_more p v w c d more carried f i (h f o n m turn from below i lt)

  -- granules that had no mark or not the turn are passed, and then the object at another was read
  pub objects_next : (v w : ClaimerView) (c d : List Bool) → ((k : ℕ) → knows v k ≡ true → knows w k ≡ true) → ((q : ℕ) → Has c q → Has d q) → (place number low mid at past : ℕ) → past ≡ at + 1
      → ((k : ℕ) → mid ≤ k → k < at → Has p.marker.marks k → IsTurnAt p place number k → ⊥) → AreObjectsRead p v c place number low mid → AreObjectsRead p w d place number at (at + 1) → AreObjectsRead p w d place number low past
  objects_next v w c d more carried place number low mid at past end none x y =
      let before = objects_append w d place number low mid at (objects_more v w c d more carried place number low mid x) (objects_none w d place number mid at none) in
      subst (AreObjectsRead p w d place number low) (sym end) (objects_append w d place number low at (at + 1) before y)

  module _ (page : ℕ) (b : Cells) (is : state_at p.map page ≡ cut b) (v : ClaimerView) (c : List Bool) (place number : ℕ) where
    -- all objects that begin on a page that is cut, and so all of which a word stands there
    pub objects_page : AreObjectsRead p v c place number (PAGE_GRANULES * page) (PAGE_GRANULES * (page + 1)) → IsPageRead p v c place number page
    objects_page read f o n m turn i lt from below =
        let base = cut_begins p.map page (word_address f i) b f is from below (reads_own (length p.map) (found p) map f i o lt) in
        read f o n m turn (omega arith) (omega arith) i lt

    -- the objects of a block of another kind
    pub page_free : b.kind ≡ PointerFree → IsPageRead p v c place number page
    page_free kind f o n m turn i lt from below =
        let k = cut_kind p.map page (word_address f i) b f is from below (reads_own (length p.map) (found p) map f i o lt) in
        let z : PointerFree ≡ Normal = sym kind ∙ sym k ∙ n in absurd (cc z)
