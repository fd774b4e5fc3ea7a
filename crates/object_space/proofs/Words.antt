-- The words of objects, while other words change.
use Rattle.std.proofs.Common.{◌≡◌, ℕ, ◌+◌, ◌<◌, ◌≤◌, ◌⊎◌, List, get_or, Option, Some, None, refl, sym, ap, ◌∙◌, inl, inr, ⊎_elim, arith}
use Rattle.std.proofs.lemmas.Bool.{cases_lt}
use Rattle.words.specs.declared.limits.TheConstants.{FIRST_ADDRESS}
use Rattle.heap_spec.specs.Heap.{Object}
use Rattle.pages.specs.Memory.{IsZeroed, word_index, word_at}
use Rattle.block_map.specs.Objects.{IsMap, IsPlaced, IsInside}
use Rattle.block_map.specs.Changes.{IsAdded}
use Rattle.block_map.specs.declared.found.Found.{Found}
use Rattle.marker.specs.Marking.{word_address}
use Rattle.marker.specs.Mutations.{KeepsWords, HasZeroWords}
use Rattle.heap_view.specs.Shows.{IsShown, Shows}

-- where the word of an object stands in the memory
pub word_place : (f : Found) (i : ℕ) → FIRST_ADDRESS ≤ f.base → word_index (word_address f i) ≡ word_index f.base + i
word_place f i low = omega arith

pub word_is : (words : List ℕ) (f : Found) (i : ℕ) → FIRST_ADDRESS ≤ f.base → word_at words (word_address f i) ≡ get_or words (word_index f.base + i) 0
word_is words f i low = ap (λ k. get_or words k 0) (word_place f i low)

-- an object whose words stay is shown as before
pub shown_kept : (words words' : List ℕ) (f : Found) (o : Object) → FIRST_ADDRESS ≤ f.base → ((i : ℕ) → i < f.len → word_at words' (word_address f i) ≡ word_at words (word_address f i)) → IsShown words f o → IsShown words' f o
shown_kept words words' f o low same shown = record {
  kind = shown.kind;
  size = shown.size;
  word = λ i lt. shown.word i lt ∙ sym (word_is words f i low) ∙ sym (same i lt) ∙ word_is words' f i low;
}

-- and so are all
pub shows_kept : (found : ℕ → Option Found) (words words' : List ℕ) (objects : ℕ → Option Object) (births : ℕ) → ((f : Found) → found f.base ≡ Some f → FIRST_ADDRESS ≤ f.base) → KeepsWords found words words' → Shows found words objects births → Shows found words' objects births
shows_kept found words words' objects births low keeps shows = record {
  shown = record {
    kept = λ f is. let old = shows.shown.kept f is in (old.0, old.1, shown_kept words words' f old.0 (low f is) (λ i lt. keeps f i is lt) old.2);
    only = shows.shown.only;
  };
  born = shows.born;
  distinct = shows.distinct;
}

-- the words of an object become 0
pub zeroed_object : (pages : ℕ) (words words' : List ℕ) (f : Found) → IsPlaced pages f → IsZeroed words words' (word_index f.base) f.len → HasZeroWords words' f
zeroed_object pages words words' f placed z i lt = let low = placed.above in z.zero (word_index (word_address f i)) (omega arith) (omega arith)

-- and the words of the objects that were there stay
pub others_kept : (found after : ℕ → Option Found) (pages : ℕ) (words words' : List ℕ) (f : Found) → IsMap pages found → IsPlaced pages f → IsAdded found after f → IsZeroed words words' (word_index f.base) f.len → KeepsWords found words words'
others_kept found after pages words words' f map placed added z g i there lt = z.others (word_index (word_address g i)) (outside (word_address g i) refl)
  where
    clash : None ≡ Some g → ⊥
    clash e = cc

    outside : (w : ℕ) → w ≡ word_address g i → (word_index w < word_index f.base) ⊎ (word_index f.base + f.len ≤ word_index w)
    outside w e =
        let above = (map.placed g.base g there).above in let even = (map.placed g.base g there).aligned in
        let low = placed.above in let aligned = placed.aligned in
        ⊎_elim (λ before. inl before)
        (λ from. ⊎_elim
        (λ inside. absurd (
        let r : IsInside w f = record { from = omega arith; below = omega arith } in
        let some : found w ≡ Some g = map.whole g.base w g there (record { from = omega arith; below = omega arith }) in
        clash (sym (added.before w r) ∙ some)))
        (λ past. inr past)
        (cases_lt (word_index w) (word_index f.base + f.len)))
        (cases_lt (word_index w) (word_index f.base))
