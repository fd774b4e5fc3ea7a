-- An object whose words become 0 comes into the map.
use Rattle.std.proofs.Common.{◌≡◌, ℕ, ◌+◌, ◌*◌, ◌%◌, ◌<◌, ◌≤◌, List, length, Option, Some, None, sym, ◌∙◌, subst, inl, inr, ⊎_elim, arith}
use Rattle.std.proofs.lemmas.Bool.{cases_lt}
use Rattle.std.proofs.lemmas.Option.{same_Some}
use Rattle.words.specs.declared.limits.TheConstants.{FIRST_ADDRESS, GRANULE_BYTES, PAGE_GRANULES, PAGE_WORDS, WORD_BYTES}
use Rattle.words.specs.Layout.{granule}
use Rattle.pages.specs.Memory.{IsWordAddress, IsZeroed, word_index}
use Rattle.block_map.specs.Objects.{IsMap, IsPlaced, IsInside}
use Rattle.block_map.specs.Changes.{IsAdded}
use Rattle.block_map.specs.declared.found.Found.{Found}
use Rattle.marker.specs.Marking.{word_address}
use Rattle.marker.specs.Mutations.{KeepsWords, HasZeroWords}

-- an object's words are words of the memory, and its base has a mark
pub placed_in : (pages : ℕ) (words : List ℕ) (f : Found) → IsPlaced pages f → length words ≡ PAGE_WORDS * pages → IsWordAddress words f.base × (word_index f.base + f.len ≤ length words) × (granule f.base < PAGE_GRANULES * pages)
placed_in pages words f placed long =
    let a = placed.aligned in let b = placed.above in let c = placed.below in let d = placed.some in
    (record { aligned = omega arith; above = b; below = omega arith }, omega arith, omega arith)

pub zeroed : (pages : ℕ) (words words' : List ℕ) (f : Found) → IsPlaced pages f → IsZeroed words words' (word_index f.base) f.len → HasZeroWords words' f
zeroed pages words words' f placed z i lt =
    let b = placed.above in
    z.zero (word_index (word_address f i)) (omega arith) (omega arith)

-- the words of other objects stay
pub others_kept : (pages : ℕ) (before after : ℕ → Option Found) (words words' : List ℕ) (f : Found) → IsMap pages after → after f.base ≡ Some f → IsAdded before after f → IsZeroed words words' (word_index f.base) f.len
    → KeepsWords before words words'
others_kept pages before after words words' f map object added z g i e lt =
    let a = even.0 in let b = even.1 in let c = even.2 in let d = even.3 in
    z.others (word_index (word_address g i)) (⊎_elim
    (λ (low : word_address g i < f.base). inl (omega arith))
    (λ ge. ⊎_elim
    (λ (below : word_address g i < f.base + WORD_BYTES * f.len). absurd (not_inside (record { from = omega arith; below = below })))
    (λ past. inr (omega arith))
    (cases_lt (word_address g i) (f.base + WORD_BYTES * f.len)))
    (cases_lt (word_address g i) f.base))
  where
    placed : IsPlaced pages f
    placed = map.placed f.base f object

    apart : IsInside g.base f → ⊥
    apart r = let x : None ≡ Some g = sym (added.before g.base r) ∙ e in cc x

    there : after g.base ≡ Some g
    there = added.others g.base apart ∙ e

    even : (f.base % GRANULE_BYTES ≡ 0) × (g.base % GRANULE_BYTES ≡ 0) × (FIRST_ADDRESS ≤ f.base) × (FIRST_ADDRESS ≤ g.base)
    even = let p = placed in let q = map.placed g.base g there in (p.aligned, q.aligned, p.above, q.above)

    not_inside : IsInside (word_address g i) f → ⊥
    not_inside r =
        let some = placed.some in let a = even.0 in let b = even.1 in
        let w : after (word_address g i) ≡ Some g = map.whole g.base (word_address g i) g there (record { from = omega arith; below = omega arith }) in
        let s : g ≡ f = same_Some g f (sym w ∙ added.after (word_address g i) r) in
        apart (subst (λ (h : Found). IsInside h.base f) (sym s) (record { from = omega arith; below = omega arith }))
