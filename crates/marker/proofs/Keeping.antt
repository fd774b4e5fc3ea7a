-- The words of objects stay while words that no object has change.
use Rattle.std.proofs.Common.{◌≡◌, ℕ, ◌+◌, ◌*◌, ◌<◌, ◌≤◌, List, Option, None, Some, sym, ◌∙◌, subst, refl, inl, inr, ⊎_elim, arith, get_or-set_other}
use Rattle.std.specs.Prelude.{◌≢◌, ◌⊎◌}
use Rattle.std.proofs.lemmas.Option.{same_Some}
use Rattle.std.proofs.lemmas.Bool.{cases_lt}
use Rattle.words.specs.declared.limits.TheConstants.{PAGE_WORDS}
use Rattle.pages.specs.Memory.{word_index, with_word_at}
use Rattle.blocks.specs.Lists.{ChangesPage}
use Rattle.block_map.specs.declared.found.Found.{Found}
use Rattle.block_map.specs.Changes.{IsRemoved}
use Rattle.block_map.specs.FoundIn.{found_in}
use Rattle.block_map.specs.Objects.{IsMap, IsInside}
use Rattle.block_map.specs.States.{PageState, free, state_at}
use Rattle.block_map.proofs.Finding.{on_free}
use Rattle.marker.specs.Marking.{word_address}
use Rattle.marker.specs.Mutations.{KeepsWords}
use Rattle.marker.proofs.Mutating.{removed_less}

-- the first word of an object that has left is written
pub written_kept : (pages : ℕ) (found after : ℕ → Option Found) (words : List ℕ) (v : ℕ) (f : Found) → IsMap pages found → found f.base ≡ Some f → IsRemoved found after f → KeepsWords after words (with_word_at words f.base v)
written_kept pages found after words v f map object removed g i e lt = get_or-set_other words (word_index f.base) (word_index (word_address g i)) v 0 apart
  where
    there : found g.base ≡ Some g
    there = (removed_less found after f removed).before g.base g e

    apart : word_index (word_address g i) ≢ word_index f.base
    apart same =
        let a = (map.placed f.base f object).aligned in let b = (map.placed f.base f object).above in let some = (map.placed f.base f object).some in
        let c = (map.placed g.base g there).aligned in let d = (map.placed g.base g there).above in
        let is : found f.base ≡ Some g = map.whole g.base f.base g there (record { from = omega arith; below = omega arith }) in
        let s : f ≡ g = same_Some f g (sym object ∙ is) in
        let gone : None ≡ Some g = sym (removed.before g.base (subst (λ (h : Found). IsInside h.base f) s (record { from = omega arith; below = omega arith }))) ∙ e in
        cc gone

-- words of a free page change
pub page_kept : (pages : ℕ) (states : List PageState) (words words' : List ℕ) (page : ℕ) → IsMap pages (found_in states) → state_at states page ≡ free → ChangesPage words words' page → KeepsWords (found_in states) words words'
page_kept pages states words words' page map is changes g i there lt = changes.others (word_index (word_address g i)) (outside (word_address g i) refl)
  where
    outside : (w : ℕ) → w ≡ word_address g i → (word_index w < PAGE_WORDS * page) ⊎ (PAGE_WORDS * page + PAGE_WORDS ≤ word_index w)
    outside w e =
        let above = (map.placed g.base g there).above in let aligned = (map.placed g.base g there).aligned in
        ⊎_elim (λ before. inl before)
        (λ from. ⊎_elim
        (λ inside.
        let some : found_in states w ≡ Some g = map.whole g.base w g there (record { from = omega arith; below = omega arith }) in
        let none : None ≡ Some g = on_free states page w (record { from = omega arith; below = omega arith }) is ∙ some in
        absurd (cc none))
        (λ past. inr past)
        (cases_lt (word_index w) (PAGE_WORDS * page + PAGE_WORDS)))
        (cases_lt (word_index w) (PAGE_WORDS * page))
