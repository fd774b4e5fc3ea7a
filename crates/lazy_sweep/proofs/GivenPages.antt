-- Pages that become free in the pool and in the map.
use Rattle.std.proofs.Common.{◌≡◌, ℕ, ◌+◌, ◌<◌, ◌≤◌, ◌⊎◌, Bool, true, false, List, length, get_or, sym, ◌∙◌, arith, ⊎_elim}
use Rattle.std.proofs.lemmas.Bool.{cases_lt}
use Rattle.std.proofs.lemmas.List.{get_or_past}
use Rattle.words.specs.Bits.{IsEmptyFrom}
use Rattle.pages.specs.Runs.{IsFilled}
use Rattle.blocks.specs.Cells.{Cells}
use Rattle.block_map.specs.States.{PageState, free, cut, state_at, IsSpanSet}
use Rattle.block_map.specs.Changes.{HasNoObject}
use Rattle.block_map.proofs.Spans.{place_of}
use Rattle.lazy_sweep.specs.Store.{Agree}

-- pages that become free in the pool and in the map
module _ (row row' : List Bool) (states states' : List PageState) (first n : ℕ) (given : IsFilled row row' first n true) (span : IsSpanSet states states' first n (λ _. free)) where
  pub agree_given : length row ≡ length states → ((p : ℕ) → (p < first) ⊎ (first + n ≤ p) → get_or row p false ≡ true → state_at states p ≡ free)
      → ((p : ℕ) → (p < first) ⊎ (first + n ≤ p) → p < length states → state_at states p ≡ free → get_or row p false ≡ true) → Agree row' states'
  agree_given size to from = record {
    size = given.size ∙ size ∙ sym span.size;
    free_in_map = λ p is. ⊎_elim (λ h. span.inside p h.0 h.1) (λ out. span.others p out ∙ to p out (sym (given.others p out) ∙ is)) (place_of first n p);
    free_in_pool = λ p lt is. ⊎_elim (λ h. given.inside p h.0 h.1 (let z = span.size in omega arith)) (λ out. given.others p out ∙ from p out (let z = span.size in omega arith) (sym (span.others p out) ∙ is)) (place_of first n p);
  }

  pub used_given : ((p : ℕ) (b : Cells) → (p < first) ⊎ (first + n ≤ p) → state_at states p ≡ cut b → (i : ℕ) × (get_or b.taken i false ≡ true))
      → (p : ℕ) (b : Cells) → state_at states' p ≡ cut b → (i : ℕ) × (get_or b.taken i false ≡ true)
  used_given used p b is = ⊎_elim
      (λ h. absurd (let z : free ≡ cut b = sym (span.inside p h.0 h.1) ∙ is in no_block b z))
      (λ out. used p b out (sym (span.others p out) ∙ is))
      (place_of first n p)
    where
      no_block : (b : Cells) → free ≡ cut b → ⊥
      no_block b z = cc

-- no cell is allocated
pub no_object : (row : List Bool) → IsEmptyFrom row 0 → HasNoObject row
no_object row empty k = ⊎_elim (λ lt. empty k (omega arith) lt) (λ past. get_or_past row k false past) (cases_lt k (length row))
