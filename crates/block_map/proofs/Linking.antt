-- The free cells of a page become a list: no word points into another object than before.
use Rattle.std.proofs.Common.{◌≡◌, ℕ, ◌<◌, List, length, set, sym, ap, ◌∙◌, subst, arith, get_or-set_same}
use Rattle.blocks.specs.Cells.{Cells}
use Rattle.blocks.specs.Lists.{ChangesPage}
use Rattle.block_map.specs.Changes.{IsSameMap}
use Rattle.block_map.specs.FoundIn.{found_in, found_on}
use Rattle.block_map.specs.Listed.{AreListed, IsListedOn}
use Rattle.block_map.specs.States.{PageState, free, cut, state_at, IsLaid}
use Rattle.block_map.proofs.Changing.{same_but}
use Rattle.block_map.proofs.Finding.{found_as}
use Rattle.block_map.proofs.Laid.{laid_cut}
use Rattle.block_map.proofs.Listed.{listed_set}
use Rattle.block_map.proofs.Spans.{closed_one, cut_plain, span_one, IsPlain}

-- the block has another first free cell
module _ (s t : List PageState) (p : ℕ) (b d : Cells) (laid : IsLaid s) (lt : p < length s) (is : state_at s p ≡ cut b) (became : t ≡ set s p (cut d)) (first : d ≡ record b { first = d.first }) where
  pub laid_linked : IsLaid t
  laid_linked = subst IsLaid (sym became) (laid_cut s p b d laid lt is (ap (λ (x : Cells). x.class) first) (ap (λ (x : Cells). length x.taken) first))

  at_page : state_at t p ≡ cut d
  at_page = ap (λ y. state_at y p) became ∙ get_or-set_same s p (cut d) free lt

  pub same_linked : IsSameMap (found_in s) (found_in t)
  same_linked = record {
    same = λ w. same_but s t p 1 (λ k out. ap (λ y. state_at y k) became ∙ (span_one s p (cut d) lt).others k out) (closed_one s p (subst IsPlain (sym is) (cut_plain (cut b) tt))) laid w
        (λ q x y at. let e : q ≡ p = omega arith in
        found_as t q w (cut d) at (ap (state_at t) e ∙ at_page)
        ∙ ap (λ (x : Cells). found_on t q (cut x) w) first
        ∙ sym (found_as s q w (cut b) at (ap (state_at s) e ∙ is)));
  }

  pub listed_linked : (words words' : List ℕ) → AreListed words s → ChangesPage words words' p → IsListedOn words' p (cut d) → AreListed words' t
  listed_linked words words' listed changes here = subst (AreListed words') (sym became) (listed_set words words' s p (cut d) laid lt listed changes here)
