-- Words that no object reads: the lists of free cells stay where these do.
use Rattle.std.proofs.Common.{◌≡◌, ℕ, ◌+◌, ◌*◌, ◌<◌, ◌≤◌, ◌⊎◌, false, List, length, get_or, None, Some, inl, inr, sym, ap, ◌∙◌, ⊎_elim, arith, length-set, get_or-set_other}
use Rattle.std.specs.Prelude.{◌≢◌}
use Rattle.std.proofs.lemmas.Bool.{cases_lt}
use Rattle.words.specs.declared.limits.TheConstants.{WORD_BYTES}
use Rattle.pages.specs.Memory.{IsWordAddress, IsZeroed, word_index, word_at, with_word_at}
use Rattle.blocks.specs.Cells.{Cells, IsCells}
use Rattle.blocks.specs.Lists.{cell_start, IsFreeCellOf}
use Rattle.blocks.proofs.Lists.{cell_address}
use Rattle.blocks.proofs.Places.{class_bounds}
use Rattle.block_map.specs.States.{PageState, cut, state_at, IsLaid}
use Rattle.block_map.specs.Listed.{AreListed}
use Rattle.block_map.specs.FoundIn.{found_in}
use Rattle.block_map.specs.declared.found.Found.{Found}
use Rattle.block_map.proofs.Seen.{laid_at}
use Rattle.block_map.proofs.Words.{read_cell}
use Rattle.block_map.proofs.Finding.{found_as, block_none}
use Rattle.block_map.proofs.Lawful.{map_laws}
use Rattle.block_map.proofs.Listed.{has_page, listed_words}

-- no object reads the first word of a free cell
pub cell_unread : (states : List PageState) (page i : ℕ) (b : Cells) → IsLaid states → page < length states → state_at states page ≡ cut b → IsFreeCellOf b.taken i → found_in states (cell_start page b.class i) ≡ None
cell_unread states page i b laid lt is free =
    let cells : IsCells b = laid_at states page (cut b) laid is lt in
    let some = (class_bounds b.class cells.class).0 in
    let size = cells.size in let inside = free.inside in
    let r = read_cell page i (cell_start page b.class i) b (omega arith) (record { from = omega arith; below = omega arith }) in
    found_as states page (cell_start page b.class i) (cut b) r.0 is ∙ sym (block_none page (cell_start page b.class i) b (ap (λ k. get_or b.taken k false) r.1 ∙ free.free))

module _ (words : List ℕ) (states : List PageState) (laid : IsLaid states) where
  -- Where the words that no object reads stay, the lists do.
  pub listed_unread : (words' : List ℕ) → length words' ≡ length words → ((a : ℕ) → IsWordAddress words a → found_in states a ≡ None → word_at words' a ≡ word_at words a) → AreListed words states → AreListed words' states
  listed_unread words' size same listed = listed_words words words' states size
      (λ p b i lt is free.
      let cells : IsCells b = laid_at states p (cut b) laid is lt in
      let long = cells.size in let inside = free.inside in
      same (cell_start p b.class i) (cell_address words p b.class i cells.class (has_page words states p listed lt) (omega arith)) (cell_unread states p i b laid lt is free))
      listed

  -- a word of an object is written
  pub listed_write : (a w : ℕ) (f : Found) → IsWordAddress words a → found_in states a ≡ Some f → AreListed words states → AreListed (with_word_at words a w) states
  listed_write a w f at found listed = listed_unread (with_word_at words a w) (length-set words (word_index a) w)
      (λ v is none. get_or-set_other words (word_index a) (word_index v) w 0 (apart v is none)) listed
    where
      apart : (v : ℕ) → IsWordAddress words v → found_in states v ≡ None → word_index v ≢ word_index a
      apart v is none same =
          let a1 = at.aligned in let a2 = at.above in let v1 = is.aligned in let v2 = is.above in
          let e : v ≡ a = omega arith in
          let x : None ≡ Some f = sym none ∙ ap (found_in states) e ∙ found in cc x

  -- the words of an object become 0
  pub listed_zeroed : (words' : List ℕ) (f : Found) → found_in states f.base ≡ Some f → IsZeroed words words' (word_index f.base) f.len → AreListed words states → AreListed words' states
  listed_zeroed words' f found zeroed listed = listed_unread words' zeroed.size (λ v is none. zeroed.others (word_index v) (out v is none)) listed
    where
      out : (v : ℕ) → IsWordAddress words v → found_in states v ≡ None → word_index v < word_index f.base ⊎ word_index f.base + f.len ≤ word_index v
      out v is none =
          let map = (map_laws states laid).map in
          let p = map.placed f.base f found in
          let f1 = p.aligned in let f2 = p.above in let v1 = is.aligned in let v2 = is.above in
          ⊎_elim (λ (low : v < f.base). inl (omega arith))
          (λ from. ⊎_elim
          (λ (below : v < f.base + WORD_BYTES * f.len). absurd (let x : None ≡ Some f = sym none ∙ map.whole f.base v f found (record { from = from; below = below }) in cc x))
          (λ past. inr (omega arith))
          (cases_lt v (f.base + WORD_BYTES * f.len)))
          (cases_lt v f.base)
