-- Words of free pages: no list of free cells has one.
use Rattle.std.proofs.Common.{◌≡◌, ℕ, List, length, sym, ap, ◌∙◌, arith}
use Rattle.words.specs.Layout.{page_of}
use Rattle.pages.specs.Memory.{IsWordAddress, word_at}
use Rattle.blocks.specs.Cells.{Cells, IsCells}
use Rattle.blocks.specs.Lists.{cell_start}
use Rattle.blocks.proofs.Lists.{cell_address}
use Rattle.block_map.specs.States.{PageState, free, cut, state_at, IsLaid}
use Rattle.block_map.specs.Listed.{AreListed}
use Rattle.block_map.proofs.Listed.{has_page, listed_words}
use Rattle.block_map.proofs.Seen.{laid_at}
use Rattle.block_map.proofs.Words.{read_cell}

not_cut : (b : Cells) → free ≡ cut b → ⊥
not_cut b e = cc

-- where the words of the other pages stay, the lists do
pub listed_used : (words words' : List ℕ) (states : List PageState) → IsLaid states → length words' ≡ length words → ((a : ℕ) → IsWordAddress words a → (state_at states (page_of a) ≡ free → ⊥) → word_at words' a ≡ word_at words a)
    → AreListed words states → AreListed words' states
listed_used words words' states laid size same listed = listed_words words words' states size
    (λ page b i lt is free_cell.
    let cells : IsCells b = laid_at states page (cut b) laid is lt in
    let long = cells.size in let inside = free_cell.inside in
    let a : ℕ = cell_start page b.class i in
    let at : IsWordAddress words a = cell_address words page b.class i cells.class (has_page words states page listed lt) (omega arith) in
    let read = (read_cell page i a b (omega arith) (record { from = omega arith; below = omega arith })).0 in
    let from = read.from in let below = read.below in
    let on : page_of a ≡ page = omega arith in
    same a at (λ e. not_cut b (sym e ∙ ap (state_at states) on ∙ is)))
    listed
