-- Cells of a page that are taken one after the other.
use Rattle.std.proofs.Common.{◌≡◌, ℕ, ◌<◌, true, false, Bool, List, [], length, set, sym, ap, ◌∙◌, subst, arith, length-set, get_or-set_same}
use Rattle.std.proofs.lemmas.List.{set-set, set-get_or}
use Rattle.words.specs.declared.class.Kind.{Kind}
use Rattle.blocks.specs.Lists.{link_of, Pops}
use Rattle.block_map.specs.Listed.{first_on, link_on, with_taken, HasFirst}
use Rattle.block_map.specs.States.{PageState, free, cut, state_at, IsLaid}
use Rattle.block_map.specs.Takings.{after_take, TakesCells}
use Rattle.block_map.proofs.Laid.{laid_cell}
use Rattle.block_map.proofs.Changing.{cell_taken}

-- a page cut for a class and a kind, with these cells allocated and this first free one
abbrev cut_as : ℕ → Kind → List Bool → ℕ → PageState
cut_as c k taken first = cut (record { class = c; kind = k; taken = taken; first = first })

-- cells of a page were taken, and all other pages are as they were
pub takes_row : {link : ℕ → ℕ} {row after : List Bool} {first last : ℕ} {cells : List ℕ} → Pops link row first cells after last → (words : List ℕ) (s : List PageState) (p c : ℕ) (k : Kind) → link ≡ link_of words p c → IsLaid s → p < length s
    → state_at s p ≡ cut_as c k row first → TakesCells words p s cells (set s p (cut_as c k after last)) × IsLaid (set s p (cut_as c k after last))
takes_row (Pops.done {row = row} {first = first}) words s p c k links laid lt is =
    let same : set s p (cut_as c k row first) ≡ s = ap (set s p) (sym is) ∙ set-get_or s p free in
    (subst (TakesCells words p s []) (sym same) TakesCells.done, subst IsLaid (sym same) laid)
takes_row {link = link} (Pops.next {row = row} {new = after} {first = first} {last = last} {more = more} here rest) words s p c k links laid lt is =
    let begins : first_on (state_at s p) ≡ first = ap first_on is in
    let has : HasFirst (state_at s p) = subst HasFirst (sym is) (here.inside, here.free) in
    let became : with_taken words p (state_at s p) ≡ cut_as c k (set row first true) (link_of words p c first) = ap (with_taken words p) is in
    let became_so : with_taken words p (state_at s p) ≡ cut_as c k (set row first true) (link first) = became ∙ ap (λ l. cut_as c k (set row first true) (l first)) (sym links) in
    let size : length (after_take words s p) ≡ length s = length-set s p (with_taken words p (state_at s p)) in
    let n : ℕ = link_on words p (state_at s p) (first_on (state_at s p)) in
    let later = takes_row rest words (after_take words s p) p c k links (laid_cell s p (first_on (state_at s p)) false true n laid lt has) (omega (arith, size, lt))
    (get_or-set_same s p (with_taken words p (state_at s p)) free lt ∙ became_so) in
    let same : set (after_take words s p) p (cut_as c k after last) ≡ set s p (cut_as c k after last) = set-set s p (with_taken words p (state_at s p)) (cut_as c k after last) in
    (TakesCells.next laid (sym begins) has (cell_taken s p (first_on (state_at s p)) n laid lt has) (subst (TakesCells words p (after_take words s p) more) same later.0), subst IsLaid same later.1)
