-- The map stays laid out.
use Rattle.std.proofs.Common.{◌≡◌, ℕ, ◌+◌, ◌/◌, ◌<◌, ◌≤◌, Bool, false, List, length, set, replicate, refl, sym, ap, ◌∙◌, subst, arith, ⊎_elim, length-set, get_or-set_same}
use Rattle.std.proofs.lemmas.Bool.{cases_eq}
use Rattle.words.specs.declared.class.Kind.{Kind}
use Rattle.words.specs.declared.limits.TheConstants.{MOST_PAGES, PAGE_WORDS}
use Rattle.words.specs.Classes.{IsSizeClass}
use Rattle.blocks.specs.Cells.{Cells, IsCells}
use Rattle.block_map.specs.States.{PageState, free, cut, head, body, state_at, span_of, LaidAt, IsLaid, IsCut, HasCell, with_cell, IsSpanSet, large_states, all_free, AreFreePages}
use Rattle.block_map.proofs.Seen.{laid_at}
use Rattle.block_map.proofs.Spans.{Out, place_of, IsClosed, IsPlain, free_plain, cut_plain, closed_one, closed_free, closed_head, span_one, large_here, large_else}

module _ (old new : List PageState) (first n : ℕ) (size : length new ≡ length old)
    (others : (k : ℕ) → Out first n k → state_at new k ≡ state_at old k)
    (closed : IsClosed old first n) where
  elsewhere : (k : ℕ) (st : PageState) → Out first n k → state_at old k ≡ st → LaidAt old k st → LaidAt new k st
  elsewhere k free out is laid = tt
  elsewhere k (cut b) out is laid = laid
  elsewhere k (head m kind) out is laid =
      let ends = laid.1 in
      (laid.0, omega arith, (λ q a b. others q (closed.bodies q k out (laid.2 q a b)) ∙ laid.2 q a b))
  elsewhere k (body q) out is laid =
      (laid.0, laid.1, laid.2, others q (closed.heads k q out is laid.1 laid.2 laid.3) ∙ laid.3, laid.4)

  pub laid_span : IsLaid old → ((k : ℕ) → first ≤ k → k < first + n → k < length new → LaidAt new k (state_at new k)) → IsLaid new
  laid_span laid inside = record {
    few = let few = laid.few in omega arith;
    each = λ k lt. ⊎_elim (λ h. inside k h.0 h.1 lt)
        (λ out. subst (LaidAt new k) (sym (others k out)) (elsewhere k (state_at old k) out refl (laid.each k (omega arith))))
        (place_of first n k);
  }

pub set_one : (s : List PageState) (p : ℕ) (st : PageState) → IsLaid s → p < length s → IsPlain (state_at s p) → LaidAt (set s p st) p st → IsLaid (set s p st)
set_one s p st laid lt plain here =
    let span = span_one s p st lt in
    laid_span s (set s p st) p 1 span.size span.others (closed_one s p plain) laid
    (λ k a b l. let e : k ≡ p = omega arith in
    subst (λ i. LaidAt (set s p st) i (state_at (set s p st) i)) (sym e) (subst (LaidAt (set s p st) p) (sym (get_or-set_same s p st free lt)) here))

-- a block has other cells allocated
pub laid_cut : (s : List PageState) (p : ℕ) (b d : Cells) → IsLaid s → p < length s → state_at s p ≡ cut b → d.class ≡ b.class → length d.taken ≡ length b.taken → IsLaid (set s p (cut d))
laid_cut s p b d laid lt is class size =
    let cells : IsCells b = laid_at s p (cut b) laid is lt in
    set_one s p (cut d) laid lt (subst IsPlain (sym is) (cut_plain (cut b) tt))
    (record { class = subst IsSizeClass (sym class) cells.class; size = size ∙ cells.size ∙ ap (λ c. PAGE_WORDS / c) (sym class) })

pub laid_block : (s : List PageState) (p c : ℕ) (k : Kind) → IsLaid s → p < length s → state_at s p ≡ free → IsCells (record { class = c; kind = k; taken = replicate (PAGE_WORDS / c) false; first = 0 }) → IsLaid (set s p (all_free c k))
laid_block s p c k laid lt is cells = set_one s p (all_free c k) laid lt (subst IsPlain (sym is) free_plain) cells

celled : (s : List PageState) (st : PageState) (p i : ℕ) (b : Bool) (n : ℕ) → IsCut st → LaidAt s p st → LaidAt (set s p (with_cell st i b n)) p (with_cell st i b n)
celled s free p i b n is laid = absurd is
celled s (cut cells) p i b n is laid = record { class = laid.class; size = length-set cells.taken i b ∙ laid.size }
celled s (head m kind) p i b n is laid = absurd is
celled s (body first) p i b n is laid = absurd is

pub cell_cut : (st : PageState) (i : ℕ) (b : Bool) → HasCell st i b → IsCut st
cell_cut free i b h = absurd h
cell_cut (cut cells) i b h = tt
cell_cut (head n kind) i b h = absurd h
cell_cut (body first) i b h = absurd h

pub laid_cell : (s : List PageState) (p i : ℕ) (a b : Bool) (n : ℕ) → IsLaid s → p < length s → HasCell (state_at s p) i a → IsLaid (set s p (with_cell (state_at s p) i b n))
laid_cell s p i a b n laid lt h =
    let is = cell_cut (state_at s p) i a h in set_one s p _ laid lt (cut_plain _ is) (celled s (state_at s p) p i b n is (laid.each p lt))

pub laid_free : (s : List PageState) (n : ℕ) → AreFreePages s n → n ≤ MOST_PAGES → IsLaid s
laid_free s n all few = record {
  few = let size = all.size in omega arith;
  each = λ k lt. subst (LaidAt s k) (sym (all.each k)) tt;
}

pub laid_large : (old new : List PageState) (first n : ℕ) (kind : Kind) → IsLaid old → 0 < n → ((k : ℕ) → first ≤ k → k < first + n → state_at old k ≡ free)
    → IsSpanSet old new first n (large_states first n kind) → IsLaid new
laid_large old new first n kind laid pos was span =
    let fits = span.fits in let size = span.size in
    let head_is : state_at new first ≡ head n kind = span.inside first (omega arith) (omega arith) ∙ large_here first n first kind refl in
    laid_span old new first n span.size span.others (closed_free old first n was) laid
    (λ k a b lt. ⊎_elim
    (λ (e : k ≡ first).
    subst (λ i. LaidAt new i (state_at new i)) (sym e)
    (subst (LaidAt new first) (sym head_is)
    (pos, omega arith, (λ q c d. span.inside q (omega arith) d ∙ large_else first n q kind (λ h. omega arith)))))
    (λ ne.
    subst (LaidAt new k) (sym (span.inside k a b ∙ large_else first n k kind ne))
    (omega arith, n, kind, head_is, b))
    (cases_eq k first))

gone : (old new : List PageState) (p : ℕ) (st : PageState) → state_at old p ≡ st → IsLaid old → p < length old → 0 < span_of st → IsSpanSet old new p (span_of st) (λ _. free) → IsLaid new
gone old new p free is laid lt pos span = absurd (omega arith)
gone old new p (cut b) is laid lt pos span =
    laid_span old new p 1 span.size span.others (closed_one old p (subst IsPlain (sym is) (cut_plain (cut b) tt))) laid
    (λ k a b l. subst (LaidAt new k) (sym (span.inside k a b)) tt)
gone old new p (head n kind) is laid lt pos span =
    laid_span old new p n span.size span.others (closed_head old p n kind laid lt is) laid
    (λ k a b l. subst (LaidAt new k) (sym (span.inside k a b)) tt)
gone old new p (body first) is laid lt pos span = absurd (omega arith)

pub laid_gone : (old new : List PageState) (p : ℕ) → IsLaid old → p < length old → 0 < span_of (state_at old p) → IsSpanSet old new p (span_of (state_at old p)) (λ _. free) → IsLaid new
laid_gone old new p laid lt pos span = gone old new p (state_at old p) refl laid lt pos span

fitting : (s : List PageState) (p : ℕ) (st : PageState) → p < length s → LaidAt s p st → p + span_of st ≤ length s
fitting s p free lt laid = omega arith
fitting s p (cut b) lt laid = omega arith
fitting s p (head n kind) lt laid = laid.1
fitting s p (body first) lt laid = omega arith

pub span_fits : (s : List PageState) (p : ℕ) → IsLaid s → p < length s → p + span_of (state_at s p) ≤ length s
span_fits s p laid lt = fitting s p (state_at s p) lt (laid.each p lt)

pub ruleset laid = (laid_gone, span_fits, laid_cell, laid_block, laid_free, laid_large)
