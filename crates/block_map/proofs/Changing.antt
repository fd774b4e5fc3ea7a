-- Changes of the pages as changes of what words find.
use Rattle.std.proofs.Common.{◌≡◌, ◌≢◌, ℕ, ◌+◌, ◌/◌, ◌<◌, ◌≤◌, Bool, true, false, cond, List, length, set, get_or, replicate, None, Some, refl, sym, ap, ◌∙◌, subst, arith, ⊎_elim, length-set, get_or-set_same, get_or-set_other}
use Rattle.std.proofs.lemmas.Bool.{cond-true, cond-false, cases_lt, cases_eq}
use Rattle.std.proofs.lemmas.List.{get_or_past, get_or-replicate, length-replicate}
use Rattle.words.specs.declared.limits.TheConstants.{FIRST_ADDRESS, PAGE_WORDS}
use Rattle.words.specs.declared.class.Kind.{Kind}
use Rattle.words.proofs.Addresses.{on_its_page}
use Rattle.blocks.specs.Cells.{Cells, IsCells}
use Rattle.blocks.specs.Lists.{IsFreeCellOf}
use Rattle.words.specs.Layout.{page_start, page_of, IsOnPage}
use Rattle.block_map.specs.States.{PageState, free, cut, head, body, state_at, span_of, LaidAt, IsLaid, HasCell, with_cell, IsSpanSet, large_states, all_free}
use Rattle.block_map.specs.Objects.{cell_object, large_object, object_on, IsObjectOn, IsInside}
use Rattle.block_map.specs.FoundIn.{cell_at, found_in, found_in_block, found_on, found_large}
use Rattle.block_map.specs.Changes.{IsSameMap, IsAdded, IsCleared, IsUncut, HasNoObject}
use Rattle.block_map.proofs.Seen.{laid_at}
use Rattle.block_map.proofs.Spans.{Out, place_of, IsClosed, IsPlain, free_plain, cut_plain, closed_one, closed_free, closed_head, body_within, span_one, large_here, large_else}
use Rattle.block_map.proofs.Words.{read_cell, cell_read}
use Rattle.block_map.proofs.Finding.{found_low, found_here, found_as}
use Rattle.block_map.proofs.Lawful.{found_object}

-- ---- words of the pages that are as they were
module _ (old new : List PageState) (first n : ℕ)
    (others : (k : ℕ) → Out first n k → state_at new k ≡ state_at old k)
    (closed : IsClosed old first n) (laid : IsLaid old) where
  same_on : (p w : ℕ) (st : PageState) → Out first n p → state_at old p ≡ st → found_on new p st w ≡ found_on old p st w
  same_on p w free out is = refl
  same_on p w (cut b) out is = refl
  same_on p w (head m k) out is = refl
  same_on p w (body q) out is =
      let here : LaidAt old p (body q) = laid_at old p (body q) laid is (body_within old p q is) in
      ap (found_large q) (others q (closed.heads p q out is here.1 here.2 here.3))

  pub same_page : (p w : ℕ) → Out first n p → IsOnPage p w → found_in new w ≡ found_in old w
  same_page p w out at =
      found_as new p w (state_at old p) at (others p out) ∙ same_on p w (state_at old p) out refl ∙ sym (found_here old p w at)

  -- a word reads what it read before, if words of the span do
  pub same_but : (w : ℕ) → ((p : ℕ) → first ≤ p → p < first + n → IsOnPage p w → found_in new w ≡ found_in old w) → found_in new w ≡ found_in old w
  same_but w inside =
      ⊎_elim
      (λ low. found_low new w low ∙ sym (found_low old w low))
      (λ high. ⊎_elim
      (λ (h : (first ≤ page_of w) × (page_of w < first + n)). inside (page_of w) h.0 h.1 (on_its_page w high))
      (λ out. same_page (page_of w) w out (on_its_page w high))
      (place_of first n (page_of w)))
      (cases_lt w FIRST_ADDRESS)

-- ---- a page is cut
block_empty : (p w : ℕ) (b : Cells) → HasNoObject b.taken → found_in_block p b w ≡ None
block_empty p w b none = cond-false (get_or b.taken (cell_at b w) false) (Some (cell_object p b (cell_at b w))) None (none (cell_at b w))

replicate_false : (n k : ℕ) → get_or (replicate n false) k false ≡ false
replicate_false n k = ⊎_elim (λ lt. get_or-replicate n k false false lt) (λ past. get_or_past (replicate n false) k false (let e = length-replicate n false in omega arith)) (cases_lt k n)

pub cut_same : (s : List PageState) (p c : ℕ) (k : Kind) → IsLaid s → p < length s → state_at s p ≡ free → IsSameMap (found_in s) (found_in (set s p (all_free c k)))
cut_same s p c k laid lt is =
    let span = span_one s p (all_free c k) lt in
    record {
      same = λ w. same_but s (set s p (all_free c k)) p 1 span.others (closed_one s p (subst IsPlain (sym is) free_plain)) laid w
          (λ q a b at. let e : q ≡ p = omega arith in
          found_as (set s p (all_free c k)) q w (all_free c k) at (span.inside q a b)
          ∙ block_empty q w (record { class = c; kind = k; taken = replicate (PAGE_WORDS / c) false; first = 0 }) (replicate_false (PAGE_WORDS / c))
          ∙ sym (found_as s q w free at (ap (state_at s) e ∙ is)));
    }

-- ---- a cell is allocated in t that is free in s
module _ (s t : List PageState) (p i : ℕ) (b : Cells) (taken : List Bool) (n : ℕ) (laid : IsLaid s) (cells : IsCells b)
    (is : state_at s p ≡ cut b) (now : state_at t p ≡ cut (record b { taken = taken; first = n }))
    (others : (k : ℕ) → Out p 1 k → state_at t k ≡ state_at s k)
    (inside : i < PAGE_WORDS / b.class)
    (was_free : get_or b.taken i false ≡ false) (is_taken : get_or taken i false ≡ true)
    (same : (k : ℕ) → k ≢ i → get_or taken k false ≡ get_or b.taken k false) where
  before : (w : ℕ) → IsInside w (cell_object p b i) → found_in s w ≡ None
  before w reads =
      let r = read_cell p i w b inside reads in
      found_as s p w (cut b) r.0 is
      ∙ cond-false (get_or b.taken (cell_at b w) false) (Some (cell_object p b (cell_at b w))) None (ap (λ k. get_or b.taken k false) r.1 ∙ was_free)

  after : (w : ℕ) → IsInside w (cell_object p b i) → found_in t w ≡ Some (cell_object p b i)
  after w reads =
      let r = read_cell p i w b inside reads in
      found_as t p w (cut (record b { taken = taken; first = n })) r.0 now
      ∙ cond-true (get_or taken (cell_at b w) false) (Some (cell_object p b (cell_at b w))) None (ap (λ k. get_or taken k false) r.1 ∙ is_taken)
      ∙ ap (λ k. Some (cell_object p b k)) r.1

  elsewhere : (w : ℕ) → (IsInside w (cell_object p b i) → ⊥) → found_in t w ≡ found_in s w
  elsewhere w not_read =
      same_but s t p 1 others (closed_one s p (subst IsPlain (sym is) (cut_plain (cut b) tt))) laid w
      (λ q a c at.
      let e : q ≡ p = omega arith in
      let at' : IsOnPage p w = subst (λ x. IsOnPage x w) e at in
      let ne : cell_at b w ≢ i = λ h. not_read (subst (λ k. IsInside w (cell_object p b k)) h (cell_read p w b cells.class at')) in
      found_as t p w (cut (record b { taken = taken; first = n })) at' now
      ∙ ap (λ x. cond x (Some (cell_object p b (cell_at b w))) None) (same (cell_at b w) ne)
      ∙ sym (found_as s p w (cut b) at' is))

  pub cell_added : IsAdded (found_in s) (found_in t) (cell_object p b i)
  cell_added = record { before = before; after = after; others = elsewhere }

taken_in : (s : List PageState) (st : PageState) (p i n : ℕ) → IsLaid s → p < length s → state_at s p ≡ st → HasCell st i false → IsAdded (found_in s) (found_in (set s p (with_cell st i true n))) (object_on p st i)
taken_in s free p i n laid lt is cell = absurd cell
taken_in s (cut b) p i n laid lt is cell =
    let cells : IsCells b = laid_at s p (cut b) laid is lt in
    let size = cells.size in let inside = cell.0 in
    let span = span_one s p (with_cell (cut b) i true n) lt in
    cell_added s (set s p (with_cell (cut b) i true n)) p i b (set b.taken i true) n laid cells is (span.inside p (omega arith) (omega arith)) span.others (omega arith)
    cell.1 (get_or-set_same b.taken i true false inside) (λ k ne. get_or-set_other b.taken i k true false ne)
taken_in s (head m k) p i n laid lt is cell = absurd cell
taken_in s (body q) p i n laid lt is cell = absurd cell

pub cell_taken : (s : List PageState) (p i n : ℕ) → IsLaid s → p < length s → HasCell (state_at s p) i false
    → IsAdded (found_in s) (found_in (set s p (with_cell (state_at s p) i true n))) (object_on p (state_at s p) i)
cell_taken s p i n laid lt cell = taken_in s (state_at s p) p i n laid lt refl cell

put_in : (s : List PageState) (st : PageState) (p i n : ℕ) → IsLaid s → IsLaid (set s p (with_cell st i false n)) → p < length s → state_at s p ≡ st → HasCell st i true
    → IsAdded (found_in (set s p (with_cell st i false n))) (found_in s) (object_on p st i)
put_in s free p i n laid new lt is cell = absurd cell
put_in s (cut b) p i n laid new lt is cell =
    let cells : IsCells b = laid_at s p (cut b) laid is lt in
    let size = cells.size in let inside = cell.0 in
    let span = span_one s p (with_cell (cut b) i false n) lt in
    let t : List PageState = set s p (with_cell (cut b) i false n) in
    cell_added t s p i (record b { taken = set b.taken i false; first = n }) b.taken b.first new
    (record { class = cells.class; size = length-set b.taken i false ∙ cells.size })
    (span.inside p (omega arith) (omega arith)) is (λ k out. sym (span.others k out)) (omega arith)
    (get_or-set_same b.taken i false false inside) cell.1 (λ k ne. sym (get_or-set_other b.taken i k false false ne))
put_in s (head m k) p i n laid new lt is cell = absurd cell
put_in s (body q) p i n laid new lt is cell = absurd cell

-- a cell of a block is taken, or put back
module _ (s : List PageState) (p i n : ℕ) (b d : Cells) (laid : IsLaid s) (lt : p < length s) (is : state_at s p ≡ cut b) where
  pub block_taken : IsFreeCellOf b.taken i → d ≡ record b { taken = set b.taken i true; first = n } → IsAdded (found_in s) (found_in (set s p (cut d))) (cell_object p d i)
  block_taken at became = subst (λ (x : Cells). IsAdded (found_in s) (found_in (set s p (cut x))) (cell_object p x i)) (sym became) (taken_in s (cut b) p i n laid lt is (at.inside, at.free))

  pub block_put : HasCell (state_at s p) i true → IsLaid (set s p (cut d)) → d ≡ record b { taken = set b.taken i false; first = n } → IsAdded (found_in (set s p (cut d))) (found_in s) (object_on p (state_at s p) i)
  block_put cell new became =
      subst (λ (x : Cells). IsLaid (set s p (cut x)) → IsAdded (found_in (set s p (cut x))) (found_in s) (object_on p (state_at s p) i)) (sym became)
      (subst (λ st. IsLaid (set s p (with_cell (cut b) i false n)) → IsAdded (found_in (set s p (with_cell (cut b) i false n))) (found_in s) (object_on p st i)) (sym is)
      (λ laid'. put_in s (cut b) p i n laid laid' lt is (subst (λ st. HasCell st i true) is cell))) new

-- ---- a large object comes
pub large_added : (old new : List PageState) (first n : ℕ) (kind : Kind) → IsLaid old → 0 < n → ((k : ℕ) → first ≤ k → k < first + n → state_at old k ≡ free)
    → IsSpanSet old new first n (large_states first n kind) → IsAdded (found_in old) (found_in new) (large_object first n kind)
large_added old new first n kind laid pos was span =
    let head_is : state_at new first ≡ head n kind = span.inside first (omega arith) (omega arith) ∙ large_here first n first kind refl in
    record {
      before = λ w reads.
          let from = reads.from in let below = reads.below in
          let at : IsOnPage (page_of w) w = on_its_page w (omega arith) in
          found_as old (page_of w) w free at (was (page_of w) (omega arith) (omega arith));
      after = λ w reads.
          let from = reads.from in let below = reads.below in
          let at : IsOnPage (page_of w) w = on_its_page w (omega arith) in
          let is = span.inside (page_of w) (omega arith) (omega arith) in
          ⊎_elim
          (λ (e : page_of w ≡ first). found_as new first w (head n kind) (subst (λ p. IsOnPage p w) e at) head_is)
          (λ ne. found_as new (page_of w) w (body first) at (is ∙ large_else first n (page_of w) kind ne) ∙ ap (found_large first) head_is)
          (cases_eq (page_of w) first);
      others = λ w not_read. same_but old new first n span.others (closed_free old first n was) laid w
          (λ p a b at. let from = at.from in let below = at.below in absurd (not_read (record { from = omega arith; below = omega arith })));
    }

-- ---- pages become free
module _ (old new : List PageState) (first n : ℕ) (laid : IsLaid old) (closed : IsClosed old first n) (span : IsSpanSet old new first n (λ _. free)) where
  pub freed_cleared : IsCleared (found_in old) (found_in new) (page_start first) (page_start (first + n))
  freed_cleared = record {
    inside = λ w from below.
        let at : IsOnPage (page_of w) w = on_its_page w (omega arith) in
        found_as new (page_of w) w free at (span.inside (page_of w) (omega arith) (omega arith));
    others = λ w out. same_but old new first n span.others closed laid w
        (λ p a b at. let from = at.from in let below = at.below in absurd (⊎_elim (λ l. omega arith) (λ h. omega arith) out));
  }

  freed : (w : ℕ) → page_start first ≤ w → w < page_start (first + n) → found_in new w ≡ None
  freed w from below = freed_cleared.inside w from below

  pub large_gone : (kind : Kind) → 0 < n → first < length old → state_at old first ≡ head n kind → IsAdded (found_in new) (found_in old) (large_object first n kind)
  large_gone kind pos lt is = record {
    before = λ w reads. let from = reads.from in let below = reads.below in freed w (omega arith) (omega arith);
    after = λ w reads. found_object old (large_object first n kind) w laid (record { page = lt; on = subst (λ x. IsObjectOn x (large_object first n kind)) (sym is) refl }) reads;
    others = λ w not_read. sym (same_but old new first n span.others closed laid w
        (λ p a b at. let from = at.from in let below = at.below in absurd (not_read (record { from = omega arith; below = omega arith }))));
  }

block_gone : (old new : List PageState) (p : ℕ) (b : Cells) → IsLaid old → state_at old p ≡ cut b → IsSpanSet old new p 1 (λ _. free) → HasNoObject b.taken → IsSameMap (found_in old) (found_in new)
block_gone old new p b laid is span none = record {
  same = λ w. same_but old new p 1 span.others (closed_one old p (subst IsPlain (sym is) (cut_plain (cut b) tt))) laid w
      (λ q a c at. let e : q ≡ p = omega arith in
      found_as new q w free at (span.inside q a c)
      ∙ sym (found_as old q w (cut b) at (ap (state_at old) e ∙ is) ∙ block_empty q w b none));
}

uncut_on : (old new : List PageState) (p : ℕ) (st : PageState) → IsLaid old → p < length old → state_at old p ≡ st → 0 < span_of st → IsSpanSet old new p (span_of st) (λ _. free)
    → IsCleared (found_in old) (found_in new) (page_start p) (page_start (p + span_of st)) × IsUncut p st (found_in old) (found_in new)
uncut_on old new p free laid lt is pos span = absurd (omega arith)
uncut_on old new p (cut b) laid lt is pos span =
    (freed_cleared old new p 1 laid (closed_one old p (subst IsPlain (sym is) (cut_plain (cut b) tt))) span, block_gone old new p b laid is span)
uncut_on old new p (head n k) laid lt is pos span =
    let closed = closed_head old p n k laid lt is in
    (freed_cleared old new p n laid closed span, large_gone old new p n laid closed span k pos lt is)
uncut_on old new p (body q) laid lt is pos span = absurd (omega arith)

pub uncut_cleared : (old new : List PageState) (p : ℕ) → IsLaid old → p < length old → 0 < span_of (state_at old p) → IsSpanSet old new p (span_of (state_at old p)) (λ _. free)
    → IsCleared (found_in old) (found_in new) (page_start p) (page_start (p + span_of (state_at old p)))
uncut_cleared old new p laid lt pos span = (uncut_on old new p (state_at old p) laid lt refl pos span).0

pub uncut_changes : (old new : List PageState) (p : ℕ) → IsLaid old → p < length old → 0 < span_of (state_at old p) → IsSpanSet old new p (span_of (state_at old p)) (λ _. free)
    → IsUncut p (state_at old p) (found_in old) (found_in new)
uncut_changes old new p laid lt pos span = (uncut_on old new p (state_at old p) laid lt refl pos span).1

pub ruleset changing = (cut_same, cell_taken, large_added, uncut_cleared, uncut_changes)
