-- A page that keeps no object becomes free at once.
use Rattle.std.proofs.Common.{◌≡◌, ℕ, ◌+◌, ◌-◌, ◌*◌, ◌<◌, ◌≤◌, ◌⊎◌, inl, inr, Bool, true, false, cond, List, [], length, get_or, set, take, drop, Some, None, refl, sym, ap, ◌∙◌, subst, ⊎_elim, arith, length-set, get_or-set_same, get_or-set_other}
use Rattle.std.specs.Prelude.{◌≢◌}
use Rattle.std.specs.List.{sum_by}
use Rattle.std.proofs.lemmas.Bool.{cases_eq, cases_lt, true≢false, false≢true}
use Rattle.std.proofs.lemmas.List.{get_or_past, get_or-drop, get_or-take}
use Rattle.std.proofs.lemmas.List.Sums.{get_or-le-sum_by}
use Rattle.words.specs.declared.class.Kind.{Kind}
use Rattle.words.specs.declared.limits.TheConstants.{PAGE_GRANULES}
use Rattle.words.specs.Bits.{Has, members_between}
use Rattle.words.specs.Layout.{granule, page_start}
use Rattle.mark_bits.specs.Granules.{marks_on}
use Rattle.blocks.specs.Cells.{Cells}
use Rattle.block_map.specs.Changes.{IsCleared}
use Rattle.block_map.specs.FoundIn.{found_in, IsLawful}
use Rattle.block_map.specs.Objects.{cell_object, IsObjectOn}
use Rattle.block_map.specs.States.{PageState, free, cut, head, body, state_at, IsBlockFor, IsCut, IsLaid, IsSpanSet}
use Rattle.block_map.specs.declared.found.Found.{Found}
use Rattle.lazy_sweep.specs.AvailableRows.{IsAvailable, AreReady, AreWaiting, IsBitSet}
use Rattle.lazy_sweep.specs.Sound.{AreExactRows}
use Rattle.lazy_sweep.specs.declared.table.PageTable.{PageTable}
use Rattle.lazy_sweep.specs.Store.{Store}
use Rattle.lazy_sweep.specs.Sweeps.{SweepsPage}
use Rattle.lazy_sweep.proofs.ExactRows.{OffersOnly, cut_offers, free_offers, BlockOnly, cut_block, free_block, ready_changed, waiting_changed}
use Rattle.lazy_sweep.proofs.Lying.{begins_on, Lies, in_cell, in_large, in_row, large_page, lies_cases}

abbrev one_if : Bool → ℕ
one_if b = cond b 1 0

-- a row without a member between two places has none there
none_there : (row : List Bool) (low high k : ℕ) → members_between row low high ≡ 0 → low ≤ k → k < high → Has row k → ⊥
none_there row low high k zero above below is =
    let part : List Bool = take (high - low) (drop low row) in
    let at : get_or part (k - low) false ≡ true =
    get_or-take (high - low) (drop low row) (k - low) false (omega arith) ∙ get_or-drop low row (k - low) false ∙ ap (λ i. get_or row i false) (let e : low + (k - low) ≡ k = omega arith in e) ∙ is in
    let one : one_if (get_or part (k - low) false) ≤ sum_by one_if part = get_or-le-sum_by one_if part (k - low) false (in_row part (k - low) at) in
    let some : 1 ≤ sum_by one_if part = subst (λ b. one_if b ≤ sum_by one_if part) at one in
    let none : sum_by one_if part ≡ 0 = zero in
    omega arith

nothing : (k : ℕ) → Has [] k → ⊥
nothing k is = false≢true (sym (get_or_past [] k false (omega arith)) ∙ is)

out_of : (p page : ℕ) → p ≢ page → (p < page) ⊎ (page + 1 ≤ p)
out_of p page ne = ⊎_elim (λ lt. inl lt) (λ ge. inr (omega arith)) (cases_lt p page)

-- an object that an address of a cut page reads is one of the page
pub cut_page_object : (states : List PageState) (page : ℕ) (b : Cells) → IsLaid states → IsLawful states → state_at states page ≡ cut b → (w : ℕ) (f : Found) → page_start page ≤ w → w < page_start (page + 1) → found_in states w ≡ Some f → f.page ≡ page
cut_page_object states page b laid lawful is w f low high there =
    by (lies_cases states laid f page (lawful.object w f there) (let r = lawful.map.reads w f there in let a = r.from in let z = r.below in (omega arith, omega arith)))
  where
    one_page : f ≡ cell_object page b f.cell → f.page ≡ page
    one_page e = ap (λ (x : Found). x.page) e

    clash_head : (n : ℕ) (k : Kind) → cut b ≡ head n k → ⊥
    clash_head n k e = cc

    clash_body : (q : ℕ) → cut b ≡ body q → ⊥
    clash_body q e = cc

    by : Lies states f page → f.page ≡ page
    by (in_cell c same e taken) = ap (λ (x : Found). x.page) e
    by (in_large n k at from below len) = absurd (⊎_elim (λ e. clash_head n k (sym is ∙ e)) (λ e. clash_body f.page (sym is ∙ e)) (large_page states laid f.page n k page (lawful.object w f there).page at from below))

-- no object is one of a page that is free
gone_from : (states : List PageState) (page : ℕ) → ((k : ℕ) → page ≤ k → k < page + 1 → state_at states k ≡ free) → IsLawful states → (w : ℕ) (f : Found) → found_in states w ≡ Some f → f.page ≡ page → ⊥
gone_from states page inside lawful w f there same = subst (λ st. IsObjectOn st f) (ap (state_at states) same ∙ inside page (omega arith) (omega arith)) (lawful.object w f there).on

-- the rows stay exact
module _ (rows rows' : List (List Bool)) (states states' : List PageState) (row : List Bool) (page : ℕ) (b : Cells) (is : state_at states page ≡ cut b) (class : ℕ) (kind : Kind) (c : class ≡ b.class) (k : kind ≡ b.kind)
    (span : IsSpanSet states states' page 1 (λ _. free)) (bit_is : IsBitSet rows rows' class kind page false) where
  now : state_at states' page ≡ free
  now = span.inside page (omega arith) (omega arith)

  pub exact_freed : AreReady rows states row → AreReady rows' states' (set row page false)
  exact_freed exact = ready_changed rows rows' states states' row (set row page false) class kind page false bit_is span.size
      (λ p ne. span.others p (out_of p page ne))
      (λ p ne. get_or-set_other row page p false false ne)
      exact
      (subst (λ st. OffersOnly st class kind) (sym is) (subst (λ l. OffersOnly (cut b) class l) (sym k) (subst (λ d. OffersOnly (cut b) d b.kind) (sym c) (cut_offers b))))
      (subst (λ st. OffersOnly st class kind) (sym now) (free_offers class kind))
      (λ e. absurd (true≢false (sym e)))
      (λ has. absurd (subst (λ st. IsAvailable st class kind) now has.0))

  pub awaited_freed : AreWaiting rows states row → AreWaiting rows' states' (set row page false)
  awaited_freed exact = waiting_changed rows rows' states states' row (set row page false) class kind page false bit_is span.size
      (λ p ne. span.others p (out_of p page ne))
      (λ p ne. get_or-set_other row page p false false ne)
      exact
      (subst (λ st. BlockOnly st class kind) (sym is) (subst (λ l. BlockOnly (cut b) class l) (sym k) (subst (λ d. BlockOnly (cut b) d b.kind) (sym c) (cut_block b))))
      (subst (λ st. BlockOnly st class kind) (sym now) (free_block class kind))
      (λ e. absurd (true≢false (sym e)))
      (λ has. absurd (subst (λ st. IsBlockFor st class kind) now has.0))

-- the pages that are still pending stay cut
pub cut_freed : (states states' : List PageState) (page : ℕ) (row : List Bool) → page < length row → IsSpanSet states states' page 1 (λ _. free) → ((p : ℕ) → Has row p → IsCut (state_at states p)) → (p : ℕ) → Has (set row page false) p → IsCut (state_at states' p)
cut_freed states states' page row inside span cuts p h = ⊎_elim
    (λ (e : p ≡ page). absurd (false≢true (sym (ap (λ q. get_or (set row page false) q false) e ∙ get_or-set_same row page false false inside) ∙ h)))
    (λ ne. subst IsCut (sym (span.others p (out_of p page ne))) (cuts p (sym (get_or-set_other row page p false false ne) ∙ h)))
    (cases_eq p page)

-- and all rows are exact
pub rows_freed : (old new : PageTable) (page : ℕ) (b : Cells) → state_at old.map page ≡ cut b → (class : ℕ) (kind : Kind) → class ≡ b.class → kind ≡ b.kind → page < length old.pending
    → IsSpanSet old.map new.map page 1 (λ _. free) → IsBitSet old.ready new.ready class kind page false → IsBitSet old.waiting new.waiting class kind page false → new.pending ≡ set old.pending page false → AreExactRows old → AreExactRows new
rows_freed old new page b is class kind c k inside span left awaited row rows = record {
  exact = subst (AreReady new.ready new.map) (sym row) (exact_freed old.ready new.ready old.map new.map old.pending page b is class kind c k span left rows.exact);
  awaited = subst (AreWaiting new.waiting new.map) (sym row) (awaited_freed old.waiting new.waiting old.map new.map old.pending page b is class kind c k span awaited rows.awaited);
  size = ap length row ∙ length-set old.pending page false ∙ rows.size ∙ sym span.size;
  cut = λ p h. cut_freed old.map new.map page old.pending inside span rows.cut p (subst (λ r. Has r p) row h);
}

-- and no object of the page is left, while all others are
pub sweeps_freed : (t : Store) (page : ℕ) (b : Cells) → IsLaid t.states → IsLawful t.states → state_at t.states page ≡ cut b → (row' : List Bool) (states' : List PageState) → IsLawful states' → IsSpanSet t.states states' page 1 (λ _. free)
    → IsCleared (found_in t.states) (found_in states') (page_start page) (page_start (page + 1)) → SweepsPage t [] page (record { words = t.words; free = row'; states = states'; pending = set t.pending page false })
sweeps_freed t page b laid lawful is row' states' lawful' span cleared = record {
  words = λ f i there lt. refl;
  pages = span.size;
  pending = refl;
  others = λ w f there ne. cleared.others w (off w f there ne) ∙ there;
  marked = λ w f there same has. absurd (nothing (granule f.base) has);
  only = λ w f there. (stood w f there, λ same. absurd (gone_from states' page span.inside lawful' w f there same));
}
  where
    off : (w : ℕ) (f : Found) → found_in t.states w ≡ Some f → f.page ≢ page → (w < page_start page) ⊎ (page_start (page + 1) ≤ w)
    off w f there ne = ⊎_elim
        (λ lt. inl lt)
        (λ ge. ⊎_elim (λ lt. absurd (ne (cut_page_object t.states page b laid lawful is w f ge lt there))) (λ past. inr past) (cases_lt w (page_start (page + 1))))
        (cases_lt w (page_start page))

    none_some : (f : Found) → None ≡ Some f → ⊥
    none_some f e = cc

    stood : (w : ℕ) (f : Found) → found_in states' w ≡ Some f → found_in t.states w ≡ Some f
    stood w f there = ⊎_elim
        (λ lt. sym (cleared.others w (inl lt)) ∙ there)
        (λ ge. ⊎_elim (λ lt. absurd (none_some f (sym (cleared.inside w ge lt) ∙ there))) (λ past. sym (cleared.others w (inr past)) ∙ there) (cases_lt w (page_start (page + 1))))
        (cases_lt w (page_start page))

-- where no granule of the page is marked, no object of it is kept
pub sweeps_unmarked : (old : Store) (marks : List Bool) (page : ℕ) (new : Store) → IsLaid old.states → IsLawful old.states → marks_on marks page ≡ 0 → SweepsPage old [] page new → SweepsPage old marks page new
sweeps_unmarked old marks page new laid lawful zero x = record {
  words = x.words;
  pages = x.pages;
  pending = x.pending;
  others = x.others;
  marked = λ w f there same has.
      let above = (lawful.map.placed w f there).above in
      let at = begins_on old.states laid f (lawful.object w f there) in
      absurd (none_there marks (PAGE_GRANULES * page) (PAGE_GRANULES * (page + 1)) (granule f.base) zero (omega arith) (omega arith) has);
  only = λ w f there. let o = x.only w f there in (o.0, λ same. absurd (nothing (granule f.base) (o.1 same)));
}
