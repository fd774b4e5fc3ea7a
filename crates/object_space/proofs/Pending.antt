-- The pages that are still to be swept stay cut while other pages change.
use Rattle.std.proofs.Common.{◌≡◌, ℕ, ◌+◌, ◌<◌, ◌≤◌, ◌⊎◌, inl, inr, Bool, false, List, Some, length, get_or, set, refl, sym, ap, ◌∙◌, subst, ⊎_elim, arith, length-set, get_or-set_same, get_or-set_other}
use Rattle.std.specs.Prelude.{◌≢◌}
use Rattle.std.proofs.lemmas.Bool.{cases_eq, cases_lt, false≢true}
use Rattle.words.specs.Bits.{Has, IsClear}
use Rattle.block_map.specs.Listed.{first_on, with_put}
use Rattle.blocks.specs.Lists.{first_after_put}
use Rattle.block_map.specs.States.{PageState, free, cut, head, body, state_at, IsCut, IsSpanSet, LaidAt, IsLaid, with_cell}
use Rattle.words.specs.declared.class.Kind.{Kind}
use Rattle.block_map.proofs.Spans.{place_of}
use Rattle.block_map.specs.FoundIn.{found_in, IsLawful}
use Rattle.block_map.specs.declared.found.Found.{Found}
use Rattle.block_map.specs.Objects.{IsObjectOn}
use Rattle.object_space.specs.Store.{Store, IsPendingRow}

-- While a page changes, the row of the pending ones keeps to pages that are cut, and for the page of each
-- object says what it said.
pub record KeepsPending (page : ℕ) (states states' : List PageState) (row row' : List Bool) : Type 0 where
  pub rest : (p : ℕ) → p ≢ page → get_or row' p false ≡ get_or row p false
  pub size : length row' ≡ length row
  pub cut : ((p : ℕ) → Has row p → IsCut (state_at states p)) → (p : ℕ) → Has row' p → IsCut (state_at states' p)
  pub less : (p : ℕ) → Has row' p → Has row p
  pub same : (w : ℕ) (g : Found) → found_in states' w ≡ Some g → get_or row' g.page false ≡ get_or row g.page false

-- what is cut stays cut
pub pending_cut : (t t' : Store) → IsPendingRow t → t'.pending ≡ t.pending → length t'.states ≡ length t.states → ((p : ℕ) → IsCut (state_at t.states p) → IsCut (state_at t'.states p)) → IsPendingRow t'
pending_cut t t' row same size cuts = record {
  size = ap length same ∙ row.size ∙ sym size;
  cut = λ p h. cuts p (row.cut p (subst (λ ps. Has ps p) same h));
}

pub swept_row : (row : List Bool) (n : ℕ) → IsClear row n → (p : ℕ) → Has row p → ⊥
swept_row row n clear p h = false≢true (sym (clear.clear p) ∙ h)

cell_cut : (st : PageState) (cell : ℕ) (b : Bool) (n : ℕ) → IsCut st → IsCut (with_cell st cell b n)
cell_cut free cell b n is = absurd is
cell_cut (cut x) cell b n is = tt
cell_cut (head m k) cell b n is = absurd is
cell_cut (body q) cell b n is = absurd is

-- one cell of a page changes
pub cut_cell : (states : List PageState) (page cell : ℕ) (b : Bool) (n : ℕ) → page < length states → (p : ℕ) → IsCut (state_at states p) → IsCut (state_at (set states page (with_cell (state_at states page) cell b n)) p)
cut_cell states page cell b n inside p is = ⊎_elim
    (λ (e : p ≡ page). subst (λ q. IsCut (state_at (set states page (with_cell (state_at states page) cell b n)) q)) (sym e) (subst IsCut (sym (get_or-set_same states page (with_cell (state_at states page) cell b n) free inside)) (cell_cut (state_at states page) cell b n (subst (λ q. IsCut (state_at states q)) e is))))
    (λ ne. subst IsCut (sym (get_or-set_other states page p (with_cell (state_at states page) cell b n) free ne)) is)
    (cases_eq p page)

-- a free page is cut
pub cut_page : (states : List PageState) (page : ℕ) (st : PageState) → state_at states page ≡ free → (p : ℕ) → IsCut (state_at states p) → IsCut (state_at (set states page st) p)
cut_page states page st was p is = ⊎_elim
    (λ (e : p ≡ page). absurd (subst IsCut (ap (state_at states) e ∙ was) is))
    (λ ne. subst IsCut (sym (get_or-set_other states page p st free ne)) is)
    (cases_eq p page)

-- pages that were not cut change
pub cut_span : (states states' : List PageState) (first n : ℕ) (state : ℕ → PageState) → IsSpanSet states states' first n state → ((p : ℕ) → first ≤ p → p < first + n → state_at states p ≡ free)
    → (p : ℕ) → IsCut (state_at states p) → IsCut (state_at states' p)
cut_span states states' first n state span were p is = ⊎_elim (λ i. absurd (subst IsCut (were p i.0 i.1) is)) (λ out. subst IsCut (sym (span.others p out)) is) (place_of first n p)

-- a cell of a page is freed, and the page keeps another object
pub pending_put : (states states' : List PageState) (page cell : ℕ) (row : List Bool) → page < length states → states' ≡ set states page (with_put (state_at states page) cell) → KeepsPending page states states' row row
pending_put states states' page cell row inside became = record {
  rest = λ p ne. refl;
  size = refl;
  cut = λ cuts p h. subst (λ x. IsCut (state_at x p)) (sym became) (cut_cell states page cell false (first_after_put (first_on (state_at states page)) cell) inside p (cuts p h));
  less = λ p h. h;
  same = λ w g there. refl;
}

-- and the page becomes free
pub pending_gone : (states mid states' : List PageState) (page cell : ℕ) (row : List Bool) → page < length states → page < length row → mid ≡ set states page (with_put (state_at states page) cell)
    → IsSpanSet mid states' page 1 (λ _. free) → IsLawful states' → KeepsPending page states states' row (set row page false)
pending_gone states mid states' page cell row inside in_row became span lawful = record {
  rest = λ p ne. get_or-set_other row page p false false ne;
  size = length-set row page false;
  cut = λ cuts p h. ⊎_elim
      (λ (e : p ≡ page). absurd (false≢true (sym (ap (λ q. get_or (set row page false) q false) e ∙ get_or-set_same row page false false in_row) ∙ h)))
      (λ ne. subst IsCut (sym (span.others p (out p ne) ∙ ap (λ x. state_at x p) became ∙ get_or-set_other states page p _ free ne)) (cuts p (sym (get_or-set_other row page p false false ne) ∙ h)))
      (cases_eq p page);
  less = λ p h. ⊎_elim
      (λ (e : p ≡ page). absurd (false≢true (sym (ap (λ q. get_or (set row page false) q false) e ∙ get_or-set_same row page false false in_row) ∙ h)))
      (λ ne. sym (get_or-set_other row page p false false ne) ∙ h)
      (cases_eq p page);
  same = λ w g there. ⊎_elim
      (λ (e : g.page ≡ page). absurd (subst (λ st. IsObjectOn st g) (ap (state_at states') e ∙ span.inside page (omega arith) (omega arith)) (lawful.object w g there).on))
      (λ ne. get_or-set_other row page g.page false false ne)
      (cases_eq g.page page);
}
  where
    out : (p : ℕ) → p ≢ page → (p < page) ⊎ (page + 1 ≤ p)
    out p ne = ⊎_elim (λ lt. inl lt) (λ ge. inr (omega arith)) (cases_lt p page)

-- and the pages of a large object become free
pub pending_large : (states states' : List PageState) (first n : ℕ) (row : List Bool) → IsSpanSet states states' first n (λ _. free) → ((p : ℕ) → first ≤ p → p < first + n → IsCut (state_at states p) → ⊥) → KeepsPending first states states' row row
pending_large states states' first n row span uncut = record {
  rest = λ p ne. refl;
  size = refl;
  cut = λ cuts p h. ⊎_elim (λ i. absurd (uncut p i.0 i.1 (cuts p h))) (λ out. subst IsCut (sym (span.others p out)) (cuts p h)) (place_of first n p);
  less = λ p h. h;
  same = λ w g there. refl;
}

pub large_uncut : (states : List PageState) → IsLaid states → (first n : ℕ) (k : Kind) → first < length states → state_at states first ≡ head n k → (p : ℕ) → first ≤ p → p < first + n → IsCut (state_at states p) → ⊥
large_uncut states laid first n k inside is p low high h = ⊎_elim
    (λ (e : p ≡ first). subst IsCut (ap (state_at states) e ∙ is) h)
    (λ ne. subst IsCut (large.2 p (omega arith) high) h)
    (cases_eq p first)
  where
    large : LaidAt states first (head n k)
    large = subst (LaidAt states first) is (laid.each first inside)
