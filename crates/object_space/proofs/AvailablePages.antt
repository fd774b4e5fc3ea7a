-- The rows of pages with a free cell stay exact while pages change.
use Rattle.std.proofs.Common.{◌≡◌, ℕ, ◌+◌, ◌<◌, ◌≤◌, Bool, true, false, List, length, set, replicate, refl, sym, ap, ◌∙◌, subst, arith, ⊎_elim, length-set, get_or-set_same, get_or-set_other}
use Rattle.std.specs.Prelude.{◌==◌, ◌/◌, if◌then◌else◌}
use Rattle.std.proofs.lemmas.Bool.{cases_eq, true≢false}
use Rattle.std.proofs.lemmas.List.{get_or-replicate, length-replicate}
use Rattle.words.specs.declared.limits.TheConstants.{PAGE_WORDS}
use Rattle.words.specs.Bits.{Has, IsFullRow}
use Rattle.words.specs.declared.class.Kind.{Kind}
use Rattle.words.specs.Classes.{IsSizeClass}
use Rattle.blocks.specs.Cells.{Cells}
use Rattle.blocks.proofs.Places.{class_bounds}
use Rattle.block_map.specs.States.{PageState, free, cut, head, body, state_at, IsSpanSet, IsCut, IsBlockFor, all_free, large_states, LaidAt, IsLaid}
use Rattle.block_map.specs.FreeCells.{IsFullOn}
use Rattle.block_map.proofs.Seen.{within}
use Rattle.block_map.proofs.Spans.{place_of}
use Rattle.lazy_sweep.specs.AvailableRows.{HasFreeCell, IsAvailable, IsReadyPage, IsWaitingPage, AreReady, AreWaiting, IsBitSet}
use Rattle.object_space.proofs.Rooms.{cell_below}
use Rattle.lazy_sweep.proofs.ExactRows.{OffersOnly, cut_offers, exact_same, free_offers, ready_changed}

-- pages change, and no pending one
pub waiting_same : (rows : List (List Bool)) (states states' : List PageState) (row : List Bool) → AreWaiting rows states row → length states' ≡ length states
    → ((p : ℕ) → Has row p → state_at states' p ≡ state_at states p) → AreWaiting rows states' row
waiting_same rows states states' row exact size same = exact_same rows (length states) (length states') (IsWaitingPage states row) (IsWaitingPage states' row) exact size
    (λ p c k has. (subst (λ st. IsBlockFor st c k) (sym (same p has.1)) has.0, has.1))
    (λ p c k has. (subst (λ st. IsBlockFor st c k) (same p has.1) has.0, has.1))

-- pages change that have no free cell before or after
pub ready_span : (rows : List (List Bool)) (states states' : List PageState) (row : List Bool) (first n : ℕ) (state : ℕ → PageState) → AreReady rows states row → IsSpanSet states states' first n state
    → ((p : ℕ) → first ≤ p → p < first + n → (c : ℕ) (k : Kind) → IsAvailable (state_at states p) c k → ⊥) → ((p c : ℕ) (k : Kind) → IsAvailable (state p) c k → ⊥) → AreReady rows states' row
ready_span rows states states' row first n state exact span before after = exact_same rows (length states) (length states') (IsReadyPage states row) (IsReadyPage states' row) exact span.size
    (λ p c k has. (⊎_elim (λ h. absurd (before p h.0 h.1 c k has.0)) (λ out. subst (λ st. IsAvailable st c k) (sym (span.others p out)) has.0) (place_of first n p), has.1))
    (λ p c k has. (⊎_elim (λ h. absurd (after p c k (subst (λ st. IsAvailable st c k) (span.inside p h.0 h.1) has.0))) (λ out. subst (λ st. IsAvailable st c k) (span.others p out) has.0) (place_of first n p), has.1))

-- and none of them was cut
pub waiting_span : (rows : List (List Bool)) (states states' : List PageState) (row : List Bool) (first n : ℕ) (state : ℕ → PageState) → AreWaiting rows states row → IsSpanSet states states' first n state
    → ((p : ℕ) → Has row p → IsCut (state_at states p)) → ((p : ℕ) → first ≤ p → p < first + n → IsCut (state_at states p) → ⊥) → AreWaiting rows states' row
waiting_span rows states states' row first n state exact span cuts uncut = waiting_same rows states states' row exact span.size
    (λ p h. ⊎_elim (λ i. absurd (uncut p i.0 i.1 (cuts p h))) (λ out. span.others p out) (place_of first n p))

pub available_inside : (states : List PageState) (class : ℕ) (kind : Kind) (page : ℕ) → IsAvailable (state_at states page) class kind → page < length states
available_inside states class kind page has = within states page (λ (none : state_at states page ≡ free). subst (λ st. IsAvailable st class kind) none has)

-- a row with a free cell is not full
row_not_full : (b : Cells) (class : ℕ) (kind : Kind) → HasFreeCell b class kind → IsFullRow b.taken → ⊥
row_not_full b class kind has full = true≢false (sym (full has.cell has.in_row) ∙ has.is_free)

pub available_not_full : (st : PageState) (class : ℕ) (kind : Kind) → IsAvailable st class kind → IsFullOn st → ⊥
available_not_full free class kind has full = has
available_not_full (cut b) class kind has full = row_not_full b class kind has full
available_not_full (head n k) class kind has full = has
available_not_full (body q) class kind has full = has

-- the class of a page that is cut
pub available_class : (states : List PageState) (class : ℕ) (kind : Kind) (page : ℕ) → IsLaid states → IsAvailable (state_at states page) class kind → IsSizeClass class
available_class states class kind page laid has = by (state_at states page) has (laid.each page (available_inside states class kind page has))
  where
    by : (st : PageState) → IsAvailable st class kind → LaidAt states page st → IsSizeClass class
    by free has laid = absurd has
    by (cut b) has laid = subst IsSizeClass has.of_class laid.class
    by (head n k) has laid = absurd has
    by (body q) has laid = absurd has

-- a free page is cut
module _ (rows rows' : List (List Bool)) (states states' : List PageState) (row : List Bool) (class : ℕ) (kind : Kind) (page : ℕ) (exact : AreReady rows states row) (is_class : IsSizeClass class)
    (inside : page < length states) (was : state_at states page ≡ free) (cuts : (p : ℕ) → Has row p → IsCut (state_at states p)) where
  first_free : HasFreeCell (record { class = class; kind = kind; taken = replicate (PAGE_WORDS / class) false; first = 0 }) class kind
  first_free =
      let b = class_bounds class is_class in
      let some : 0 < PAGE_WORDS / class = cell_below class 0 (omega arith) (omega arith) in
      record { of_class = refl; of_kind = refl; cell = 0; in_row = rw length-replicate some; is_free = get_or-replicate (PAGE_WORDS / class) 0 false false some }

  pub exact_cut : states' ≡ set states page (all_free class kind) → IsBitSet rows rows' class kind page true → AreReady rows' states' row
  exact_cut became bit_is =
      let now : state_at states' page ≡ all_free class kind = ap (λ x. state_at x page) became ∙ get_or-set_same states page _ free inside in
      ready_changed rows rows' states states' row row class kind page true bit_is (ap length became ∙ length-set states page _)
      (λ p ne. ap (λ x. state_at x p) became ∙ get_or-set_other states page p _ free ne)
      (λ p ne. refl) exact
      (subst (λ st. OffersOnly st class kind) (sym was) (free_offers class kind))
      (subst (λ st. OffersOnly st class kind) (sym now) (cut_offers (record { class = class; kind = kind; taken = replicate (PAGE_WORDS / class) false; first = 0 })))
      (λ _. (subst (λ st. IsAvailable st class kind) (sym now) first_free, λ h. subst IsCut was (cuts page h)))
      (λ _. refl)

-- a large object comes, or goes
pub exact_large : (rows : List (List Bool)) (states states' : List PageState) (row : List Bool) (first n : ℕ) (kind : Kind) → AreReady rows states row → IsSpanSet states states' first n (large_states first n kind)
    → ((p : ℕ) → first ≤ p → p < first + n → state_at states p ≡ free) → AreReady rows states' row
exact_large rows states states' row first n kind exact span were = ready_span rows states states' row first n (large_states first n kind) exact span
    (λ p low high c k has. subst (λ st. IsAvailable st c k) (were p low high) has)
    (λ p c k has. none (p == first) c k has)
  where
    none : (x : Bool) (c : ℕ) (k : Kind) → IsAvailable (if x then head n kind else body first) c k → ⊥
    none true c k has = has
    none false c k has = has

pub exact_large_gone : (rows : List (List Bool)) (states states' : List PageState) (row : List Bool) (first n : ℕ) (kind : Kind) → AreReady rows states row → IsLaid states → first < length states → state_at states first ≡ head n kind
    → IsSpanSet states states' first n (λ _. free) → AreReady rows states' row
exact_large_gone rows states states' row first n kind exact laid inside is span = ready_span rows states states' row first n (λ _. free) exact span before (λ p c k has. has)
  where
    large : LaidAt states first (head n kind)
    large = subst (LaidAt states first) is (laid.each first inside)

    before : (p : ℕ) → first ≤ p → p < first + n → (c : ℕ) (k : Kind) → IsAvailable (state_at states p) c k → ⊥
    before p low high c k has = ⊎_elim
        (λ (e : p ≡ first). subst (λ st. IsAvailable st c k) (ap (state_at states) e ∙ is) has)
        (λ ne. subst (λ st. IsAvailable st c k) (large.2 p (omega arith) high) has)
        (cases_eq p first)
