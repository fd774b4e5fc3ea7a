-- The rows of pages with a free cell stay exact where a cell is freed.
use Rattle.std.proofs.Common.{◌≡◌, ℕ, ◌+◌, ◌<◌, ◌≤◌, ◌⊎◌, Bool, true, false, List, length, get_or, set, refl, sym, ap, ◌∙◌, subst, arith, inl, inr, ⊎_elim, length-set, get_or-set_same, get_or-set_other}
use Rattle.std.specs.Prelude.{◌≢◌}
use Rattle.std.proofs.lemmas.Bool.{cases_eq, cases_lt, true≢false}
use Rattle.words.specs.Bits.{Has}
use Rattle.words.specs.declared.class.Kind.{Kind}
use Rattle.words.specs.Classes.{IsSizeClass}
use Rattle.blocks.specs.Cells.{Cells}
use Rattle.block_map.specs.States.{PageState, free, cut, head, body, state_at, HasCell, IsSpanSet, IsBlockFor, span_of}
use Rattle.blocks.specs.Lists.{first_after_put}
use Rattle.block_map.specs.FreeCells.{HasFree}
use Rattle.block_map.specs.Listed.{with_put}
use Rattle.lazy_sweep.specs.AvailableRows.{row_of, HasFreeCell, IsAvailable, IsWaitingPage, AreReady, AreWaiting, IsBitSet}
use Rattle.lazy_sweep.proofs.ExactRows.{BlockOnly, OffersOnly, cut_block, cut_offers, exact_same, free_block, free_offers, ready_changed, same_bit, waiting_changed}

-- a cell is freed
module _ (rows rows' : List (List Bool)) (states mid : List PageState) (row : List Bool) (page cell : ℕ) (b : Cells) (exact : AreReady rows states row) (inside : page < length states)
    (at : HasCell (state_at states page) cell true) (became : mid ≡ set states page (with_put (state_at states page) cell)) (is : state_at mid page ≡ cut b) (is_class : IsSizeClass b.class) where
  -- the block as it was
  abbrev WasCut : Type 0
  WasCut = (a : Cells) × (state_at states page ≡ cut a) × (a.class ≡ b.class) × (a.kind ≡ b.kind) × (cell < length b.taken) × (get_or b.taken cell false ≡ false)

  was_cut : WasCut
  was_cut = by (state_at states page) refl at (sym is ∙ ap (λ x. state_at x page) became ∙ get_or-set_same states page _ free inside)
    where
      by : (st : PageState) → state_at states page ≡ st → HasCell st cell true → cut b ≡ with_put st cell → WasCut
      by free e has same = absurd has
      by (cut a) e has same = of a (record a { taken = set a.taken cell false; first = first_after_put a.first cell }) e has refl (one b (record a { taken = set a.taken cell false; first = first_after_put a.first cell }) same)
        where
          one : (x y : Cells) → cut x ≡ cut y → x ≡ y
          one x y q = cc

          of : (a d : Cells) → state_at states page ≡ cut a → (cell < length a.taken) × (get_or a.taken cell false ≡ true) → d ≡ record a { taken = set a.taken cell false; first = first_after_put a.first cell } → b ≡ d → WasCut
          of a d e has q same =
              let whole : b ≡ record a { taken = set a.taken cell false; first = first_after_put a.first cell } = same ∙ q in (
                a,
                e,
                sym (ap (λ (x : Cells). x.class) whole),
                sym (ap (λ (x : Cells). x.kind) whole),
                subst (λ m. cell < m) (sym (ap (λ (x : Cells). length x.taken) whole ∙ length-set a.taken cell false)) has.0,
                ap (λ (x : Cells). get_or x.taken cell false) whole ∙ get_or-set_same a.taken cell false false has.0,
              )
      by (head n k) e has same = absurd has
      by (body q) e has same = absurd has

  mid_size : length mid ≡ length states
  mid_size = ap length became ∙ length-set states page _

  mid_other : (p : ℕ) → p ≢ page → state_at mid p ≡ state_at states p
  mid_other p ne = ap (λ x. state_at x p) became ∙ get_or-set_other states page p _ free ne

  opened : OffersOnly (state_at states page) b.class b.kind
  opened =
      let w = was_cut in
      subst (λ st. OffersOnly st b.class b.kind) (sym w.1) (subst (λ k. OffersOnly (cut w.0) b.class k) w.3 (subst (λ c. OffersOnly (cut w.0) c w.0.kind) w.2 (cut_offers w.0)))

  of_block : (class : ℕ) (kind : Kind) (v : Bool) → class ≡ b.class → kind ≡ b.kind → IsBitSet rows rows' class kind page v → IsBitSet rows rows' b.class b.kind page v
  of_block class kind v c k bit_is = subst (λ l. IsBitSet rows rows' b.class l page v) k (subst (λ d. IsBitSet rows rows' d kind page v) c bit_is)

  cell_opens : IsAvailable (state_at mid page) b.class b.kind
  cell_opens = let w = was_cut in subst (λ st. IsAvailable st b.class b.kind) (sym is) (record { of_class = refl; of_kind = refl; cell = cell; in_row = w.4; is_free = w.5 })

  open_after : OffersOnly (state_at mid page) b.class b.kind
  open_after = subst (λ st. OffersOnly st b.class b.kind) (sym is) (cut_offers b)

  pub exact_entered : (class : ℕ) (kind : Kind) → class ≡ b.class → kind ≡ b.kind → (Has row page → ⊥) → IsBitSet rows rows' class kind page true → AreReady rows' mid row
  exact_entered class kind c k swept bit_is =
      ready_changed rows rows' states mid row row b.class b.kind page true (of_block class kind true c k bit_is) mid_size mid_other (λ p ne. refl) exact opened open_after
      (λ _. (cell_opens, swept))
      (λ _. refl)

  -- where the page had another free cell, the rows say of it already that it has one
  pub exact_kept : HasFree (state_at states page) → (Has row page → ⊥) → AreReady rows mid row
  exact_kept has swept =
      let w = was_cut in
      ready_changed rows rows states mid row row b.class b.kind page true
      (same_bit rows b.class b.kind page true (exact.entered b.class b.kind page is_class (subst (λ st. IsAvailable st b.class b.kind) (sym w.1) (first_of w.0 w.2 w.3 (subst HasFree w.1 has)), swept)))
      mid_size mid_other (λ p ne. refl) exact opened open_after
      (λ _. (cell_opens, swept))
      (λ _. refl)
    where
      first_of : (a : Cells) → a.class ≡ b.class → a.kind ≡ b.kind → HasFree (cut a) → HasFreeCell a b.class b.kind
      first_of a c k first = record { of_class = c; of_kind = k; cell = first.0; in_row = first.1.0; is_free = first.1.1 }

  -- a pending page is not ready, whatever cells it has
  pub exact_unswept : Has row page → AreReady rows mid row
  exact_unswept pending = ready_changed rows rows states mid row row b.class b.kind page false (same_bit rows b.class b.kind page false clear) mid_size mid_other (λ p ne. refl) exact opened open_after
      (λ e. absurd (true≢false (sym e)))
      (λ has. absurd (has.1 pending))
    where
      clear : get_or (row_of rows b.class b.kind) page false ≡ false
      clear = by (get_or (row_of rows b.class b.kind) page false) refl
        where
          by : (x : Bool) → get_or (row_of rows b.class b.kind) page false ≡ x → get_or (row_of rows b.class b.kind) page false ≡ false
          by false e = e
          by true e = absurd ((exact.only b.class b.kind page is_class e).1 pending)

  -- and its page becomes free
  pub exact_uncut : (states' : List PageState) (class : ℕ) (kind : Kind) → class ≡ b.class → kind ≡ b.kind → IsSpanSet mid states' page (span_of (state_at mid page)) (λ _. free)
      → (row' : List Bool) → ((p : ℕ) → p ≢ page → get_or row' p false ≡ get_or row p false) → IsBitSet rows rows' class kind page false → AreReady rows' states' row'
  exact_uncut states' class kind c k span row' rest bit_is =
      let one : IsSpanSet mid states' page 1 (λ _. free) = subst (λ n. IsSpanSet mid states' page n (λ _. free)) (ap span_of is) span in
      let now : state_at states' page ≡ free = one.inside page (omega arith) (omega arith) in
      ready_changed rows rows' states states' row row' b.class b.kind page false (of_block class kind false c k bit_is) (one.size ∙ mid_size)
      (λ p ne. one.others p (out p ne) ∙ mid_other p ne)
      rest exact opened
      (subst (λ st. OffersOnly st b.class b.kind) (sym now) (free_offers b.class b.kind))
      (λ e. absurd (true≢false (sym e)))
      (λ has. absurd (subst (λ st. IsAvailable st b.class b.kind) now has.0))
    where
      out : (p : ℕ) → p ≢ page → (p < page) ⊎ (page + 1 ≤ p)
      out p ne = ⊎_elim (λ lt. inl lt) (λ ge. inr (omega arith)) (cases_lt p page)

  -- the rows of those that wait
  module _ (waits waits' : List (List Bool)) (awaited : AreWaiting waits states row) where
    block_before : BlockOnly (state_at states page) b.class b.kind
    block_before = let w = was_cut in subst (λ st. BlockOnly st b.class b.kind) (sym w.1) (λ c k has. (sym has.0 ∙ w.2, sym has.1 ∙ w.3))

    block_after : BlockOnly (state_at mid page) b.class b.kind
    block_after = subst (λ st. BlockOnly st b.class b.kind) (sym is) (cut_block b)

    pub awaited_kept : AreWaiting waits mid row
    awaited_kept = exact_same waits (length states) (length mid) (IsWaitingPage states row) (IsWaitingPage mid row) awaited mid_size
        (λ p c k has. (⊎_elim (λ e. onto p c k e has.0) (λ ne. subst (λ st. IsBlockFor st c k) (sym (mid_other p ne)) has.0) (cases_eq p page), has.1))
        (λ p c k has. (⊎_elim (λ e. back p c k e has.0) (λ ne. subst (λ st. IsBlockFor st c k) (mid_other p ne) has.0) (cases_eq p page), has.1))
      where
        onto : (p c : ℕ) (k : Kind) → p ≡ page → IsBlockFor (state_at states p) c k → IsBlockFor (state_at mid p) c k
        onto p c k e has =
            let one = block_before c k (subst (λ q. IsBlockFor (state_at states q) c k) e has) in
            subst (λ q. IsBlockFor (state_at mid q) c k) (sym e) (subst (λ st. IsBlockFor st c k) (sym is) (sym one.0, sym one.1))

        back : (p c : ℕ) (k : Kind) → p ≡ page → IsBlockFor (state_at mid p) c k → IsBlockFor (state_at states p) c k
        back p c k e has =
            let w = was_cut in
            let one = block_after c k (subst (λ q. IsBlockFor (state_at mid q) c k) e has) in
            subst (λ q. IsBlockFor (state_at states q) c k) (sym e) (subst (λ st. IsBlockFor st c k) (sym w.1) (w.2 ∙ sym one.0, w.3 ∙ sym one.1))

    pub awaited_uncut : (states' : List PageState) (class : ℕ) (kind : Kind) → class ≡ b.class → kind ≡ b.kind → IsSpanSet mid states' page (span_of (state_at mid page)) (λ _. free)
        → (row' : List Bool) → ((p : ℕ) → p ≢ page → get_or row' p false ≡ get_or row p false) → IsBitSet waits waits' class kind page false → AreWaiting waits' states' row'
    awaited_uncut states' class kind c k span row' rest bit_is =
        let one : IsSpanSet mid states' page 1 (λ _. free) = subst (λ n. IsSpanSet mid states' page n (λ _. free)) (ap span_of is) span in
        let now : state_at states' page ≡ free = one.inside page (omega arith) (omega arith) in
        waiting_changed waits waits' states states' row row' b.class b.kind page false
        (subst (λ l. IsBitSet waits waits' b.class l page false) k (subst (λ d. IsBitSet waits waits' d kind page false) c bit_is))
        (one.size ∙ mid_size)
        (λ p ne. one.others p (out p ne) ∙ mid_other p ne)
        rest awaited block_before
        (subst (λ st. BlockOnly st b.class b.kind) (sym now) (free_block b.class b.kind))
        (λ e. absurd (true≢false (sym e)))
        (λ has. absurd (subst (λ st. IsBlockFor st b.class b.kind) now has.0))
      where
        out : (p : ℕ) → p ≢ page → (p < page) ⊎ (page + 1 ≤ p)
        out p ne = ⊎_elim (λ lt. inl lt) (λ ge. inr (omega arith)) (cases_lt p page)
