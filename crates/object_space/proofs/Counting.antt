-- How many objects of a block are unmarked: as many as it has allocated cells beyond its marks, since each mark is that of
-- an allocated object.
use Rattle.std.proofs.Common.{◌≡◌, ℕ, zero, suc, ◌-◌, ◌+◌, ◌*◌, ◌/◌, ◌%◌, ◌<◌, ◌≤◌, Bool, true, false, ◌==◌, List, [], ◌∷◌, ◌++◌, length, get_or, take, drop, Contains, All, Some, refl, sym, ap, ◌∙◌, subst, ⊎_elim, arith, nat_eq, length-append}
use Rattle.std.specs.List.{IsDistinct}
use Rattle.std.proofs.lemmas.Bool.{cases_lt, false≢true}
use Rattle.std.proofs.lemmas.Cmp.{nat_eq_equiv}
use Rattle.std.proofs.lemmas.List.Elements.{All-push, All-weaker, All-contains, Contains-push, Contains-append_left}
use Rattle.std.proofs.lemmas.List.Sums.{count_by_more_yes, count_by_more_no, count_by-le-length}
use Rattle.std.proofs.lemmas.Map.Keys.{IsDistinct-push}
use Rattle.std.proofs.lemmas.Nat.{div-add-mod'}
use Rattle.std.proofs.Math.Nat.{mul-le-mul_right, mul-le-mul_left}
use Rattle.std.proofs.Math.Seq.{take-length}
use Rattle.words.specs.declared.limits.TheConstants.{PAGE_WORDS, PAGE_GRANULES}
use Rattle.words.specs.Bits.{Has, members, members_between}
use Rattle.words.specs.Layout.{granule}
use Rattle.words.proofs.Classes.{class_even, class_some}
use Rattle.words.proofs.Counts.{member_more, members_same}
use Rattle.mark_bits.specs.Granules.{marks_on}
use Rattle.blocks.specs.Cells.{Cells, IsCells}
use Rattle.block_map.specs.declared.found.Found.{Found}
use Rattle.block_map.specs.FoundIn.{found_in, IsLawful}
use Rattle.block_map.specs.Objects.{IsObject, IsObjectOn, cell_object}
use Rattle.block_map.specs.States.{PageState, cut, state_at, LaidAt, IsLaid}
use Rattle.marker.specs.Marking.{Marking, IsObjectGranule, AreMarksObjects}
use Rattle.object_space.specs.Forgets.{IsUnmarkedOn, AreUnmarkedOn}
use Rattle.object_space.proofs.Sweeping.{distinct_none, not_any}
use Rattle.lazy_sweep.proofs.Lying.{begins_on}

-- ---- products
cell_granules : (i c : ℕ) → c % 2 ≡ 0 → i * (8 * c) ≡ 16 * (i * (c / 2))
cell_granules i c even =
    let two : c ≡ 2 * (c / 2) = omega arith in
    let e : i * c ≡ i * (2 * (c / 2)) = ap (λ x. i * x) two in
    omega (arith, e)

cells_granules : (c : ℕ) → c % 2 ≡ 0 → PAGE_WORDS / c * (c / 2) ≤ PAGE_GRANULES
cells_granules c even =
    let e : PAGE_WORDS / c * c + PAGE_WORDS % c ≡ PAGE_WORDS = div-add-mod' PAGE_WORDS c in
    let two : c ≡ 2 * (c / 2) = omega arith in
    let m : PAGE_WORDS / c * c ≡ PAGE_WORDS / c * (2 * (c / 2)) = ap (λ x. PAGE_WORDS / c * x) two in
    omega (arith, e, m)

-- multiples of h are at least h apart
apart : (h i k : ℕ) → i < k → i * h + h ≤ k * h
apart h i k lt = let m : (i + 1) * h ≤ k * h = mul-le-mul_right h (omega arith) in omega (arith, m)

none_between : (row : List Bool) (low high : ℕ) → high ≡ low → members_between row low high + 0 ≡ 0
none_between row low high e = ap (λ n. members (take n (drop low row)) + 0) (let z : high - low ≡ 0 = omega arith in z)

-- ---- the marks on the page of a block
module _ (states : List PageState) (laid : IsLaid states) (lawful : IsLawful states) (m : Marking) (objects : AreMarksObjects (found_in states) m) (size : length m.marks ≡ PAGE_GRANULES * length states)
    (page : ℕ) (inside : page < length states) (b : Cells) (is : state_at states page ≡ cut b) where
  cells : IsCells b
  cells = subst (LaidAt states page) is (laid.each page inside)

  -- the granule of a cell
  abbrev spot : ℕ → ℕ
  spot i = PAGE_GRANULES * page + i * (b.class / 2)

  spot_is : (i : ℕ) → granule (cell_object page b i).base ≡ spot i
  spot_is i = let e = cell_granules i b.class (class_even b.class cells.class) in omega (arith, e)

  spot_next : (i : ℕ) → spot (i + 1) ≡ spot i + b.class / 2
  spot_next i = omega arith

  -- each cell's granules are on the page
  spot_end : (i : ℕ) → i ≤ length b.taken → spot i ≤ PAGE_GRANULES * (page + 1)
  spot_end i le =
      let fit = cells_granules b.class (class_even b.class cells.class) in
      let count = cells.size in
      let most : i * (b.class / 2) ≤ PAGE_WORDS / b.class * (b.class / 2) = mul-le-mul_right (b.class / 2) (omega arith) in
      omega (arith, fit, most)

  -- a mark on the page is that of an allocated cell
  marked_cell : (q : ℕ) → PAGE_GRANULES * page ≤ q → q < PAGE_GRANULES * (page + 1) → Has m.marks q → (i : ℕ) × (i < length b.taken) × (get_or b.taken i false ≡ true) × (q ≡ spot i)
  marked_cell q from below has = (f.cell, on.1, on.2, sym o.first ∙ ap granule (ap (λ (x : Found). x.base) on.0) ∙ ap (λ p. granule (cell_object p b f.cell).base) here ∙ spot_is f.cell)
    where
      o : IsObjectGranule (found_in states) q
      o = objects q has

      f : Found
      f = o.object

      there : IsObject states f
      there = lawful.object f.base f o.is

      here : f.page ≡ page
      here = let first = o.first in let at = begins_on states laid f there in let above = (lawful.map.placed f.base f o.is).above in omega arith

      on : IsObjectOn (cut b) f
      on = subst (λ st. IsObjectOn st f) (ap (state_at states) here ∙ is) there.on

  -- no granule of a cell but its first one is marked
  unmarked_within : (k : ℕ) → k < length b.taken → (q : ℕ) → spot k + 1 ≤ q → q < spot (k + 1) → get_or m.marks q false ≡ false
  unmarked_within k lt q from below = by (get_or m.marks q false) refl
    where
      by : (x : Bool) → get_or m.marks q false ≡ x → get_or m.marks q false ≡ false
      by false e = e
      by true e =
          let c = marked_cell q (omega arith) (let end = spot_end (k + 1) (omega arith) in omega arith) e in
          let i = c.0 in let at = c.3 in
          ⊎_elim (λ less. absurd (let a = apart (b.class / 2) i k less in omega arith))
          (λ ge. ⊎_elim (λ more. absurd (let a = apart (b.class / 2) k i more in omega arith)) (λ le. absurd (let same : i ≡ k = omega arith in let x = at ∙ ap spot same in omega arith)) (cases_lt k i))
          (cases_lt i k)

  -- and none past the last cell
  unmarked_past : (q : ℕ) → spot (length b.taken) ≤ q → q < PAGE_GRANULES * (page + 1) → get_or m.marks q false ≡ false
  unmarked_past q from below = by (get_or m.marks q false) refl
    where
      by : (x : Bool) → get_or m.marks q false ≡ x → get_or m.marks q false ≡ false
      by false e = e
      by true e =
          let c = marked_cell q (omega arith) below e in
          let lt = c.1 in let at = c.3 in let a = apart (b.class / 2) c.0 (length b.taken) lt in let some = class_some b.class cells.class in absurd (omega arith)

  -- the marks up to a cell, and up to the next one
  marks_next : (k x : ℕ) → k < length b.taken → x < 2 → get_or m.marks (spot k) false ≡ (x == 1) → members_between m.marks (PAGE_GRANULES * page) (spot (k + 1)) ≡ members_between m.marks (PAGE_GRANULES * page) (spot k) + x
  marks_next k x lt small mark =
      let some = class_some b.class cells.class in
      let next = spot_next k in let end = spot_end (k + 1) (omega arith) in
      let at : spot (k + 1) ≡ spot k + 1 + (b.class / 2 - 1) = omega arith in
      ap (members_between m.marks (PAGE_GRANULES * page)) at
      ∙ members_same m.marks (PAGE_GRANULES * page) (spot k + 1) (b.class / 2 - 1) (omega arith) (omega arith) (λ q from below. unmarked_within k lt q from (omega arith))
      ∙ member_more m.marks (PAGE_GRANULES * page) (spot k) x (omega arith) (omega arith) small mark

  -- ---- the cells up to one of them
  abbrev base_of : ℕ → ℕ
  base_of i = (cell_object page b i).base

  -- an unmarked allocated cell before this one has the base
  record IsDead (k base : ℕ) : Type 0 where
    cell : ℕ
    before : cell < k
    at : base_of cell ≡ base
    taken : get_or b.taken cell false ≡ true
    unmarked : Has m.marks (granule base) → ⊥

  record Tally (k : ℕ) : Type 0 where
    bases : List ℕ
    number : members (take k b.taken) ≡ members_between m.marks (PAGE_GRANULES * page) (spot k) + length bases
    distinct : IsDistinct nat_eq bases
    each : All (IsDead k) bases
    all : (i : ℕ) → i < k → get_or b.taken i false ≡ true → (Has m.marks (granule (base_of i)) → ⊥) → Contains bases (base_of i)

  tally_none : Tally 0
  tally_none = record {
    bases = [];
    number = sym (none_between m.marks (PAGE_GRANULES * page) (spot 0) (omega arith));
    distinct = distinct_none;
    each = λ k d lt. absurd (omega arith);
    all = λ i lt taken not. absurd (omega arith);
  }

  -- a cell with nothing to forget: free, or marked
  tally_same : (k x : ℕ) → k < length b.taken → x < 2 → members (take (k + 1) b.taken) ≡ members (take k b.taken) + x → get_or m.marks (spot k) false ≡ (x == 1) → (get_or b.taken k false ≡ true → Has m.marks (granule (base_of k))) → Tally k → Tally (k + 1)
  tally_same k x lt small grown mark marked t = record {
    bases = t.bases;
    number = let before = t.number in let next = marks_next k x lt small mark in omega (arith, before, next, grown);
    distinct = t.distinct;
    each = All-weaker (IsDead k) (IsDead (k + 1)) (λ base d. let before = d.before in record { cell = d.cell; before = omega arith; at = d.at; taken = d.taken; unmarked = d.unmarked }) t.bases t.each;
    all = λ i less taken not. ⊎_elim (λ before. t.all i before taken not)
        (λ ge. absurd (let same : i ≡ k = omega arith in not (subst (λ j. Has m.marks (granule (base_of j))) (sym same) (marked (subst (λ j. get_or b.taken j false ≡ true) same taken)))))
        (cases_lt i k);
  }

  -- and a dead one
  tally_dead : (k : ℕ) → k < length b.taken → get_or b.taken k false ≡ true → (Has m.marks (spot k) → ⊥) → get_or m.marks (spot k) false ≡ false → Tally k → Tally (k + 1)
  tally_dead k lt taken not mark t = record {
    bases = t.bases ++ base_of k ∷ [];
    number =
        let before = t.number in let next = marks_next k 0 lt (omega arith) mark in
        let grown : members (take (k + 1) b.taken) ≡ members (take k b.taken) + 1 = count_by_more_yes (λ x. x) b.taken k false lt taken in
        let long = length-append t.bases (base_of k ∷ []) in omega (arith, before, next, grown, long);
    distinct = IsDistinct-push nat_eq_equiv t.bases (base_of k) t.distinct (not_any t.bases (base_of k) fresh);
    each = All-push (IsDead (k + 1)) t.bases (base_of k)
        (All-weaker (IsDead k) (IsDead (k + 1)) (λ base d. let before = d.before in record { cell = d.cell; before = omega arith; at = d.at; taken = d.taken; unmarked = d.unmarked }) t.bases t.each)
        (record { cell = k; before = omega arith; at = refl; taken = taken; unmarked = λ h. not (subst (Has m.marks) (spot_is k) h) });
    all = λ i less was no. ⊎_elim (λ before. Contains-append_left t.bases (base_of k ∷ []) (base_of i) (t.all i before was no))
        (λ ge. let same : i ≡ k = omega arith in subst (λ j. Contains (t.bases ++ base_of k ∷ []) (base_of j)) (sym same) (Contains-push t.bases (base_of k)))
        (cases_lt i k);
  }
    where
      fresh : Contains t.bases (base_of k) → ⊥
      fresh has =
          let d = All-contains (IsDead k) t.bases (base_of k) t.each has in
          let before = d.before in let at = d.at in let some = class_some b.class cells.class in
          let a = apart (8 * b.class) d.cell k before in omega (arith, at, a, some)

  tally_more : (k : ℕ) → k < length b.taken → Tally k → Tally (k + 1)
  tally_more k lt t = by (get_or b.taken k false) refl (get_or m.marks (spot k) false) refl
    where
      on_page : (PAGE_GRANULES * page ≤ spot k) × (spot k < PAGE_GRANULES * (page + 1))
      on_page = let end = spot_end (k + 1) (omega arith) in let some = class_some b.class cells.class in let next = spot_next k in (omega arith, omega arith)

      by : (taken : Bool) → get_or b.taken k false ≡ taken → (mark : Bool) → get_or m.marks (spot k) false ≡ mark → Tally (k + 1)
      by true set true is = tally_same k 1 lt (omega arith) (count_by_more_yes (λ x. x) b.taken k false lt set) is (λ _. subst (Has m.marks) (sym (spot_is k)) is) t
      by true set false is = tally_dead k lt set (λ h. false≢true (sym is ∙ h)) is t
      by false unset false is = tally_same k 0 lt (omega arith) (count_by_more_no (λ x. x) b.taken k false lt unset ∙ omega arith) is (λ h. absurd (false≢true (sym unset ∙ h))) t
      by false unset true is = absurd (false≢true (sym unset ∙ (let c = marked_cell (spot k) on_page.0 on_page.1 is in subst (λ i. get_or b.taken i false ≡ true) (same_cell c.0 c.3) c.2)))
        where
          same_cell : (i : ℕ) → spot k ≡ spot i → i ≡ k
          same_cell i e =
              let some = class_some b.class cells.class in
              ⊎_elim (λ less. absurd (let a = apart (b.class / 2) i k less in omega arith))
              (λ ge. ⊎_elim (λ more. absurd (let a = apart (b.class / 2) k i more in omega arith)) (λ le. omega arith) (cases_lt k i))
              (cases_lt i k)

  tally_upto : (k : ℕ) → k ≤ length b.taken → Tally k
  tally_upto zero le = tally_none
  tally_upto (suc k) le = subst Tally (let e : k + 1 ≡ suc k = omega arith in e) (tally_more k (omega arith) (tally_upto k (omega arith)))

  -- ---- all of them
  unmarked_base : (base : ℕ) → IsDead (length b.taken) base → IsUnmarkedOn states m.marks page base
  unmarked_base base d = record {
    object = cell_object page b d.cell;
    is = subst (λ x. found_in states x ≡ Some (cell_object page b d.cell)) d.at (lawful.found (base_of d.cell) (cell_object page b d.cell) (record { page = inside; on = subst (λ st. IsObjectOn st (cell_object page b d.cell)) (sym is) (refl, d.before, d.taken) }) (let some = class_some b.class cells.class in record { from = omega arith; below = omega arith }));
    at = d.at;
    on = refl;
    unmarked = d.unmarked;
  }

  -- as many are unmarked as cells are allocated beyond the marks
  pub dead_cells : (bases : List ℕ) × (members b.taken ≡ marks_on m.marks page + length bases) × AreUnmarkedOn states m.marks page bases
  dead_cells = (t.bases, count, record { distinct = t.distinct; each = All-weaker (IsDead (length b.taken)) (IsUnmarkedOn states m.marks page) unmarked_base t.bases t.each; all = all })
    where
      t : Tally (length b.taken)
      t = tally_upto (length b.taken) (omega arith)

      count : members b.taken ≡ marks_on m.marks page + length t.bases
      count =
          let end = spot_end (length b.taken) (omega arith) in
          let at : PAGE_GRANULES * (page + 1) ≡ spot (length b.taken) + (PAGE_GRANULES * (page + 1) - spot (length b.taken)) = omega arith in
          let rest : marks_on m.marks page ≡ members_between m.marks (PAGE_GRANULES * page) (spot (length b.taken)) =
          ap (members_between m.marks (PAGE_GRANULES * page)) at
          ∙ members_same m.marks (PAGE_GRANULES * page) (spot (length b.taken)) (PAGE_GRANULES * (page + 1) - spot (length b.taken)) spot_low (omega arith) (λ q from below. unmarked_past q from (omega arith)) in
          let all : members (take (length b.taken) b.taken) ≡ members b.taken = ap members (take-length b.taken) in
          let number = t.number in
          omega (arith, rest, all, number)
        where
          spot_low : PAGE_GRANULES * page ≤ spot (length b.taken)
          spot_low = omega arith

      all : (f : Found) → found_in states f.base ≡ Some f → f.page ≡ page → (Has m.marks (granule f.base) → ⊥) → Contains t.bases f.base
      all f there here not =
          let on : IsObjectOn (cut b) f = subst (λ st. IsObjectOn st f) (ap (state_at states) here ∙ is) (lawful.object f.base f there).on in
          let base : base_of f.cell ≡ f.base = ap (λ p. (cell_object p b f.cell).base) (sym here) ∙ sym (ap (λ (x : Found). x.base) on.0) in
          subst (Contains t.bases) base (t.all f.cell on.1 on.2 (λ h. not (subst (λ x. Has m.marks (granule x)) base h)))

  -- and no more than a page has granules
  pub cells_few : members b.taken ≤ PAGE_GRANULES
  cells_few =
      let most = count_by-le-length (λ x. x) b.taken in let size = cells.size in let some = class_some b.class cells.class in
      let fit = quotient_half b.class some in
      omega arith
    where
      quotient_half : (c : ℕ) → 2 ≤ c → PAGE_WORDS / c ≤ PAGE_GRANULES
      quotient_half c some =
          let e : PAGE_WORDS / c * c + PAGE_WORDS % c ≡ PAGE_WORDS = div-add-mod' PAGE_WORDS c in
          let le : PAGE_WORDS / c * 2 ≤ PAGE_WORDS / c * c = mul-le-mul_left (PAGE_WORDS / c) some in
          omega (arith, e, le)
