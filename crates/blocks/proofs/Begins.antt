-- Cells by the granules at which they begin.
use Rattle.std.proofs.Common.{◌≡◌, ℕ, zero, suc, ◌+◌, ◌-◌, ◌*◌, ◌/◌, ◌%◌, ◌^◌, ◌<◌, ◌≤◌, ◌⊎◌, min, Bool, true, false, List, length, get_or, set, take, replicate, inl, inr, refl, sym, ap, ◌∙◌, subst, ⊎_elim, arith, length-set, get_or-set_same, get_or-set_other}
use Rattle.std.specs.Prelude.{◌≢◌, ◌==◌, nat_lt, slice_get, MatchBool, Some}
use Rattle.std.proofs.lemmas.Option.{slice_get_within, get_or_from_slice_get}
use Rattle.std.specs.Int.{bit_at, bit_not, trailing_zeros, w64}
use Rattle.std.specs.Int.RustNames.{bit_and}
use Rattle.std.proofs.lemmas.Bool.{agree_below_at, and_from, and_parts, lt-ltb, cases_eq, cases_lt, eqb-true, false≢true, ltb-true, true≢false}
use Rattle.std.proofs.lemmas.List.{ext_get_or, get_or-replicate, get_or_default, get_or_past, length-replicate}
use Rattle.std.proofs.lemmas.List.FromFn.{length-map-range_with_len, get_or-map-range_with_len}
use Rattle.std.proofs.lemmas.Nat.Bits.{bit_at-lt, bit_at-zero, bit_at_and, bit_at_not, bit_at-trailing_zeros}
use Rattle.std.proofs.Math.Nat.{div-div-eq-div-mul, mul-le-mul_right, mul-mod_left, mul-div_cancel}
use Rattle.std.proofs.Math.Seq.{take-length}
use Rattle.std.proofs.lemmas.Nat.{div-add-mod'}
use Rattle.words.specs.declared.limits.TheConstants.{GRANULE_BYTES, GRANULE_WORDS, PAGE_GRANULES, PAGE_WORDS}
use Rattle.words.specs.Bits.{members, members_between, Has, IsClear, IsEmptyFrom, IsFirstClearFrom, IsFirstFrom, IsFullRow}
use Rattle.words.specs.Classes.{IsSizeClass}
use Rattle.words.specs.declared.class.Kind.{Kind}
use Rattle.words.proofs.Classes.{class_even}
use Rattle.words.proofs.Counts.{member_more, members_same}
use Rattle.blocks.specs.Begins.{begins, begun, AreBegins, IsFreeWord}
use Rattle.words.specs.declared.class.TheConstants.{CLASSES}
use Rattle.blocks.specs.declared.starts.TheConstants.{BEGINS}
use Rattle.blocks.specs.Cells.{Cells}
use Rattle.blocks.specs.Sweeps.{mark_of, BeginsAt, SweepsCells}
use Rattle.blocks.proofs.Places.{cells_fit, class_bounds, divided}

-- ---- the granules of a class
pub granules_some : (c : ℕ) → IsSizeClass c → 0 < c / GRANULE_WORDS
granules_some c is = let b = class_bounds c is in omega arith

pub later : (g i k : ℕ) → 0 < g → i < k → i * g < k * g
later g i k some lt =
    let m : (i + 1) * g ≤ k * g = mul-le-mul_right g (omega arith) in
    let e : (i + 1) * g ≡ i * g + g = omega arith in omega (arith, m, e)

pub same_place : (g i k : ℕ) → 0 < g → i * g ≡ k * g → i ≡ k
same_place g i k some e = ⊎_elim
    (λ lt. absurd (let m = later g i k some lt in omega (arith, m, e)))
    (λ ge. ⊎_elim (λ gt. absurd (let m = later g k i some gt in omega (arith, m, e))) (λ le. omega arith) (cases_lt k i))
    (cases_lt i k)

granules_fit : (c : ℕ) → IsSizeClass c → PAGE_WORDS / c * (c / GRANULE_WORDS) ≤ PAGE_GRANULES
granules_fit c is =
    let some = class_bounds c is in
    let even = class_even c is in
    let d = (divided PAGE_WORDS c (omega arith)).0 in
    let h : c ≡ 2 * (c / GRANULE_WORDS) = omega (arith, even) in
    let m : PAGE_WORDS / c * c ≡ PAGE_WORDS / c * (2 * (c / GRANULE_WORDS)) = ap (λ x. PAGE_WORDS / c * x) h in
    let k : PAGE_WORDS / c * (2 * (c / GRANULE_WORDS)) ≡ 2 * (PAGE_WORDS / c * (c / GRANULE_WORDS)) = omega arith in
    omega (arith, d, m, k)

pub begin_fits : (c i : ℕ) → IsSizeClass c → i < PAGE_WORDS / c → i * (c / GRANULE_WORDS) < PAGE_GRANULES
begin_fits c i is lt =
    let m = later (c / GRANULE_WORDS) i (PAGE_WORDS / c) (granules_some c is) lt in let fit = granules_fit c is in omega (arith, m, fit)

-- ---- the table of the granules at which cells begin, checked for each class and granule
table_is : (k : ℕ) → k < 3328 → (bit_at (get_or BEGINS (k / 64) 0) (k % 64) == 1) ≡ begins (get_or CLASSES (k / 256) 0) (k % 256)
table_is k lt = agree_below_at (λ k. bit_at (get_or BEGINS (k / 64) 0) (k % 64) == 1) (λ k. begins (get_or CLASSES (k / 256) 0) (k % 256)) 3328 k refl lt

pub table_begins : (i j c w b : ℕ) → slice_get CLASSES i ≡ Some c → j < 4 → w ≡ get_or BEGINS (4 * i + j) 0 → b < 64 → (bit_at w b == 1) ≡ begins c (64 * j + b)
table_begins i j c w b is few read lt =
    let inside : i < 13 = slice_get_within CLASSES i c is in
    let k : ℕ = 256 * i + (64 * j + b) in
    let word : k / 64 ≡ 4 * i + j = omega arith in
    let place : k % 64 ≡ b = omega arith in
    let class : k / 256 ≡ i = omega arith in
    let rest : k % 256 ≡ 64 * j + b = omega arith in
    ap (λ x. bit_at x b == 1) read
    ∙ sym (ap (λ m. bit_at (get_or BEGINS m 0) (k % 64) == 1) word ∙ ap (λ m. bit_at (get_or BEGINS (4 * i + j) 0) m == 1) place)
    ∙ table_is k (omega arith)
    ∙ ap (λ m. begins (get_or CLASSES m 0) (k % 256)) class
    ∙ ap (λ m. begins (get_or CLASSES i 0) m) rest
    ∙ ap (λ d. begins d (64 * j + b)) (get_or_from_slice_get CLASSES i c 0 is)

pub number_inside : (i c : ℕ) → slice_get CLASSES i ≡ Some c → i < 13
number_inside i c is = slice_get_within CLASSES i c is

-- ---- the row of the cells
pub length-begun : (row : List Bool) (c : ℕ) → length (begun row c) ≡ PAGE_WORDS / c
unfolding begun
length-begun row c = length-map-range_with_len (λ i. get_or row (i * (c / GRANULE_WORDS)) false) 0 (PAGE_WORDS / c)

pub get_or-begun : (row : List Bool) (c i : ℕ) (d : Bool) → i < PAGE_WORDS / c → get_or (begun row c) i d ≡ get_or row (i * (c / GRANULE_WORDS)) false
unfolding begun
get_or-begun row c i d lt = get_or-map-range_with_len (λ i. get_or row (i * (c / GRANULE_WORDS)) false) 0 (PAGE_WORDS / c) i i d lt (omega arith)

pub in_page : (row cells : List Bool) (c i : ℕ) → begun row c ≡ cells → i < length cells → i < PAGE_WORDS / c
in_page row cells c i is lt = let size = sym (ap length is) ∙ length-begun row c in omega (arith, size, lt)

pub begun_few : (row : List Bool) (c : ℕ) → IsSizeClass c → length (begun row c) ≤ PAGE_GRANULES
begun_few row c is = let size = length-begun row c in let fits = cells_fit c is in omega (arith, size, fits)

module _ (row : List Bool) (c : ℕ) (is : IsSizeClass c) (h : AreBegins row c) where
  module _ (i : ℕ) (v : Bool) (lt : i < PAGE_WORDS / c) where
    inside : i * (c / GRANULE_WORDS) < length row
    inside = let size = h.size in let fits = begin_fits c i is lt in omega (arith, size, fits)

    in_cells : i < length (begun row c)
    in_cells = let size = length-begun row c in omega (arith, size, lt)

    pub begun_set : begun (set row (i * (c / GRANULE_WORDS)) v) c ≡ set (begun row c) i v
    begun_set = ext_get_or false _ _ (length-begun (set row (i * (c / GRANULE_WORDS)) v) c ∙ sym (length-set (begun row c) i v ∙ length-begun row c))
        (λ k in_row.
        let few : k < PAGE_WORDS / c = (let size = length-begun (set row (i * (c / GRANULE_WORDS)) v) c in omega (arith, size, in_row)) in
        get_or-begun (set row (i * (c / GRANULE_WORDS)) v) c k false few ∙ ⊎_elim
        (λ (e : k ≡ i).
        ap (λ m. get_or (set row (i * (c / GRANULE_WORDS)) v) (m * (c / GRANULE_WORDS)) false) e ∙ get_or-set_same row (i * (c / GRANULE_WORDS)) v false inside
        ∙ sym (ap (λ m. get_or (set (begun row c) i v) m false) e ∙ get_or-set_same (begun row c) i v false in_cells))
        (λ ne.
        get_or-set_other row (i * (c / GRANULE_WORDS)) (k * (c / GRANULE_WORDS)) v false (λ e. ne (same_place (c / GRANULE_WORDS) k i (granules_some c is) e))
        ∙ sym (get_or-set_other (begun row c) i k v false ne ∙ get_or-begun row c k false few))
        (cases_eq k i))

    pub begins_set : AreBegins (set row (i * (c / GRANULE_WORDS)) v) c
    begins_set = record {
      size = length-set row (i * (c / GRANULE_WORDS)) v ∙ h.size;
      only = λ k has. ⊎_elim
          (λ (e : k ≡ i * (c / GRANULE_WORDS)). (i, lt, sym e))
          (λ ne. h.only k (sym (get_or-set_other row (i * (c / GRANULE_WORDS)) k v false ne) ∙ has))
          (cases_eq k (i * (c / GRANULE_WORDS)));
    }

  -- ---- its members, one after the other
  pub begun_first : (low k : ℕ) → IsFirstFrom row (low * (c / GRANULE_WORDS)) k → IsFirstFrom (begun row c) low (k / (c / GRANULE_WORDS))
  begun_first low k first = subst (IsFirstFrom (begun row c) low) number (record {
    member = get_or-begun row c i false lt ∙ ap (λ m. get_or row m false) at ∙ first.member;
    inside = in_cells i true lt;
    from = ⊎_elim (λ before. absurd (let m = later (c / GRANULE_WORDS) i low (granules_some c is) before in let ge = first.from in omega (arith, m, ge, at))) (λ ge. ge) (cases_lt i low);
    least = λ j ge less. get_or-begun row c j false (omega (arith, lt, less)) ∙ first.least (j * (c / GRANULE_WORDS)) (mul-le-mul_right (c / GRANULE_WORDS) ge) (let m = later (c / GRANULE_WORDS) j i (granules_some c is) less in omega (arith, m, at));
  })
    where
      i : ℕ
      i = (h.only k first.member).0

      lt : i < PAGE_WORDS / c
      lt = (h.only k first.member).1

      at : i * (c / GRANULE_WORDS) ≡ k
      at = (h.only k first.member).2

      number : i ≡ k / (c / GRANULE_WORDS)
      number = sym (mul-div_cancel i (granules_some c is)) ∙ ap (λ m. m / (c / GRANULE_WORDS)) at

  pub begun_none : (low : ℕ) → IsEmptyFrom row (low * (c / GRANULE_WORDS)) → IsEmptyFrom (begun row c) low
  begun_none low none k ge in_row =
      let few : k < PAGE_WORDS / c = (let size = length-begun row c in omega (arith, size, in_row)) in
      get_or-begun row c k false few ∙ none (k * (c / GRANULE_WORDS)) (mul-le-mul_right (c / GRANULE_WORDS) ge) (inside k true few)

  at_start : 0 * (c / GRANULE_WORDS) ≡ 0
  at_start = omega arith

  pub begun_empty : (b : Bool) → MatchBool b (IsEmptyFrom row 0) ((k : ℕ) × IsFirstFrom row 0 k) → MatchBool b (IsEmptyFrom (begun row c) 0) ((i : ℕ) × IsFirstFrom (begun row c) 0 i)
  begun_empty true none = begun_none 0 (subst (IsEmptyFrom row) (sym at_start) none)
  begun_empty false some = (_, begun_first 0 some.0 (subst (λ n. IsFirstFrom row n some.0) (sym at_start) some.1))

  -- the cell at a granule
  pub begun_at : (b : Cells) (k : ℕ) → b.taken ≡ begun row c → b.class ≡ c → Has row k → BeginsAt b k (k / (c / GRANULE_WORDS)) × Has b.taken (k / (c / GRANULE_WORDS))
  begun_at b k taken class has = (
    record {
      inside = let size = ap length taken ∙ length-begun row c in omega (arith, size, lt, number);
      at = ap (λ d. k / (c / GRANULE_WORDS) * (d / GRANULE_WORDS)) class ∙ ap (λ m. m * (c / GRANULE_WORDS)) (sym number) ∙ at;
    },
    ap (λ r. get_or r (k / (c / GRANULE_WORDS)) false) taken ∙ ap (λ m. get_or (begun row c) m false) (sym number) ∙ get_or-begun row c i false lt ∙ ap (λ m. get_or row m false) at ∙ has,
  )
    where
      i : ℕ
      i = (h.only k has).0

      lt : i < PAGE_WORDS / c
      lt = (h.only k has).1

      at : i * (c / GRANULE_WORDS) ≡ k
      at = (h.only k has).2

      number : i ≡ k / (c / GRANULE_WORDS)
      number = sym (mul-div_cancel i (granules_some c is)) ∙ ap (λ m. m / (c / GRANULE_WORDS)) at

  pub begun_not_at : (b : Cells) (k : ℕ) → b.taken ≡ begun row c → b.class ≡ c → get_or row k false ≡ false → (i : ℕ) → BeginsAt b k i → Has b.taken i → ⊥
  begun_not_at b k taken class not i x has =
      let lt : i < PAGE_WORDS / c = (let size = ap length taken ∙ length-begun row c in let in_row = x.inside in omega (arith, size, in_row)) in
      let at : i * (c / GRANULE_WORDS) ≡ k = ap (λ d. i * (d / GRANULE_WORDS)) (sym class) ∙ x.at in
      false≢true (sym not ∙ ap (λ m. get_or row m false) (sym at) ∙ sym (get_or-begun row c i false lt) ∙ ap (λ r. get_or r i false) (sym taken) ∙ has)

  -- ---- how many they are
  none_between : (n k : ℕ) → n * (c / GRANULE_WORDS) < k → k < (n + 1) * (c / GRANULE_WORDS) → get_or row k false ≡ false
  none_between n k above below = by (get_or row k false) refl
    where
      by : (b : Bool) → get_or row k false ≡ b → get_or row k false ≡ false
      by false e = e
      by true e = absurd (
          let i : ℕ = (h.only k e).0 in let at = (h.only k e).2 in
          ⊎_elim (λ lt. let m : (i + 1) * (c / GRANULE_WORDS) ≤ (n + 1) * (c / GRANULE_WORDS) = mul-le-mul_right (c / GRANULE_WORDS) (omega arith) in
          let m2 : i * (c / GRANULE_WORDS) ≤ n * (c / GRANULE_WORDS) = mul-le-mul_right (c / GRANULE_WORDS) (omega arith) in omega (arith, m2, at, above))
          (λ ge. let m : (n + 1) * (c / GRANULE_WORDS) ≤ i * (c / GRANULE_WORDS) = mul-le-mul_right (c / GRANULE_WORDS) ge in omega (arith, m, at, below))
          (cases_lt i (n + 1)))

  no_members : (r : List Bool) → members_between r 0 0 ≡ 0
  no_members r = refl

  counted : (n : ℕ) → n ≤ PAGE_WORDS / c → members_between row 0 (n * (c / GRANULE_WORDS)) ≡ members_between (begun row c) 0 n
  counted zero few = ap (members_between row 0) (let e : 0 * (c / GRANULE_WORDS) ≡ 0 = omega arith in e) ∙ no_members row ∙ sym (no_members (begun row c))
  counted (suc n) few =
      let g : ℕ = c / GRANULE_WORDS in
      let some = granules_some c is in
      let here : n * g < length row = inside n true (omega arith) in
      let in_cell : n < length (begun row c) = in_cells n true (omega arith) in
      let before = counted n (omega arith) in
      let fits : n * g + 1 + (g - 1) ≤ length row = (let m = granules_fit c is in let size = h.size in let le : (n + 1) * g ≤ PAGE_WORDS / c * g = mul-le-mul_right g (omega arith) in let e : (n + 1) * g ≡ n * g + g = omega arith in omega (arith, m, size, le, e, some)) in
      let rest = members_same row 0 (n * g + 1) (g - 1) (omega arith) fits (λ k ge lt. none_between n k (omega arith) (let e : (n + 1) * g ≡ n * g + g = omega arith in omega (arith, e, lt, some))) in
      let at : n * g + 1 + (g - 1) ≡ suc n * g = (let e : suc n * g ≡ n * g + g = omega arith in omega (arith, e, some)) in
      let up : suc n ≡ n + 1 = omega arith in
      sym (ap (members_between row 0) at) ∙ rest ∙ one (get_or row (n * g) false) refl here in_cell before ∙ sym (ap (members_between (begun row c) 0) up)
    where
      one : (b : Bool) → get_or row (n * (c / GRANULE_WORDS)) false ≡ b → n * (c / GRANULE_WORDS) < length row → n < length (begun row c)
          → members_between row 0 (n * (c / GRANULE_WORDS)) ≡ members_between (begun row c) 0 n → members_between row 0 (n * (c / GRANULE_WORDS) + 1) ≡ members_between (begun row c) 0 (n + 1)
      one true e here in_cell before =
          let a = member_more row 0 (n * (c / GRANULE_WORDS)) 1 (omega arith) here (omega arith) e in
          let b = member_more (begun row c) 0 n 1 (omega arith) in_cell (omega arith) (get_or-begun row c n false (omega arith) ∙ e) in omega (arith, a, b, before)
      one false e here in_cell before =
          let a = member_more row 0 (n * (c / GRANULE_WORDS)) 0 (omega arith) here (omega arith) e in
          let b = member_more (begun row c) 0 n 0 (omega arith) in_cell (omega arith) (get_or-begun row c n false (omega arith) ∙ e) in omega (arith, a, b, before)

  none_past : (k : ℕ) → PAGE_WORDS / c * (c / GRANULE_WORDS) ≤ k → get_or row k false ≡ false
  none_past k past = by (get_or row k false) refl
    where
      by : (b : Bool) → get_or row k false ≡ b → get_or row k false ≡ false
      by false e = e
      by true e = absurd (let at = (h.only k e).2 in let m = later (c / GRANULE_WORDS) (h.only k e).0 (PAGE_WORDS / c) (granules_some c is) (h.only k e).1 in omega (arith, m, at, past))

  whole : (r : List Bool) (n : ℕ) → n ≡ length r → members_between r 0 n ≡ members r
  whole r n e = ap (λ k. members (take k r)) (let z : n - 0 ≡ length r = omega arith in z) ∙ ap members (take-length r)

  pub begun_count : members (begun row c) ≡ members row
  begun_count =
      let end : ℕ = PAGE_WORDS / c * (c / GRANULE_WORDS) in
      let fit = granules_fit c is in let size = h.size in
      let at : end + (PAGE_GRANULES - end) ≡ PAGE_GRANULES = omega arith in
      let rest = members_same row 0 end (PAGE_GRANULES - end) (omega arith) (omega arith) (λ k ge lt. none_past k ge) in
      sym (whole (begun row c) (PAGE_WORDS / c) (sym (length-begun row c))) ∙ sym (counted (PAGE_WORDS / c) (omega arith)) ∙ sym rest ∙ ap (members_between row 0) at ∙ whole row PAGE_GRANULES (sym size)

-- ---- the free cells of a word of granules
begins_here : (c i : ℕ) → IsSizeClass c → i < PAGE_WORDS / c → begins c (i * (c / GRANULE_WORDS)) ≡ true
begins_here c i is lt = and_from _ _ (ap (λ m. m == 0) (mul-mod_left i (c / GRANULE_WORDS))) (ap (λ q. nat_lt q (PAGE_WORDS / c)) (mul-div_cancel i (granules_some c is)) ∙ lt-ltb _ _ lt)

begins_only : (c k : ℕ) → begins c k ≡ true → (i : ℕ) × (i < PAGE_WORDS / c) × (i * (c / GRANULE_WORDS) ≡ k)
begins_only c k e =
    let p = and_parts (k % (c / GRANULE_WORDS) == 0) (nat_lt (k / (c / GRANULE_WORDS)) (PAGE_WORDS / c)) e in
    let none = eqb-true _ _ p.0 in
    let d = div-add-mod' k (c / GRANULE_WORDS) in
    (k / (c / GRANULE_WORDS), ltb-true _ _ p.1, omega (arith, none, d))

one_or_none : (x y : ℕ) → x < 2 → y ≡ 1 - x → (x == 1) ≡ (y == 0)
one_or_none zero y lt is = sym (ap (λ z. z == 0) is)
one_or_none (suc zero) y lt is = sym (ap (λ z. z == 0) is)
one_or_none (suc (suc x)) y lt is = absurd (omega arith)

module _ (row : List Bool) (c j w own all : ℕ) (is : IsSizeClass c) (fits : own < 2 ^ 64)
    (table : (b : ℕ) → b < 64 → (bit_at all b == 1) ≡ begins c (64 * j + b))
    (reads : (k : ℕ) → k / 64 ≡ j → get_or row k false ≡ (bit_at own (k % 64) == 1))
    (masked : w ≡ bit_and all (bit_not w64 own)) where
  bit_of : (b : ℕ) → b < 64 → bit_at w b ≡ min (bit_at all b) (1 - bit_at own b)
  bit_of b lt = ap (λ x. bit_at x b) masked ∙ bit_at_and all (bit_not w64 own) b ∙ ap (min (bit_at all b)) (bit_at_not w64 own b fits lt)

  free_cell : (i : ℕ) → i < length (begun row c) → i * (c / GRANULE_WORDS) / 64 ≡ j → get_or (begun row c) i true ≡ (bit_at w (i * (c / GRANULE_WORDS) % 64) == 0)
  free_cell i in_row here =
      let k : ℕ = i * (c / GRANULE_WORDS) in
      let lt : i < PAGE_WORDS / c = (let size = length-begun row c in omega (arith, size, in_row)) in
      let at : 64 * j + k % 64 ≡ k = omega arith in
      let one : bit_at all (k % 64) ≡ 1 = eqb-true _ _ (table (k % 64) (omega arith) ∙ ap (begins c) at ∙ begins_here c i is lt) in
      let small = bit_at-lt own (k % 64) in
      let bit = bit_of (k % 64) (omega arith) in
      get_or-begun row c i true lt ∙ reads k here ∙ one_or_none (bit_at own (k % 64)) (bit_at w (k % 64)) small (omega (arith, bit, one, small))

  free_only : (b : ℕ) → b < 64 → bit_at w b ≡ 1 → (i : ℕ) × (i < length (begun row c)) × (i * (c / GRANULE_WORDS) ≡ 64 * j + b)
  free_only b lt set_here =
      let bit = bit_of b lt in let small = bit_at-lt all b in
      let one : bit_at all b ≡ 1 = omega (arith, bit, set_here, small) in
      let p = begins_only c (64 * j + b) (sym (table b lt) ∙ ap (λ x. x == 1) one) in
      (p.0, (let size = length-begun row c in let few = p.1 in omega (arith, size, few)), p.2)

  pub is_free_word : IsFreeWord (begun row c) (c / GRANULE_WORDS) j w
  is_free_word = record { cell = free_cell; only = free_only }

-- ---- the lowest free cell
search_clear : (row : List Bool) (n : ℕ) → ((m : ℕ) → m < n → get_or row m false ≡ true) ⊎ ((i : ℕ) × (i < n) × (get_or row i false ≡ false) × ((m : ℕ) → m < i → get_or row m false ≡ true))
search_clear row zero = inl (λ m lt. absurd (omega arith))
search_clear row (suc n) = ⊎_elim
    (λ all. by all (get_or row n false) refl)
    (λ (f : (i : ℕ) × (i < n) × (get_or row i false ≡ false) × ((m : ℕ) → m < i → get_or row m false ≡ true)). inr (f.0, (let lt = f.1 in omega (arith, lt)), f.2, f.3))
    (search_clear row n)
  where
    by : ((m : ℕ) → m < n → get_or row m false ≡ true) → (b : Bool) → get_or row n false ≡ b
        → ((m : ℕ) → m < suc n → get_or row m false ≡ true) ⊎ ((i : ℕ) × (i < suc n) × (get_or row i false ≡ false) × ((m : ℕ) → m < i → get_or row m false ≡ true))
    by all true e = inl (λ m lt. ⊎_elim (λ below. all m below) (λ ge. ap (λ k. get_or row k false) (let same : m ≡ n = omega (arith, lt, ge) in same) ∙ e) (cases_lt m n))
    by all false e = inr (n, omega arith, e, all)

pub first_clear : (row : List Bool) (k : ℕ) → k < length row → get_or row k false ≡ false → (i : ℕ) × IsFirstClearFrom row 0 i
first_clear row k lt is = ⊎_elim
    (λ (all : (m : ℕ) → m < length row → get_or row m false ≡ true). absurd (false≢true (sym is ∙ all k lt)))
    (λ (f : (i : ℕ) × (i < length row) × (get_or row i false ≡ false) × ((m : ℕ) → m < i → get_or row m false ≡ true)). (f.0, record { clear = f.2; inside = f.1; from = omega arith; least = λ m ge less. f.3 m less }))
    (search_clear row (length row))

-- ---- whether there is one
-- each cell that begins below the granule is allocated
abbrev pub AreTakenBelow : List Bool → ℕ → ℕ → Type 0
AreTakenBelow cells g granule = (i : ℕ) → i < length cells → i * g < granule → get_or cells i true ≡ true

pub taken_none : (cells : List Bool) (g : ℕ) → AreTakenBelow cells g (64 * 0)
taken_none cells g i lt below = absurd (omega (arith, below))

pub taken_more : (cells : List Bool) (g j word : ℕ) → IsFreeWord cells g j word → word ≡ 0 → AreTakenBelow cells g (64 * j) → AreTakenBelow cells g (64 * (j + 1))
taken_more cells g j word free none h i lt below = ⊎_elim
    (λ before. h i lt before)
    (λ ge. free.cell i lt (omega (arith, ge, below)) ∙ ap (λ w. bit_at w (i * g % 64) == 0) none ∙ ap (λ b. b == 0) (bit_at-zero (i * g % 64)))
    (cases_lt (i * g) (64 * j))

pub taken_all : (cells : List Bool) (c : ℕ) → IsSizeClass c → length cells ≡ PAGE_WORDS / c → AreTakenBelow cells (c / GRANULE_WORDS) PAGE_GRANULES → IsFullRow cells
taken_all cells c is size h i lt = get_or_default cells i false true lt ∙ h i lt (begin_fits c i is (omega (arith, size, lt)))

pub some_free : (cells : List Bool) (g j word : ℕ) → IsFreeWord cells g j word → word ≢ 0 → word < 2 ^ 64 → (i : ℕ) × IsFirstClearFrom cells 0 i
some_free cells g j word free some fits =
    let t = bit_at-trailing_zeros w64 word (omega (arith, some)) fits in
    let b : ℕ = trailing_zeros w64 word in
    let p = free.only b t.0 t.1 in
    let at : p.0 * g ≡ 64 * j + b = p.2 in let few = t.0 in
    let in_bits : p.0 * g % 64 ≡ b = omega (arith, at, few) in
    let is : get_or cells p.0 true ≡ false = free.cell p.0 p.1 (omega (arith, at, few)) ∙ ap (λ m. bit_at word m == 0) in_bits ∙ ap (λ x. x == 0) t.1 in
    first_clear cells p.0 p.1 (get_or_default cells p.0 false true p.1 ∙ is)

-- ---- no cell is allocated
pub begun_clear : (row : List Bool) (c n : ℕ) → IsClear row PAGE_GRANULES → n ≡ PAGE_WORDS / c → begun row c ≡ replicate n false
begun_clear row c n clear is = ext_get_or false _ _ (length-begun row c ∙ sym (length-replicate n false ∙ is))
    (λ k in_row.
    let few : k < PAGE_WORDS / c = (let size = length-begun row c in omega (arith, size, in_row)) in
    get_or-begun row c k false few ∙ clear.clear (k * (c / GRANULE_WORDS)) ∙ sym (get_or-replicate n k false false (omega (arith, few, is))))

pub begins_clear : (row : List Bool) (c : ℕ) → IsClear row PAGE_GRANULES → AreBegins row c
begins_clear row c clear = record { size = clear.size; only = λ k has. absurd (true≢false (sym has ∙ clear.clear k)) }

-- ---- the marked ones are kept
module _ (marks row row' : List Bool) (page : ℕ) (c : ℕ) (h : AreBegins row c) (size : length row' ≡ length row)
    (kept : (k : ℕ) → Has marks (PAGE_GRANULES * page + k) → get_or row' k false ≡ get_or row k false)
    (gone : (k : ℕ) → get_or marks (PAGE_GRANULES * page + k) false ≡ false → get_or row' k false ≡ false) where
  pub begins_kept : AreBegins row' c
  begins_kept = record {
    size = size ∙ h.size;
    only = λ k has. h.only k (by k (get_or marks (PAGE_GRANULES * page + k) false) refl has);
  }
    where
      by : (k : ℕ) (b : Bool) → get_or marks (PAGE_GRANULES * page + k) false ≡ b → Has row' k → Has row k
      by k true e has = sym (kept k e) ∙ has
      by k false e has = absurd (true≢false (sym has ∙ gone k e))

  pub begun_kept : (b d : Cells) → b.taken ≡ begun row c → d.taken ≡ begun row' c → b.class ≡ c → d.class ≡ b.class → d.kind ≡ b.kind → SweepsCells marks page b d
  begun_kept b d old new class same kind = record {
    class = same;
    kind = kind;
    row = ap length new ∙ length-begun row' c ∙ sym (ap length old ∙ length-begun row c);
    marked = λ i m. ⊎_elim
        (λ lt. new_at i ∙ get_or-begun row' c i false lt ∙ kept (i * (c / GRANULE_WORDS)) (at i ∙ m) ∙ sym (old_at i ∙ get_or-begun row c i false lt))
        (λ past. new_at i ∙ get_or_past (begun row' c) i false (let n = length-begun row' c in omega (arith, n, past)) ∙ sym (old_at i ∙ get_or_past (begun row c) i false (let n = length-begun row c in omega (arith, n, past))))
        (cases_lt i (PAGE_WORDS / c));
    dead = λ i un. ⊎_elim
        (λ lt. new_at i ∙ get_or-begun row' c i false lt ∙ gone (i * (c / GRANULE_WORDS)) (at i ∙ un))
        (λ past. new_at i ∙ get_or_past (begun row' c) i false (let n = length-begun row' c in omega (arith, n, past)))
        (cases_lt i (PAGE_WORDS / c));
  }
    where
      new_at : (i : ℕ) → get_or d.taken i false ≡ get_or (begun row' c) i false
      new_at i = ap (λ r. get_or r i false) new

      old_at : (i : ℕ) → get_or b.taken i false ≡ get_or (begun row c) i false
      old_at i = ap (λ r. get_or r i false) old

      at : (i : ℕ) → get_or marks (PAGE_GRANULES * page + i * (c / GRANULE_WORDS)) false ≡ get_or marks (mark_of page b.class i) false
      at i = ap (λ x. get_or marks (PAGE_GRANULES * page + i * (x / GRANULE_WORDS)) false) (sym class)

-- ---- a block with other cells
pub same_cells : (class : ℕ) (kind : Kind) (t t' : List Bool) (f f' : ℕ) → t ≡ t' → f ≡ f' → ◌≡◌ {A = Cells} (record { class = class; kind = kind; taken = t; first = f }) (record { class = class; kind = kind; taken = t'; first = f' })
same_cells class kind t t' f f' a b = rw (a, b) refl

-- ---- a granule of the page, by the cell that has it
pub granule_of_byte : (c o : ℕ) → IsSizeClass c → o / GRANULE_BYTES / (c / GRANULE_WORDS) ≡ o / (8 * c)
granule_of_byte c o is =
    let even = class_even c is in
    let e : GRANULE_BYTES * (c / GRANULE_WORDS) ≡ 8 * c = omega (arith, even) in
    div-div-eq-div-mul o GRANULE_BYTES (c / GRANULE_WORDS) ∙ ap (λ d. o / d) e

pub ruleset places = (begin_fits, length-begun)

pub ruleset cells_begun = (begin_fits, length-begun, begun_set, begins_set, begun_count, begun_empty, begun_none, begun_first, begins_clear, begun_clear)
