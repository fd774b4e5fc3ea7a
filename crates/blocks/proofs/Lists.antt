-- Lists of free cells, and the words that they stand in.
use Rattle.std.proofs.Common.{◌≡◌, ℕ, ◌+◌, ◌*◌, ◌/◌, ◌<◌, ◌≤◌, ◌⊎◌, Bool, true, false, List, [], ◌∷◌, ◌++◌, suc, take, length, get_or, set, replicate, inl, inr, refl, sym, ap, ◌∙◌, subst, ⊎_elim, arith, eq-eqb, length-set, get_or-set_same, get_or-set_other}
use Rattle.std.specs.Prelude.{◌≢◌, ◌==◌, if◌then◌else◌, MatchBool}
use Rattle.std.proofs.lemmas.Bool.{cases_eq, cases_lt, eqb-true, false≢true}
use Rattle.std.proofs.lemmas.List.{ext_get_or, get_or-replicate, get_or_default, get_or_past, length-replicate, set-set}
use Rattle.std.proofs.Math.Seq.{take-suc-set}
use Rattle.std.proofs.Math.Nat.{mul-le-mul_right}
use Rattle.words.specs.declared.limits.TheConstants.{MOST_PAGES, PAGE_GRANULES, PAGE_WORDS}
use Rattle.words.specs.Bits.{IsFirstClearFrom, IsFullFrom, IsFullRow}
use Rattle.words.specs.Classes.{IsSizeClass}
use Rattle.pages.specs.Memory.{IsWordAddress, word_index, with_word_at}
use Rattle.blocks.specs.Cells.{Cells, IsCells}
use Rattle.blocks.specs.declared.list.TheConstants.{LIST_END, UNLISTED}
use Rattle.blocks.specs.Lists.{cell_start, first_after_put, link_of, ends, goes_on, ChangesFree, ChangesPage, IsFirstOrEnd, IsLinkedFrom, MayBeListed, Pops, HasPage, IsFreeCellOf, IsListed, IsTakenCellOf, Lists}
use Rattle.blocks.proofs.Begins.{later}
use Rattle.blocks.proofs.Places.{cells_fit, class_bounds, divided}

-- where a list begins
pub first_free : (link : ℕ → ℕ) (row : List Bool) (first : ℕ) → Lists link row first → first ≢ LIST_END → IsFreeCellOf row first
first_free link row first (ends _ _ end full) more = absurd (more end)
first_free link row first (goes_on _ _ inside free rest) more = record { inside = inside; free = free }

pub full_at_end : (link : ℕ → ℕ) (row : List Bool) (first : ℕ) → length row ≤ PAGE_GRANULES → Lists link row first → first ≡ LIST_END → IsFullRow row
full_at_end link row first few (ends _ _ end full) at = full
full_at_end link row first few (goes_on _ _ inside free rest) at = absurd (omega arith)

pub full_or_free : (link : ℕ → ℕ) (row : List Bool) (first : ℕ) → length row ≤ PAGE_GRANULES → Lists link row first → MatchBool (first == LIST_END) (IsFullRow row) (IsFreeCellOf row first)
full_or_free link row first few lists = by (first == LIST_END) refl
  where
    by : (b : Bool) → (first == LIST_END) ≡ b → MatchBool b (IsFullRow row) (IsFreeCellOf row first)
    by true e = full_at_end link row first few lists (eqb-true first LIST_END e)
    by false e = first_free link row first lists (λ at. false≢true (sym e ∙ eq-eqb first LIST_END at))

-- and how it goes on
pub next_listed : (link : ℕ → ℕ) (row : List Bool) (first : ℕ) → Lists link row first → first ≢ LIST_END → Lists link (set row first true) (link first)
next_listed link row first (ends _ _ end full) more = absurd (more end)
next_listed link row first (goes_on _ _ inside free rest) more = rest

pub first_small : (link : ℕ → ℕ) (row : List Bool) (first : ℕ) → length row ≤ PAGE_GRANULES → Lists link row first → first < 65536
first_small link row first few (ends _ _ end full) = omega arith
first_small link row first few (goes_on _ _ inside free rest) = omega arith

pub next_small : (link : ℕ → ℕ) (row : List Bool) (first : ℕ) → length row ≤ PAGE_GRANULES → Lists link row first → first ≢ LIST_END → link first < 65536
next_small link row first few lists more = let size = length-set row first true in first_small link (set row first true) (link first) (omega arith) (next_listed link row first lists more)

-- the links of free cells stay
pub lists_same : (link link' : ℕ → ℕ) (row : List Bool) (first : ℕ) → ((i : ℕ) → IsFreeCellOf row i → link' i ≡ link i) → Lists link row first → Lists link' row first
lists_same link link' row first same (ends _ _ end full) = ends row first end full
lists_same link link' row first same (goes_on _ _ inside free rest) =
    goes_on row first inside free (subst (Lists link' (set row first true)) (sym (same first (record { inside = inside; free = free })))
    (lists_same link link' (set row first true) (link first) (λ i is. same i (record { inside = let size = length-set row first true in let lt = is.inside in omega arith; free = still i is.free })) rest))
  where
    still : (i : ℕ) → get_or (set row first true) i false ≡ false → get_or row i false ≡ false
    still i is = ⊎_elim
        (λ (e : i ≡ first). absurd (false≢true (sym is ∙ ap (λ k. get_or (set row first true) k false) e ∙ get_or-set_same row first true false inside)))
        (λ ne. sym (get_or-set_other row first i true false ne) ∙ is)
        (cases_eq i first)

-- a cell that is allocated stays so
set_back : (row : List Bool) (cell : ℕ) → get_or row cell false ≡ true → cell < length row → set row cell true ≡ row
set_back row cell is inside = ext_get_or false (set row cell true) row (length-set row cell true) (λ i lt. ⊎_elim
    (λ (e : i ≡ cell). ap (λ k. get_or (set row cell true) k false) e ∙ get_or-set_same row cell true false inside ∙ sym (ap (λ k. get_or row k false) e ∙ is))
    (λ ne. get_or-set_other row cell i true false ne)
    (cases_eq i cell))

-- a cell comes first
pub put_first : (link link' : ℕ → ℕ) (row : List Bool) (first cell : ℕ) → cell < length row → get_or row cell false ≡ true → link' cell ≡ first → ((i : ℕ) → i ≢ cell → i < length row → link' i ≡ link i) → Lists link row first
    → Lists link' (set row cell false) cell
put_first link link' row first cell inside taken here same lists =
    goes_on (set row cell false) cell (let size = length-set row cell false in omega arith) (get_or-set_same row cell false false inside)
    (subst (λ r. Lists link' r (link' cell)) (sym (set-set row cell false true ∙ set_back row cell taken inside))
    (subst (Lists link' row) (sym here) (lists_same link link' row first (λ i is. same i (other i is.free) is.inside) lists)))
  where
    other : (i : ℕ) → get_or row i false ≡ false → i ≢ cell
    other i is e = false≢true (sym is ∙ ap (λ k. get_or row k false) e ∙ taken)

-- where the first word of a cell stands
pub cell_place : (page class cell : ℕ) → word_index (cell_start page class cell) ≡ PAGE_WORDS * page + cell * class
cell_place page class cell = let e : cell * (8 * class) ≡ 8 * (cell * class) = omega arith in omega arith

pub cell_fits : (class cell : ℕ) → IsSizeClass class → cell < PAGE_WORDS / class → cell * class + class ≤ PAGE_WORDS
cell_fits class cell is lt =
    let b = class_bounds class is in
    let d = (divided PAGE_WORDS class (omega arith)).0 in
    let m : (cell + 1) * class ≤ PAGE_WORDS / class * class = mul-le-mul_right class (omega arith) in
    let e : (cell + 1) * class ≡ cell * class + class = omega arith in
    omega (arith, d, m, e)

pub start_fits : (class cell page : ℕ) → IsSizeClass class → cell < PAGE_WORDS / class → page < MOST_PAGES → cell_start page class cell < 18446744073709551616
start_fits class cell page is lt few = let f = cell_fits class cell is lt in let e : cell * (8 * class) ≡ 8 * (cell * class) = omega arith in omega arith

pub cell_address : (words : List ℕ) (page class cell : ℕ) → IsSizeClass class → HasPage words page → cell < PAGE_WORDS / class → IsWordAddress words (cell_start page class cell)
cell_address words page class cell is has lt =
    let f = cell_fits class cell is lt in let b = class_bounds class is in
    let e : cell * (8 * class) ≡ 8 * (cell * class) = omega arith in
    record { aligned = omega arith; above = omega arith; below = omega arith }

in_memory : (words : List ℕ) (page class cell : ℕ) → IsSizeClass class → HasPage words page → cell < PAGE_WORDS / class → word_index (cell_start page class cell) < length words
in_memory words page class cell is has lt = let f = cell_fits class cell is lt in let b = class_bounds class is in let e = cell_place page class cell in omega arith

apart : (page class i j : ℕ) → 0 < class → i ≢ j → word_index (cell_start page class i) ≢ word_index (cell_start page class j)
apart page class i j some ne same =
    let a = cell_place page class i in let b = cell_place page class j in
    let e : i * class ≡ j * class = omega (arith, a, b, same) in
    ⊎_elim (λ lt. let m = later class i j some lt in omega (arith, m, e)) (λ ge. ne (⊎_elim (λ gt. absurd (let m = later class j i some gt in omega (arith, m, e))) (λ le. omega arith) (cases_lt j i))) (cases_lt i j)

-- a number is written into the first word of a cell
pub link_here : (words : List ℕ) (page class cell w : ℕ) → IsSizeClass class → HasPage words page → cell < PAGE_WORDS / class → link_of (with_word_at words (cell_start page class cell) w) page class cell ≡ w
link_here words page class cell w is has lt = get_or-set_same words (word_index (cell_start page class cell)) w 0 (in_memory words page class cell is has lt)

pub link_other : (words : List ℕ) (page class cell i w : ℕ) → IsSizeClass class → i ≢ cell → link_of (with_word_at words (cell_start page class cell) w) page class i ≡ link_of words page class i
link_other words page class cell i w is ne = get_or-set_other words (word_index (cell_start page class cell)) (word_index (cell_start page class i)) w 0 (apart page class i cell (let b = class_bounds class is in omega arith) ne)

-- a cell is given back
pub put_listed : (words words' : List ℕ) (page class : ℕ) (row row' : List Bool) (first cell address word : ℕ) → IsSizeClass class → HasPage words page → length row ≡ PAGE_WORDS / class → IsTakenCellOf row cell → Lists (link_of words page class) row first
    → address ≡ cell_start page class cell → word ≡ first → words' ≡ with_word_at words address word → row' ≡ set row cell false → Lists (link_of words' page class) row' cell
put_listed words words' page class row row' first cell address word is has size taken lists at says written cleared =
    rw (cleared, written, at, says)
    (put_first (link_of words page class) (link_of (with_word_at words (cell_start page class cell) first) page class) row first cell taken.inside taken.taken (link_here words page class cell first is has inside)
    (λ i ne lt. link_other words page class cell i first is ne) lists)
  where
    inside : cell < PAGE_WORDS / class
    inside = let lt = taken.inside in omega arith

pub link_changes : (words : List ℕ) (page class cell w : ℕ) → IsSizeClass class → cell < PAGE_WORDS / class → ChangesPage words (with_word_at words (cell_start page class cell) w) page
link_changes words page class cell w is lt = record {
  size = length-set words (word_index (cell_start page class cell)) w;
  others = λ k out. get_or-set_other words (word_index (cell_start page class cell)) k w 0 (λ e. outside k out (e ∙ cell_place page class cell));
}
  where
    outside : (k : ℕ) → k < PAGE_WORDS * page ⊎ PAGE_WORDS * page + PAGE_WORDS ≤ k → k ≡ PAGE_WORDS * page + cell * class → ⊥
    outside k out e =
        let f = cell_fits class cell is lt in let b = class_bounds class is in
        ⊎_elim (λ below. omega arith) (λ past. omega arith) out

-- The list stays where the links of its free cells do.
pub listed_kept : (words words' : List ℕ) (page : ℕ) (b : Cells) → ((i : ℕ) → IsFreeCellOf b.taken i → link_of words' page b.class i ≡ link_of words page b.class i) → IsListed words page b → IsListed words' page b
listed_kept words words' page b same lists = lists_same (link_of words page b.class) (link_of words' page b.class) b.taken b.first same lists

-- so it does while another page changes
pub listed_elsewhere : (words words' : List ℕ) (page other : ℕ) (b : Cells) → IsCells b → other ≢ page → ChangesPage words words' page → IsListed words other b → IsListed words' other b
listed_elsewhere words words' page other b cells ne changes lists = listed_kept words words' other b
    (λ i free. changes.others (word_index (cell_start other b.class i)) (out i (let lt = free.inside in let size = cells.size in omega arith))) lists
  where
    out : (i : ℕ) → i < PAGE_WORDS / b.class → word_index (cell_start other b.class i) < PAGE_WORDS * page ⊎ PAGE_WORDS * page + PAGE_WORDS ≤ word_index (cell_start other b.class i)
    out i lt =
        let f = cell_fits b.class i cells.class lt in let e = cell_place other b.class i in let some = (class_bounds b.class cells.class).0 in
        ⊎_elim (λ low. inl (omega arith)) (λ ge. inr (let gt : page < other = ⊎_elim (λ l. l) (λ le. absurd (ne (omega arith))) (cases_lt page other) in omega arith)) (cases_lt other page)

pub changes_none : (words : List ℕ) (page : ℕ) → ChangesPage words words page
changes_none words page = record { size = refl; others = λ k out. refl }

-- ---- free cells are linked, from the highest to the lowest
-- a row read with places past its end as members
read_else : (row : List Bool) (i : ℕ) → length row ≤ i → get_or row i true ≡ true
read_else row i past = get_or_past row i true past

read_inside : (row : List Bool) (i : ℕ) (b : Bool) → get_or row i true ≡ false → (i < length row) × (get_or row i b ≡ false)
read_inside row i b is = ⊎_elim
    (λ lt. (lt, get_or_default row i b true lt ∙ is))
    (λ past. absurd (false≢true (sym is ∙ read_else row i past)))
    (cases_lt i (length row))

pub free_here : (row : List Bool) (i : ℕ) → get_or row i true ≡ false → IsFreeCellOf row i
free_here row i is = let r = read_inside row i false is in record { inside = r.0; free = r.1 }

pub linked_none : (link : ℕ → ℕ) (row : List Bool) (low : ℕ) → length row ≤ low → IsLinkedFrom link row low LIST_END
linked_none link row low past = record {
  rest = replicate (length row) true;
  size = length-replicate (length row) true;
  below = λ i lt. ⊎_elim
      (λ in_row. get_or-replicate (length row) i true true in_row)
      (λ ge. read_else (replicate (length row) true) i (let size = length-replicate (length row) true in omega arith))
      (cases_lt i (length row));
  from = λ i ge. read_else (replicate (length row) true) i (let size = length-replicate (length row) true in omega arith) ∙ sym (read_else row i (omega arith));
  lists = ends (replicate (length row) true) LIST_END refl (λ i lt. get_or-replicate (length row) i true false (let size = length-replicate (length row) true in omega arith));
  lowest = inl (refl, λ i ge lt. absurd (omega arith));
}

-- down over cells that are allocated
pub linked_to : (link : ℕ → ℕ) (row : List Bool) (low to first : ℕ) → to ≤ low → ((i : ℕ) → to ≤ i → i < low → get_or row i true ≡ true) → IsLinkedFrom link row low first → IsLinkedFrom link row to first
linked_to link row low to first le taken h = record {
  rest = h.rest;
  size = h.size;
  below = λ i lt. h.below i (omega arith);
  from = λ i ge. ⊎_elim (λ lt. h.below i lt ∙ sym (taken i ge lt)) (λ past. h.from i past) (cases_lt i low);
  lists = h.lists;
  lowest = ⊎_elim
      (λ (e : (first ≡ LIST_END) × IsFullFrom row low). inl (e.0, λ i ge lt. ⊎_elim (λ before. get_or_default row i false true lt ∙ taken i ge before) (λ past. e.1 i past lt) (cases_lt i low)))
      (λ (f : IsFirstClearFrom row low first). inr (record {
        clear = f.clear;
        inside = f.inside;
        from = let ge = f.from in omega arith;
        least = λ i ge lt. ⊎_elim (λ before. get_or_default row i false true (let l = f.inside in omega arith) ∙ taken i ge before) (λ past. f.least i past lt) (cases_lt i low);
      }))
      h.lowest;
}

-- a free cell comes first
pub linked_more : (link link' : ℕ → ℕ) (row : List Bool) (cell first : ℕ) → get_or row cell true ≡ false → link' cell ≡ first → ((i : ℕ) → i ≢ cell → link' i ≡ link i) → IsLinkedFrom link row (cell + 1) first → IsLinkedFrom link' row cell cell
linked_more link link' row cell first free here same h = record {
  rest = set h.rest cell false;
  size = length-set h.rest cell false ∙ h.size;
  below = λ i lt. get_or-set_other h.rest cell i false true (λ e. omega arith) ∙ h.below i (omega arith);
  from = λ i ge. ⊎_elim
      (λ (e : i ≡ cell). ap (λ k. get_or (set h.rest cell false) k true) e ∙ get_or-set_same h.rest cell false true inside ∙ sym (ap (λ k. get_or row k true) e ∙ free))
      (λ ne. get_or-set_other h.rest cell i false true ne ∙ h.from i (omega arith))
      (cases_eq i cell);
  lists = put_first link link' h.rest first cell inside (get_or_default h.rest cell false true inside ∙ h.below cell (omega arith)) here (λ i ne lt. same i ne) h.lists;
  lowest = inr (record { clear = is.1; inside = is.0; from = omega arith; least = λ i ge lt. absurd (omega arith) });
}
  where
    is : (cell < length row) × (get_or row cell false ≡ false)
    is = read_inside row cell false free

    inside : cell < length h.rest
    inside = let size = h.size in let lt = is.0 in omega arith

-- all cells are linked
pub linked_all : (link : ℕ → ℕ) (row : List Bool) (first : ℕ) → IsLinkedFrom link row 0 first → Lists link row first
linked_all link row first h = subst (λ r. Lists link r first) (ext_get_or true h.rest row h.size (λ i lt. h.from i (omega arith))) h.lists

-- ---- words that change while cells are linked
pub free_none : (words : List ℕ) (page class : ℕ) (row : List Bool) → ChangesFree words words page class row
free_none words page class row = record { size = refl; others = λ k out. refl }

pub free_more : (old mid new : List ℕ) (page class : ℕ) (row : List Bool) → ChangesFree old mid page class row → ChangesFree mid new page class row → ChangesFree old new page class row
free_more old mid new page class row a b = record { size = b.size ∙ a.size; others = λ k out. b.others k out ∙ a.others k out }

free_one : (words : List ℕ) (page class cell w : ℕ) (row : List Bool) → IsFreeCellOf row cell → ChangesFree words (with_word_at words (cell_start page class cell) w) page class row
free_one words page class cell w row free = record {
  size = length-set words (word_index (cell_start page class cell)) w;
  others = λ k out. get_or-set_other words (word_index (cell_start page class cell)) k w 0 (out cell free);
}

-- a free cell is linked before those above it
pub cell_more : (words words' : List ℕ) (page class : ℕ) (row : List Bool) (cell next address w : ℕ) → IsSizeClass class → HasPage words page → length row ≡ PAGE_WORDS / class → get_or row cell true ≡ false
    → IsLinkedFrom (link_of words page class) row (cell + 1) next → address ≡ cell_start page class cell → w ≡ next → words' ≡ with_word_at words address w → IsLinkedFrom (link_of words' page class) row cell cell × ChangesFree words words' page class row
cell_more words words' page class row cell next address w is has size free h at says written =
    rw (written, at, says) (
      linked_more (link_of words page class) (link_of (with_word_at words (cell_start page class cell) next) page class) row cell next free
          (link_here words page class cell next is has (let lt = (free_here row cell free).inside in omega arith))
          (λ i ne. link_other words page class cell i next is ne)
          h,
      free_one words page class cell next row (free_here row cell free),
    )

-- they are the page's
pub free_page : (words words' : List ℕ) (page class : ℕ) (row : List Bool) → IsSizeClass class → length row ≡ PAGE_WORDS / class → ChangesFree words words' page class row → ChangesPage words words' page
free_page words words' page class row is size h = record {
  size = h.size;
  others = λ k out. h.others k (λ i free e. outside k i (let lt = free.inside in omega arith) out (e ∙ cell_place page class i));
}
  where
    outside : (k i : ℕ) → i < PAGE_WORDS / class → k < PAGE_WORDS * page ⊎ PAGE_WORDS * page + PAGE_WORDS ≤ k → k ≡ PAGE_WORDS * page + i * class → ⊥
    outside k i lt out e =
        let f = cell_fits class i is lt in let b = class_bounds class is in
        ⊎_elim (λ below. omega arith) (λ past. omega arith) out

pub some_cells : (class : ℕ) → IsSizeClass class → 0 < PAGE_WORDS / class
some_cells class is =
    let b = class_bounds class is in
    let d = (divided PAGE_WORDS class (omega arith)).1 in
    ⊎_elim (λ lt. lt) (λ le. let m : PAGE_WORDS / class * class ≤ 0 * class = mul-le-mul_right class le in absurd (omega (arith, m, d, b.1))) (cases_lt 0 (PAGE_WORDS / class))

-- a page with all cells free is linked from its first one on
pub first_of_free : (class first : ℕ) (row : List Bool) → IsSizeClass class → row ≡ replicate (PAGE_WORDS / class) false → IsFirstOrEnd row 0 first → first ≡ 0
first_of_free class first row is free h = ⊎_elim
    (λ (e : (first ≡ LIST_END) × IsFullFrom row 0). absurd (false≢true (sym zero_free ∙ e.1 0 (omega arith) some)))
    (λ (f : IsFirstClearFrom row 0 first). ⊎_elim (λ lt. absurd (false≢true (sym zero_free ∙ f.least 0 (omega arith) lt))) (λ le. omega arith) (cases_lt 0 first))
    h
  where
    some : 0 < length row
    some = let n = some_cells class is in let size = ap length free ∙ length-replicate (PAGE_WORDS / class) false in omega (arith, n, size)

    zero_free : get_or row 0 false ≡ false
    zero_free = ap (λ r. get_or r 0 false) free ∙ get_or-replicate (PAGE_WORDS / class) 0 false false (some_cells class is)

-- ---- cells that are taken one after the other
pub pops_more : (link : ℕ → ℕ) (row mid : List Bool) (first at : ℕ) (cells : List ℕ) → Pops link row first cells mid at → IsFreeCellOf mid at → Pops link row first (cells ++ at ∷ []) (set mid at true) (link at)
pops_more link row mid first at cells pops free = by pops free
  where
    by : {row mid : List Bool} {first at : ℕ} {cells : List ℕ} → Pops link row first cells mid at → IsFreeCellOf mid at → Pops link row first (cells ++ at ∷ []) (set mid at true) (link at)
    by Pops.done free = Pops.next free Pops.done
    by (Pops.next here more) free = Pops.next here (by more free)

pub pops_written : (link : ℕ → ℕ) (row mid : List Bool) (first at index cell : ℕ) (cells : List ℕ) → index < length cells → Pops link row first (take index cells) mid at → cell ≡ at → IsFreeCellOf mid cell
    → Pops link row first (take (index + 1) (set cells index cell)) (set mid cell true) (link cell)
pops_written link row mid first at index cell cells lt pops is free =
    subst (λ xs. Pops link row first xs (set mid cell true) (link cell)) (sym (take-suc-set cells index cell lt) ∙ ap (λ m. take m (set cells index cell)) (let same : suc index ≡ index + 1 = omega arith in same))
    (subst (λ a. Pops link row first (take index cells ++ a ∷ []) (set mid a true) (link a)) (sym is) (pops_more link row mid first at (take index cells) pops (subst (IsFreeCellOf mid) is free)))

pub pops_size : {link : ℕ → ℕ} {row new : List Bool} {first last : ℕ} {cells : List ℕ} → Pops link row first cells new last → length new ≡ length row
pops_size Pops.done = refl
pops_size (Pops.next {row = row} {first = first} free more) = pops_size more ∙ length-set row first true

-- ---- blocks that may have no list
pub first_put : (first cell : ℕ) → first ≢ UNLISTED → cell ≡ first_after_put first cell
first_put first cell ne = by (first == UNLISTED) refl
  where
    by : (b : Bool) → (first == UNLISTED) ≡ b → cell ≡ first_after_put first cell
    by true e = absurd (ne (eqb-true first UNLISTED e))
    by false e = sym (ap (λ b. if b then UNLISTED else cell) e)

pub first_kept : (first cell : ℕ) → first ≡ UNLISTED → first ≡ first_after_put first cell
first_kept first cell is = is ∙ sym (ap (λ b. if b then UNLISTED else cell) (eq-eqb first UNLISTED is))

pub listed_if : {L : Type 0} (first : ℕ) → first ≢ UNLISTED → (first ≡ UNLISTED) ⊎ L → L
listed_if first ne h = ⊎_elim (λ (e : first ≡ UNLISTED). absurd (ne e)) (λ l. l) h

pub maybe_kept : (words words' : List ℕ) (page : ℕ) (b : Cells) → ((i : ℕ) → IsFreeCellOf b.taken i → link_of words' page b.class i ≡ link_of words page b.class i) → MayBeListed words page b → MayBeListed words' page b
maybe_kept words words' page b same h = ⊎_elim (λ (e : b.first ≡ UNLISTED). inl e) (λ l. inr (listed_kept words words' page b same l)) h

pub maybe_elsewhere : (words words' : List ℕ) (page other : ℕ) (b : Cells) → IsCells b → other ≢ page → ChangesPage words words' page → MayBeListed words other b → MayBeListed words' other b
maybe_elsewhere words words' page other b cells ne changes h = ⊎_elim (λ (e : b.first ≡ UNLISTED). inl e) (λ l. inr (listed_elsewhere words words' page other b cells ne changes l)) h

-- where a list stands, its block has one
pub listed_apart : (link : ℕ → ℕ) (row : List Bool) (first : ℕ) → length row ≤ PAGE_GRANULES → Lists link row first → first ≢ UNLISTED
listed_apart link row first few (ends _ _ end full) e = omega arith
listed_apart link row first few (goes_on _ _ inside free rest) e = omega arith

pub listed_not_none : (words : List ℕ) (page : ℕ) (b : Cells) → IsCells b → IsListed words page b → b.first ≢ UNLISTED
listed_not_none words page b cells lists = listed_apart _ b.taken b.first (let size = cells.size in let fits = cells_fit b.class cells.class in omega arith) lists

pub when_true : {A : Type 0} (B : Type 0) (b : Bool) → MatchBool b A B → b ≡ true → A
when_true B true h is = h
when_true B false h is = absurd (false≢true is)

pub ruleset cells = (class_bounds, cell_fits, start_fits, cell_address)
