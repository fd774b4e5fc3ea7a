-- Rows of pages with a free cell, by the numbers of their rows.
use Rattle.std.proofs.Common.{◌≡◌, ℕ, ◌+◌, ◌*◌, ◌<◌, ◌≤◌, Bool, true, false, List, [], length, get_or, set, ◌∷◌, ◌++◌, length-append, refl, sym, ap, ◌∙◌, subst, arith, ⊎_elim, length-set, get_or-set_same, get_or-set_other}
use Rattle.std.specs.Prelude.{◌≢◌, ◌==◌, Some, slice_get, nat_lt}
use Rattle.std.specs.List.{position_or_len}
use Rattle.std.proofs.lemmas.Bool.{agree_below_at, cases_eq, cases_lt, eqb-true, ltb-true}
use Rattle.std.proofs.lemmas.List.{get_or_past, get_or_append_left, get_or_push}
use Rattle.std.proofs.lemmas.Option.{slice_get_within, get_or_from_slice_get}
use Rattle.words.specs.declared.class.Kind.{Kind}
use Rattle.words.specs.declared.class.Kind.TheVariants.{Normal, PointerFree}
use Rattle.words.specs.declared.class.TheConstants.{CLASSES}
use Rattle.words.specs.Bits.{IsClear}
use Rattle.words.specs.Classes.{IsSizeClass}
use Rattle.words.proofs.Classes.{class_passes, class_at}
use Rattle.lazy_sweep.specs.declared.available_pages.TheConstants.{ROWS}
use Rattle.lazy_sweep.specs.AvailableRows.{kind_number, row_number, row_of, AreClear, IsBitSet}

-- the place of a class among the classes, and back
index_at : (i : ℕ) → i < 13 → position_or_len (λ c. c == get_or CLASSES i 0) CLASSES ≡ i
index_at i lt = eqb-true _ _ (agree_below_at (λ k. position_or_len (λ c. c == get_or CLASSES k 0) CLASSES == k) (λ k. true) 13 i refl lt)

pub index_is : (i class : ℕ) → slice_get CLASSES i ≡ Some class → position_or_len (λ c. c == class) CLASSES ≡ i
index_is i class is = subst (λ x. position_or_len (λ c. c == x) CLASSES ≡ i) (get_or_from_slice_get CLASSES i class 0 is) (index_at i (slice_get_within CLASSES i class is))

class_of_index : (class : ℕ) → IsSizeClass class → get_or CLASSES (position_or_len (λ c. c == class) CLASSES) 0 ≡ class
class_of_index class is = eqb-true _ _ (class_passes (λ n. get_or CLASSES (position_or_len (λ c. c == n) CLASSES) 0 == n) class refl is)

-- the row of a class and a kind is one of the rows, and no other's
pub number_normal : (i class : ℕ) → slice_get CLASSES i ≡ Some class → 2 * i ≡ row_number class Normal
unfolding row_number
number_normal i class is = let e = index_is i class is in omega arith

pub number_pointer_free : (i class : ℕ) → slice_get CLASSES i ≡ Some class → 2 * i + 1 ≡ row_number class PointerFree
unfolding row_number
number_pointer_free i class is = let e = index_is i class is in omega arith

pub index_inside : (i class : ℕ) → slice_get CLASSES i ≡ Some class → i < 13
index_inside i class is = slice_get_within CLASSES i class is

pub index_listed : (i class : ℕ) → slice_get CLASSES i ≡ Some class → IsSizeClass class
index_listed i class is = subst IsSizeClass (get_or_from_slice_get CLASSES i class 0 is) (class_at i (index_inside i class is))

kind_few : (k : Kind) → kind_number k ≤ 1
kind_few Normal = omega arith
kind_few PointerFree = omega arith

kind_one : (k l : Kind) → kind_number k ≡ kind_number l → k ≡ l
kind_one Normal Normal e = refl
kind_one Normal PointerFree e = absurd (omega arith)
kind_one PointerFree Normal e = absurd (omega arith)
kind_one PointerFree PointerFree e = refl

pub number_one : (c d : ℕ) (k l : Kind) → IsSizeClass c → IsSizeClass d → row_number c k ≡ row_number d l → (c ≡ d) × (k ≡ l)
unfolding row_number
number_one c d k l is is' e =
    let x = kind_few k in let y = kind_few l in
    let place : position_or_len (λ n. n == c) CLASSES ≡ position_or_len (λ n. n == d) CLASSES = omega arith in
    (sym (class_of_index c is) ∙ ap (λ i. get_or CLASSES i 0) place ∙ class_of_index d is', kind_one k l (omega arith))

pub number_few : (class : ℕ) (kind : Kind) → IsSizeClass class → row_number class kind < ROWS
unfolding row_number
number_few class kind is =
    let x = kind_few kind in
    let i : position_or_len (λ c. c == class) CLASSES < 13 = ltb-true _ _ (class_passes (λ n. nat_lt (position_or_len (λ c. c == n) CLASSES) 13) class refl is) in
    omega arith

-- a bit of one row changes
pub bit_set : (rows rows' : List (List Bool)) (class : ℕ) (kind : Kind) (n page : ℕ) (b : Bool) → IsSizeClass class → n ≡ row_number class kind → page < length (row_of rows class kind)
    → rows' ≡ set rows n (set (get_or rows n []) page b) → IsBitSet rows rows' class kind page b
bit_set rows rows' class kind n page b is at in_row became = record {
  long = λ c k is'. ⊎_elim
      (λ e. ap length (same c k (e ∙ sym at)) ∙ length-set (get_or rows n []) page b ∙ ap (λ m. length (get_or rows m [])) (at ∙ sym e))
      (λ ne. ap length (other c k (λ e. ne (e ∙ at))))
      (cases_eq (row_number c k) (row_number class kind));
  here = ap (λ r. get_or r page false) (same class kind (sym at)) ∙ get_or-set_same (get_or rows n []) page b false in_row';
  others = λ c k p is' ne. ⊎_elim
      (λ e.
      let one = number_one c class k kind is' is e in
      ap (λ r. get_or r p false) (same c k (e ∙ sym at)) ∙ get_or-set_other (get_or rows n []) page p b false (λ q. ne one.0 one.1 q) ∙ ap (λ m. get_or (get_or rows m []) p false) (at ∙ sym e))
      (λ apart. ap (λ r. get_or r p false) (other c k (λ e. apart (e ∙ at))))
      (cases_eq (row_number c k) (row_number class kind));
}
  where
    in_row' : page < length (get_or rows n [])
    in_row' = subst (λ m. page < length (get_or rows m [])) (sym at) in_row

    inside : n < length rows
    inside = ⊎_elim (λ lt. lt) (λ past. absurd (let none : length (get_or rows n []) ≡ 0 = ap length (get_or_past rows n [] past) in let lt = in_row' in omega arith)) (cases_lt n (length rows))

    same : (c : ℕ) (k : Kind) → row_number c k ≡ n → row_of rows' c k ≡ set (get_or rows n []) page b
    same c k e = ap (λ m. get_or rows' m []) e ∙ ap (λ x. get_or x n []) became ∙ get_or-set_same rows n _ [] inside

    other : (c : ℕ) (k : Kind) → row_number c k ≢ n → row_of rows' c k ≡ row_of rows c k
    other c k ne = ap (λ x. get_or x (row_number c k) []) became ∙ get_or-set_other rows n (row_number c k) _ [] ne

-- so many rows over so many pages, none of their bits set
pub record AllClear (rows : List (List Bool)) (count pages : ℕ) : Type 0 where
  pub size : length rows ≡ count
  pub each : (n : ℕ) → n < count → IsClear (get_or rows n []) pages

pub no_rows : (pages : ℕ) → AllClear [] 0 pages
no_rows pages = record { size = refl; each = λ n lt. absurd (omega arith) }

pub one_more_row : (rows : List (List Bool)) (row : List Bool) (count pages : ℕ) → AllClear rows count pages → IsClear row pages → AllClear (rows ++ row ∷ []) (count + 1) pages
one_more_row rows row count pages all clear = record {
  size = length-append rows (row ∷ []) ∙ ap (λ m. m + 1) all.size;
  each = λ n lt. ⊎_elim
      (λ low. subst (λ r. IsClear r pages) (sym (get_or_append_left rows (row ∷ []) [] n (let z = all.size in omega arith))) (all.each n low))
      (λ high. subst (λ r. IsClear r pages) (sym (last n (let z = all.size in omega arith))) clear)
      (cases_lt n count);
}
  where
    last : (n : ℕ) → n ≡ length rows → get_or (rows ++ row ∷ []) n [] ≡ row
    last n e = ap (λ m. get_or (rows ++ row ∷ []) m []) e ∙ get_or_push rows row [] (length rows) refl

pub all_clear : (rows : List (List Bool)) (pages : ℕ) → AllClear rows ROWS pages → AreClear rows pages
all_clear rows pages all = record { each = λ class kind is. all.each (row_number class kind) (number_few class kind is) }

pub ruleset rows = (number_normal, number_pointer_free, index_inside, index_listed, no_rows, one_more_row, all_clear)
