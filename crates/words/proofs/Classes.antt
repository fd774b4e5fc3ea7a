-- The size classes, and the table that finds them.
use Rattle.std.proofs.Common.{◌≡◌, ℕ, ◌%◌, ◌<◌, ◌≤◌, Bool, true, get_or, refl, sym, ap, ◌∙◌, subst, arith}
use Rattle.std.specs.Prelude.{Some, find, slice_get, nat_le, nat_lt, ◌==◌}
use Rattle.std.specs.List.{list_all, list_any, position_or_len}
use Rattle.std.specs.Int.{div_ceil}
use Rattle.std.proofs.lemmas.Bool.{agree_below_at, eqb-true, ltb-true, leb-true}
use Rattle.std.proofs.lemmas.Option.{slice_get-get_or}
use Rattle.std.proofs.lemmas.List.Folds.{find_at, Any-from_list_any}
use Rattle.std.proofs.lemmas.List.Sums.{AllPass-from_list_all}
use Rattle.words.specs.declared.class.TheConstants.{CLASSES, INDEX_OF_GRANULES}
use Rattle.words.specs.declared.limits.TheConstants.{MAX_SMALL_WORDS}
use Rattle.words.specs.Classes.{IsSizeClass, number_of}

-- a test that each class passes
pub class_passes : (p : ℕ → Bool) (n : ℕ) → list_all p CLASSES ≡ true → IsSizeClass n → p n ≡ true
class_passes p n all is =
    let a = Any-from_list_any (λ c. c == n) CLASSES is in
    subst (λ x. p x ≡ true) (eqb-true a.1 n a.4) (subst (λ x. p x ≡ true) a.3 (AllPass-from_list_all p CLASSES all a.0 a.1 a.2))

-- a size class has words, an even number of them, and at most those of the largest class
pub class_some : (n : ℕ) → IsSizeClass n → 2 ≤ n
class_some n is = leb-true 2 n (class_passes (λ c. nat_le 2 c) n refl is)

pub class_few : (n : ℕ) → IsSizeClass n → n ≤ MAX_SMALL_WORDS
class_few n is = leb-true n MAX_SMALL_WORDS (class_passes (λ c. nat_le c MAX_SMALL_WORDS) n refl is)

pub class_even : (n : ℕ) → IsSizeClass n → n % 2 ≡ 0
class_even n is = eqb-true (n % 2) 0 (class_passes (λ c. (c % 2) == 0) n refl is)

-- each class is one
pub class_at : (i : ℕ) → i < 13 → IsSizeClass (get_or CLASSES i 0)
class_at i lt = AllPass-from_list_all (λ x. list_any (λ c. c == x) CLASSES) CLASSES refl i 0 lt

-- the number of each class is its place
pub class_number : (i : ℕ) → i < 13 → i ≡ number_of (get_or CLASSES i 0)
class_number i lt = sym (eqb-true _ _ (agree_below_at (λ k. number_of (get_or CLASSES k 0) == k) (λ k. true) 13 i refl lt))

pub number_inside : (n : ℕ) → IsSizeClass n → number_of n < 13
number_inside n is = ltb-true _ _ (class_passes (λ c. nat_lt (number_of c) 13) n refl is)

pub class_numbered : (n : ℕ) → IsSizeClass n → get_or CLASSES (number_of n) 0 ≡ n
class_numbered n is = eqb-true _ _ (class_passes (λ c. get_or CLASSES (number_of c) 0 == c) n refl is)

pub class_has_number : (n i : ℕ) → IsSizeClass n → i ≡ number_of n → slice_get CLASSES i ≡ Some n
class_has_number n i is e = rw e (slice_get-get_or CLASSES (number_of n) 0 (number_inside n is) ∙ ap Some (class_numbered n is))

-- the place that the table has for a request, checked for each
table_inside : (n : ℕ) → n ≤ MAX_SMALL_WORDS → get_or INDEX_OF_GRANULES (div_ceil n 2) 0 < 13
table_inside n few = ltb-true _ _ (agree_below_at (λ k. nat_lt (get_or INDEX_OF_GRANULES (div_ceil k 2) 0) 13) (λ k. true) 257 n refl (omega arith))

table_least : (n : ℕ) → n ≤ MAX_SMALL_WORDS → position_or_len (λ c. nat_le n c) CLASSES ≡ get_or INDEX_OF_GRANULES (div_ceil n 2) 0
table_least n few =
    eqb-true _ _ (agree_below_at (λ k. position_or_len (λ c. nat_le k c) CLASSES == get_or INDEX_OF_GRANULES (div_ceil k 2) 0) (λ k. true) 257 n refl (omega arith))

pub place_inside : (n g i : ℕ) → n ≤ MAX_SMALL_WORDS → g ≡ div_ceil n 2 → i ≡ get_or INDEX_OF_GRANULES g 0 → i < 13
place_inside n g i few eg ei = rw (ei, eg) (table_inside n few)

pub place_least : (n g i : ℕ) → n ≤ MAX_SMALL_WORDS → g ≡ div_ceil n 2 → i ≡ get_or INDEX_OF_GRANULES g 0 → find (λ c. nat_le n c) CLASSES ≡ Some (get_or CLASSES i 0)
place_least n g i few eg ei =
    let at : position_or_len (λ c. nat_le n c) CLASSES ≡ i = table_least n few ∙ (rw (ei, eg) refl) in
    find_at (λ c. nat_le n c) CLASSES ∙ (rw at (slice_get-get_or CLASSES i 0 (place_inside n g i few eg ei)))
