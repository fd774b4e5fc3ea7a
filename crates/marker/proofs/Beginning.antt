-- Objects that were begun: their entries, and their words, of which the first was read before the others.
use Rattle.std.proofs.Common.{◌≡◌, ℕ, zero, suc, ◌+◌, ◌-◌, ◌*◌, ◌<◌, ◌≤◌, List, [], ◌∷◌, ◌++◌, length, map, reverse, get_or, set, refl, sym, ap, ◌∙◌, ⊎_elim, Option, arith, length-set, get_or-set_same, get_or-set_other}
use Rattle.std.specs.Prelude.{Contains}
use Rattle.std.proofs.lemmas.Bool.{cases_eq}
use Rattle.std.proofs.lemmas.List.{ext_get_or, map-append, reverse-append}
use Rattle.std.proofs.lemmas.List.Sums.{sum_by-append}
use Rattle.std.proofs.lemmas.List.FromFn.{length-map-range_with_len, get_or-map-range_with_len}
use Rattle.words.specs.declared.limits.TheConstants.{PAGE_WORDS}
use Rattle.pages.specs.Memory.{IsWordAddress, word_index, word_at}
use Rattle.pages.specs.Reads.{IsWoven}
use Rattle.block_map.specs.declared.found.Found.{Found}
use Rattle.block_map.specs.Objects.{IsPlaced}
use Rattle.marker.specs.declared.together.Begun.{Begun}
use Rattle.marker.specs.Marking.{Marking, word_address}
use Rattle.marker.specs.Growth.{words_from}
use Rattle.marker.specs.Begun.{IsSeen, AreBegun, entry_begun, entries_begun, words_begun}

-- one word of a row is taken from another row that was read
woven_set : (moments : List (List ℕ)) (s t : List ℕ) (i : ℕ) → IsWoven moments s → IsWoven moments t → i < length s → IsWoven moments (set s i (get_or t i 0))
woven_set moments s t i a b inside = record {
  size = λ m h. length-set s i (get_or t i 0) ∙ a.size m h;
  each = λ k. ⊎_elim
      (λ (e : k ≡ i). let x = b.each i in (x.0, x.1, ap (λ j. get_or (set s i (get_or t i 0)) j 0) e ∙ get_or-set_same s i (get_or t i 0) 0 inside ∙ x.2 ∙ ap (λ j. get_or x.0 j 0) (sym e)))
      (λ (n : k ≡ i → ⊥). let x = a.each k in (x.0, x.1, get_or-set_other s i k (get_or t i 0) 0 n ∙ x.2))
      (cases_eq k i);
}

module _ (pages : ℕ) (moments : List (List ℕ)) (f : Found) (p : IsPlaced pages f) where
  apart : (i j : ℕ) → i < j → (word_index (word_address f j) ≡ word_index (word_address f i)) → ⊥
  apart i j lt e = let a = p.above in let b = p.aligned in omega arith

  -- the words of the object in a row, by what is known of each of them
  row_is : (m s : List ℕ) (v n : ℕ) → word_at m (word_address f 0) ≡ v → ((i : ℕ) → 1 ≤ i → i < n → word_at m (word_address f i) ≡ word_at s (word_address f i)) → 1 ≤ n
      → v ∷ words_from s f 1 (n - 1) ≡ words_from m f 0 n
  row_is m s v n first others some =
      let l = length-map-range_with_len (λ k. word_at s (word_address f k)) 1 (n - 1) in
      let k = length-map-range_with_len (λ k. word_at m (word_address f k)) 0 n in
      let size : length (v ∷ words_from s f 1 (n - 1)) ≡ length (words_from m f 0 n) = omega (arith, l, k, some) in
      ext_get_or 0 (v ∷ words_from s f 1 (n - 1)) (words_from m f 0 n) size
      (λ i lt. let below : i < n = omega (arith, lt, l, some) in each i below ∙ sym (get_or-map-range_with_len (λ k. word_at m (word_address f k)) 0 n i i 0 below (omega arith)))
    where
      each : (i : ℕ) → i < n → get_or (v ∷ words_from s f 1 (n - 1)) i 0 ≡ word_at m (word_address f i)
      each zero lt = sym first
      each (suc j) lt =
          let below : j < n - 1 = omega arith in
          get_or-map-range_with_len (λ k. word_at s (word_address f k)) 1 (n - 1) j (suc j) 0 below (omega arith) ∙ sym (others (suc j) (omega arith) lt)

  -- All words of the object as if they had been read at once.
  pub begun_words : (v : ℕ) (s : List ℕ) → IsSeen moments f.base v → IsWoven moments s → length s ≡ PAGE_WORDS * pages
      → (m : List ℕ) × IsWoven moments m × (v ∷ words_from s f 1 (f.len - 1) ≡ words_from m f 0 f.len)
  begun_words v s (a, wa, ea) ws size =
      let i : ℕ = word_index (word_address f 0) in
      let above = p.above in let low = p.below in let al = p.aligned in let some = p.some in
      let ii : i < length s = omega arith in
      let ai : word_index f.base ≡ i = omega arith in
      let m : List ℕ = set s i (get_or a i 0) in
      let first : word_at m (word_address f 0) ≡ v = get_or-set_same s i (get_or a i 0) 0 ii ∙ sym (ap (λ k. get_or a k 0) ai) ∙ sym ea in (
        m,
        woven_set moments s a i ws wa ii,
        row_is m s v f.len first (λ k le lt. get_or-set_other s i (word_index (word_address f k)) (get_or a i 0) 0 (apart 0 k (omega arith))) (omega arith),
      )

-- begun objects have their bases in the heap's memory
pub begun_bases : (pages : ℕ) (found : ℕ → Option Found) (m : Marking) (words : List ℕ) → length words ≡ PAGE_WORDS * pages → (bs : List Begun) → AreBegun pages found m bs → (b : Begun) → Contains bs b → IsWordAddress words b.base
begun_bases pages found m words size bs all b h =
    let i = all b h in let p = i.placed in
    let above = p.above in let below = p.below in let aligned = p.aligned in let some = p.some in let base = i.unread.base in
    record { aligned = omega arith; above = omega arith; below = omega arith }

-- one more is begun, whose entry stood below those of the others
pub entries_push : (bs : List Begun) (b : Begun) → entries_begun (bs ++ b ∷ []) ≡ entry_begun b ∷ entries_begun bs
entries_push bs b = ap reverse (map-append entry_begun bs (b ∷ [])) ∙ reverse-append (map entry_begun bs) (entry_begun b ∷ [])

pub words_push : (bs : List Begun) (b : Begun) → words_begun (bs ++ b ∷ []) ≡ words_begun bs + b.len
words_push bs b = sum_by-append (λ (x : Begun). x.len) bs (b ∷ []) ∙ (let n : words_begun bs + (0 + b.len) ≡ words_begun bs + b.len = omega arith in n)

-- the first of them stood on top
pub entries_none : entries_begun [] ≡ []
entries_none = refl

pub entries_first : (bs : List Begun) (b : Begun) → entries_begun (b ∷ bs) ≡ entries_begun bs ++ entry_begun b ∷ []
entries_first bs b = reverse-append (entry_begun b ∷ []) (map entry_begun bs)

pub words_first : (bs : List Begun) (b : Begun) → words_begun (b ∷ bs) ≡ b.len + words_begun bs
words_first bs b = sum_by-append (λ (x : Begun). x.len) (b ∷ []) bs ∙ (let n : 0 + b.len + words_begun bs ≡ b.len + words_begun bs = omega arith in n)
