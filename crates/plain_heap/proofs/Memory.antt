-- The words of an object in the row of words, and what a write does to them.
use Rattle.std.proofs.Common.{◌≡◌, ℕ, ◌+◌, ◌-◌, ◌*◌, ◌/◌, ◌%◌, ◌<◌, ◌≤◌, ◌⊎◌, List, length, get_or, take, drop, set, sym, ap, ◌∙◌, arith, inl, inr, ⊎_elim}
use Rattle.std.proofs.Math.Seq.{take-set-lt}
use Rattle.std.proofs.lemmas.List.{length-take, length-drop, get_or-take, get_or-drop, drop-set-add, drop-set-lt, take-set-le}
use Rattle.std.proofs.lemmas.Bool.{cases_lt}
use Rattle.words.specs.declared.limits.TheConstants.{WORD_BYTES, PAGE_WORDS}
use Rattle.heap_spec.specs.Layout.{PointsInto}
use Rattle.links.specs.Leaving.{word_index}
use Rattle.plain_heap.specs.declared.extent.Extent.{Extent}
use Rattle.plain_heap.specs.PlainContents.{IsInHeap}
use Rattle.plain_heap.specs.Standing.{words_at}

-- an extent's words are as many as its length
pub length_words : (origin : ℕ) (row : List ℕ) (pages : ℕ) (e : Extent) → length row ≡ PAGE_WORDS * pages → IsInHeap origin pages e → length (words_at origin row e) ≡ e.length
length_words origin row pages e l h = simp (length-take, length-drop) (omega arith)

-- where an address inside an extent stands
pub place_in : (origin pages a : ℕ) (e : Extent) → origin % WORD_BYTES ≡ 0 → IsInHeap origin pages e → PointsInto a e.base e.length → word_index origin e.base + (a - e.base) / WORD_BYTES ≡ word_index origin a
place_in origin pages a e even h r = omega arith

pub index_in : (origin pages a : ℕ) (e : Extent) → IsInHeap origin pages e → PointsInto a e.base e.length → (a - e.base) / WORD_BYTES < e.length
index_in origin pages a e h r = omega arith

-- the word at an address inside an extent
pub word_in : (origin : ℕ) (row : List ℕ) (pages a : ℕ) (e : Extent) → origin % WORD_BYTES ≡ 0 → IsInHeap origin pages e → PointsInto a e.base e.length → get_or (words_at origin row e) ((a - e.base) / WORD_BYTES) 0 ≡ get_or row (word_index origin a) 0
word_in origin row pages a e even h r =
    get_or-take e.length (drop (word_index origin e.base) row) ((a - e.base) / WORD_BYTES) 0 (index_in origin pages a e h r)
    ∙ get_or-drop (word_index origin e.base) row ((a - e.base) / WORD_BYTES) 0
    ∙ ap (λ i. get_or row i 0) (place_in origin pages a e even h r)

-- a write inside an extent
pub written_in : (origin : ℕ) (row : List ℕ) (pages a v : ℕ) (e : Extent) → origin % WORD_BYTES ≡ 0 → IsInHeap origin pages e → PointsInto a e.base e.length → words_at origin (set row (word_index origin a) v) e ≡ set (words_at origin row e) ((a - e.base) / WORD_BYTES) v
written_in origin row pages a v e even h r =
    ap (λ i. take e.length (drop (word_index origin e.base) (set row i v))) (sym (place_in origin pages a e even h r))
    ∙ ap (take e.length) (drop-set-add (word_index origin e.base) row ((a - e.base) / WORD_BYTES) v)
    ∙ take-set-lt e.length (drop (word_index origin e.base) row) ((a - e.base) / WORD_BYTES) v (index_in origin pages a e h r)

-- a write outside
pub written_before : (row : List ℕ) (p q n v : ℕ) → p < q → take n (drop q (set row p v)) ≡ take n (drop q row)
written_before row p q n v h = ap (take n) (drop-set-lt q row p v h)

pub written_after : (row : List ℕ) (q j n v : ℕ) → n ≤ j → take n (drop q (set row (q + j) v)) ≡ take n (drop q row)
written_after row q j n v h = ap (take n) (drop-set-add q row j v) ∙ take-set-le n (drop q row) j v h

-- an aligned address that an extent does not have is before or after it
outside : (origin pages a : ℕ) (e : Extent) → origin % WORD_BYTES ≡ 0 → IsInHeap origin pages e → origin ≤ a → a % WORD_BYTES ≡ 0 → (PointsInto a e.base e.length → ⊥) → word_index origin e.base + e.length ≤ word_index origin a ⊎ (word_index origin a < word_index origin e.base)
outside origin pages a e even h low al n =
    ⊎_elim (λ before. inr (omega arith)) (λ after. inl (omega (arith, beyond after))) (cases_lt a e.base)
  where
    beyond : e.base ≤ a → e.base + WORD_BYTES * e.length ≤ a
    beyond after = ⊎_elim (λ inside. absurd (n (after, inside))) (λ past. past) (cases_lt a (e.base + WORD_BYTES * e.length))

pub written_out : (origin : ℕ) (row : List ℕ) (pages a v : ℕ) (e : Extent) → origin % WORD_BYTES ≡ 0 → IsInHeap origin pages e → origin ≤ a → a % WORD_BYTES ≡ 0 → (PointsInto a e.base e.length → ⊥) → words_at origin (set row (word_index origin a) v) e ≡ words_at origin row e
written_out origin row pages a v e even h low al n =
    ⊎_elim
    (λ after. ap (λ i. take e.length (drop (word_index origin e.base) (set row i v))) (sum_of after) ∙ written_after row (word_index origin e.base) (word_index origin a - word_index origin e.base) e.length v (omega arith))
    (λ before. written_before row (word_index origin a) (word_index origin e.base) e.length v before)
    (outside origin pages a e even h low al n)
  where
    sum_of : word_index origin e.base + e.length ≤ word_index origin a → word_index origin a ≡ word_index origin e.base + (word_index origin a - word_index origin e.base)
    sum_of after = omega arith
