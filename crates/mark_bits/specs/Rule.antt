-- The rule of the words and the claimers of a table, and what each step tells its claimer.
use Rattle.std.specs.Prelude.{◌≡◌, ℕ, ◌+◌, ◌-◌, ◌*◌, ◌/◌, ◌%◌, ◌^◌, ◌<◌, ◌≤◌, Bool, true, cond, ◌==◌, List, [], ◌∷◌, length}
use Rattle.std.specs.Int.{bit_at}
use Rattle.std.specs.Int.RustNames.{bit_or}
use mathlib.Core.Option.{some}
use lib.ListN.{get_elem?}
use Rattle.words.specs.Bits.{bit}
use Rattle.atomic_table.specs.Table.{State, Me, Step}
use Rattle.mark_bits.specs.declared.claimer_view.ClaimerView.{ClaimerView}
use Rattle.mark_bits.specs.Claims.{claimer, doubled, knows, has, one, times}

-- the numbers of all views, added up
abbrev pub total : (ClaimerView → ℕ) → List ClaimerView → ℕ
total f [] = 0
total f (v ∷ vs) = f v + total f vs

-- what is true of one claimer: it has the marks at the start, knows only bits that are set, and has won nothing if it has no part
pub record IsTrueOf (start : List Bool) (words : List ℕ) (v : ClaimerView) : Type 0 where
  pub same : 0 < v.right.0 → v.start ≡ start
  pub known : (k : ℕ) → knows v k ≡ true → bit words k ≡ true
  pub idle : v.right.0 ≡ 0 → v.won ≡ []

-- how many of 2^d parts the part is
abbrev pub scaled : ℕ → ℕ × ℕ → ℕ
scaled d r = doubled r.0 (d - r.1)

-- The rule: the table has so many words, and they, its parts and its won lists agree.
pub record IsWonOnce (start : List Bool) (count : ℕ) (s : State (Unit {0}) ClaimerView) : Type 0 where
  pub size : length s.words ≡ count
  -- all parts are the whole, cut as finely as any of them
  pub whole : (d : ℕ) → total (λ v. v.right.1) s.views ≤ d → total (λ v. scaled d v.right) s.views ≡ doubled 1 d
  -- a set bit was set at the start or was won once, and a clear one neither. Past the words every bit is clear
  pub once : (k : ℕ) → total (λ v. times k v.won) s.views + one (has start k) ≡ one (bit s.words k)
  pub views : (id : ℕ) (v : ClaimerView) → get_elem? s.views id ≡ some v → IsTrueOf start s.words v

-- the bit k of its word alone
abbrev pub mask : ℕ → ℕ
mask k = 1 * 2 ^ (k % 64) % 2 ^ 64

-- the claimer after a claim of the bit k that found the word n
abbrev pub after_claim : ClaimerView → ℕ → ℕ → ClaimerView
after_claim v k n = claimer v.right v.start ((k / 64, bit_or n (mask k)) ∷ v.seen) (cond (bit_at n (k % 64) == 0) (k ∷ v.won) v.won)

-- the claimer after it saw the word n at the place i
abbrev pub after_look : ClaimerView → ℕ → ℕ → ClaimerView
after_look v i n = claimer v.right v.start ((i, n) ∷ v.seen) v.won

-- the word n has the bit k if it was set at the start or the claimer knows it
pub record Finds (v : ClaimerView) (k n : ℕ) : Type 0 where
  pub start : has v.start k ≡ true → bit_at n (k % 64) ≡ 1
  pub known : knows v k ≡ true → bit_at n (k % 64) ≡ 1

-- A claim of a bit found this word at its one step. It is answered whether the bit was clear in it, and exactly then the bit is won; and
-- the word with the bit is what the claimer has seen.
pub record IsClaim (old new : ClaimerView) (k : ℕ) (is_won : Bool) : Type 0 where
  pub word : ℕ
  pub clear : is_won ≡ (bit_at word (k % 64) == 0)
  pub after : new ≡ after_claim old k word
  pub finds : Finds old k word

-- a step says its word and its mask, and so its bit
abbrev pub claimed : Step (Unit {0}) → Me (Unit {0}) ClaimerView → ℕ → Me (Unit {0}) ClaimerView → Type 0
claimed s v n w = (w.1 ≡ v.1) × ((k : ℕ) → k / 64 ≡ s.word → mask k ≡ s.first → (w.0 ≡ after_claim v.0 k n) × Finds v.0 k n)

-- a look says the place of its word; the claimer has then seen what stands there, which has each bit that was set at the start or that it knew
abbrev pub looked : Step (Unit {0}) → Me (Unit {0}) ClaimerView → ℕ → Me (Unit {0}) ClaimerView → Type 0
looked s v n w = (w.1 ≡ v.1) × (w.0 ≡ after_look v.0 s.word n) × ((k : ℕ) → k / 64 ≡ s.word → Finds v.0 k n)
