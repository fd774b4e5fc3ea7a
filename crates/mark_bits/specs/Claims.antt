-- What claimers know and win, and how their lists make up the marks.
use Rattle.std.specs.Prelude.{◌≡◌, ℕ, zero, suc, ◌+◌, ◌/◌, ◌%◌, Bool, true, false, ◌&&◌, ◌||◌, ◌==◌, cond, List, [], ◌∷◌, ◌++◌, length, slice_index_or}
use Rattle.std.specs.Int.{bit_at}
use Rattle.mark_bits.specs.declared.claimer_view.ClaimerView.{ClaimerView}

-- a claimer with a part of the right, the marks at the start, the words that it saw, and the bits that it won
abbrev pub claimer : ℕ × ℕ → List Bool → List (ℕ × ℕ) → List ℕ → ClaimerView
claimer right start seen won = record { right = right; start = start; seen = seen; won = won }

-- the bit k is set in one of the words that were seen
abbrev pub shows : ℕ → List (ℕ × ℕ) → Bool
shows k [] = false
shows k (x ∷ xs) = ((x.0 == k / 64) && (bit_at x.1 (k % 64) == 1)) || shows k xs

-- the claimer has seen that the bit k is set
abbrev pub knows : ClaimerView → ℕ → Bool
knows v k = shows k v.seen

-- a claimer keeps its part of the right through its own steps, and what it knew
pub record LearnsMore (old new : ClaimerView) : Type 0 where
  pub right : new.right ≡ old.right
  pub known : (k : ℕ) → knows old k ≡ true → knows new k ≡ true

-- m, doubled n times
abbrev pub doubled : ℕ → ℕ → ℕ
doubled m zero = m
doubled m (suc n) = doubled m n + doubled m n

-- the claimer has one of 2^n equal parts of the right to give the marks back
abbrev pub HasPart : ClaimerView → ℕ → Type 0
HasPart v n = doubled v.right.0 n ≡ doubled 1 v.right.1

-- the claimer has all of it
abbrev pub HasAll : ClaimerView → Type 0
HasAll v = HasPart v 0

-- half of a part, and two parts as one
abbrev pub half : ℕ × ℕ → ℕ × ℕ
half r = (r.0, r.1 + 1)

abbrev pub both : ℕ × ℕ → ℕ × ℕ → ℕ × ℕ
both r s = (doubled r.0 s.1 + doubled s.0 r.1, r.1 + s.1)

-- the first claimer of a table
abbrev pub first_view : List Bool → ClaimerView
first_view start = claimer (1, 0) start [] []

-- a claimer is cut in two: itself with half of its part, and one that has won nothing
abbrev pub kept_part : ClaimerView → ClaimerView
kept_part v = claimer (half v.right) v.start v.seen v.won

-- the one that has won nothing: the other half, which knows what the first knew
abbrev pub cut_part : ClaimerView → ClaimerView
cut_part v = claimer (half v.right) v.start v.seen []

-- two claimers as one, and what is left of the second
abbrev pub joined : ClaimerView → ClaimerView → ClaimerView
joined v w = claimer (both v.right w.right) v.start (v.seen ++ w.seen) (v.won ++ w.won)

-- what is left of a claimer that was joined to another: no part, and nothing known or won
abbrev pub spent : ClaimerView
spent = claimer (0, 0) [] [] []

-- one if it is so, and none if it isn't
abbrev pub one : Bool → ℕ
one b = cond b 1 0

-- how often k stands in the list
abbrev pub times : ℕ → List ℕ → ℕ
times k [] = 0
times k (x ∷ xs) = one (x == k) + times k xs

-- whether the row has k
abbrev pub has : List Bool → ℕ → Bool
has row k = slice_index_or row k false

-- each mark was there at the start or was won once, and nothing else is marked or was won
pub record Gathers (start : List Bool) (won : List ℕ) (marks : List Bool) : Type 0 where
  pub size : length marks ≡ length start
  pub once : (k : ℕ) → times k won + one (has start k) ≡ one (has marks k)
