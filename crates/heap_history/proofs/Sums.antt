-- Where as many mutators came to each slot as are known at least, and no more in all, as many came to each.
use Rattle.std.proofs.Common.{◌≡◌, ℕ, zero, suc, ◌+◌, ◌<◌, ◌≤◌, ◌==◌, ◌⊎◌, Bool, false, cond, List, [], ◌∷◌, length, refl, sym, ap, ◌∙◌, subst, arith, eq-eqb, ne_eqb, true≢false, inl, inr, ⊎_elim}
use Rattle.std.specs.Prelude.{nat_eq}
use Rattle.std.specs.List.{AllByRecursion, IsDistinct}
use Rattle.std.proofs.lemmas.Bool.{cases_eq}
use Rattle.std.proofs.lemmas.Map.Keys.{IsDistinct-head, IsDistinct-tail}
use Rattle.heap_history.specs.Passes.{MadeEvent}
use Rattle.heap_history.specs.Alone.{attaches, all_of}
use Rattle.heap_history.specs.InTurn.{came_to}
use Rattle.heap_history.proofs.Coming.{came, firsts_of, AllCame}

-- how often a slot is one of these
abbrev pub times : ℕ → List ℕ → ℕ
times x [] = 0
times x (s ∷ slots) = cond (s == x) 1 0 + times x slots

-- the sum over the first so many slots
abbrev sum_below : (ℕ → ℕ) → ℕ → ℕ
sum_below f zero = 0
sum_below f (suc n) = f n + sum_below f n

sum_zero : (n : ℕ) → sum_below (λ k. 0) n ≡ 0
sum_zero zero = refl
sum_zero (suc n) = let h = sum_zero n in omega (arith, h)

sum_both : (f g : ℕ → ℕ) (n : ℕ) → sum_below (λ k. f k + g k) n ≡ sum_below f n + sum_below g n
sum_both f g zero = refl
sum_both f g (suc n) = let h = sum_both f g n in omega (arith, h)

-- of one slot, nothing from others
sum_above : (x a n : ℕ) → n ≤ x → sum_below (λ k. cond (x == k) a 0) n ≡ 0
sum_above x a zero le = refl
sum_above x a (suc n) le =
    let rest = sum_above x a n (omega (arith, le)) in
    let here = ap {B = ℕ} (λ (b : Bool). cond b a 0) (ne_eqb x n (λ e. omega (arith, le, e))) in
    omega (arith, rest, here)

sum_one : (x a n : ℕ) → x < n → sum_below (λ k. cond (x == k) a 0) n ≡ a
sum_one x a zero lt = absurd (omega (arith, lt))
sum_one x a (suc n) lt = ⊎_elim
    (λ (same : x ≡ n).
    let rest = sum_above x a n (omega (arith, same)) in
    let here = ap {B = ℕ} (λ (b : Bool). cond b a 0) (eq-eqb x n same) in
    omega (arith, rest, here))
    (λ other.
    let rest = sum_one x a n (omega (arith, lt, other)) in
    let here = ap {B = ℕ} (λ (b : Bool). cond b a 0) (ne_eqb x n other) in
    omega (arith, rest, here))
    (cases_eq x n)

sum_few : (x a n : ℕ) → sum_below (λ k. cond (x == k) a 0) n ≤ a
sum_few x a n = ⊎_elim (λ (lt : x < n). let h = sum_one x a n lt in omega (arith, h)) (λ (le : n ≤ x). let h = sum_above x a n le in omega (arith, h)) (by x n)
  where
    by : (x n : ℕ) → (x < n) ⊎ (n ≤ x)
    by x zero = inr (omega arith)
    by zero (suc n) = inl (omega arith)
    by (suc x) (suc n) = ⊎_elim (λ lt. inl (omega (arith, lt))) (λ le. inr (omega (arith, le))) (by x n)

-- no more came to slots than came
sum_firsts : (n : ℕ) (es : List MadeEvent) → sum_below (λ s. firsts_of s es) n ≤ attaches es
sum_firsts n [] = let h = sum_zero n in omega (arith, h)
sum_firsts n (e ∷ es) =
    let both = sum_both (λ s. cond (e.who == s) (came e) 0) (λ s. firsts_of s es) n in
    let here = sum_few e.who (came e) n in
    let rest = sum_firsts n es in
    omega (arith, both, here, rest)

-- each of these slots is counted
sum_times : (n : ℕ) (slots : List ℕ) → AllByRecursion (λ s. s < n) slots → sum_below (λ s. times s slots) n ≡ length slots
sum_times n [] below = sum_zero n
sum_times n (s ∷ slots) below =
    let both = sum_both (λ x. cond (s == x) 1 0) (λ x. times x slots) n in
    let here = sum_one s 1 n below.0 in
    let rest = sum_times n slots below.1 in
    omega (arith, both, here, rest)

sum_least : (f g : ℕ → ℕ) (n : ℕ) → ((k : ℕ) → f k ≤ g k) → sum_below f n ≤ sum_below g n
sum_least f g zero h = omega arith
sum_least f g (suc n) h = let here = h n in let rest = sum_least f g n h in omega (arith, here, rest)

sum_same : (f g : ℕ → ℕ) (n : ℕ) → ((k : ℕ) → f k ≤ g k) → sum_below g n ≤ sum_below f n → (k : ℕ) → k < n → g k ≡ f k
sum_same f g zero h few k lt = absurd (omega (arith, lt))
sum_same f g (suc n) h few k lt =
    let here = h n in
    let rest = sum_least f g n h in
    ⊎_elim (λ (same : k ≡ n). ap g same ∙ ((omega (arith, few, here, rest) ∙ sym (ap f same)))) (λ other. sum_same f g n h (omega (arith, few, here)) k (omega (arith, lt, other))) (cases_eq k n)

pub all_counted : (n : ℕ) (slots : List ℕ) (es : List MadeEvent) → AllByRecursion (λ s. s < n) slots → ((x : ℕ) → times x slots ≤ firsts_of x es) → attaches es ≤ length slots → (x : ℕ) → x < n → firsts_of x es ≡ times x slots
all_counted n slots es below h few =
    let a = sum_firsts n es in
    let b = sum_times n slots below in
    sum_same (λ x. times x slots) (λ x. firsts_of x es) n h (omega (arith, a, b, few))

-- a slot that is none of these
pub times_none : (x : ℕ) (slots : List ℕ) → AllByRecursion (λ y. nat_eq x y ≡ false) slots → times x slots ≡ 0
times_none x [] away = refl
times_none x (s ∷ slots) away =
    let rest = times_none x slots away.1 in
    let here = ap {B = ℕ} (λ (b : Bool). cond b 1 0) (sym_eqb s x away.0) in
    omega (arith, rest, here)
  where
    sym_eqb : (s x : ℕ) → nat_eq x s ≡ false → (s == x) ≡ false
    sym_eqb s x e = ne_eqb s x (λ same. true≢false (sym (eq-eqb x s (sym same)) ∙ e))

-- different slots, to each of which one came
pub times_few : (x : ℕ) (slots : List ℕ) (es : List MadeEvent) → IsDistinct nat_eq slots → AllCame slots es → (times x slots ≤ 1) × (times x slots ≤ firsts_of x es)
times_few x [] es distinct came = (omega arith, omega arith)
times_few x (s ∷ slots) es distinct came = ⊎_elim
    (λ (same : s ≡ x).
    let here = ap {B = ℕ} (λ (b : Bool). cond b 1 0) (eq-eqb s x same) in
    let none = times_none x slots (subst (λ (k : ℕ). AllByRecursion (λ y. nat_eq k y ≡ false) slots) same (IsDistinct-head nat_eq s slots distinct)) in
    let one = subst (λ (k : ℕ). 1 ≤ firsts_of k es) same came.0 in
    (omega (arith, here, none), omega (arith, here, none, one)))
    (λ other.
    let here = ap {B = ℕ} (λ (b : Bool). cond b 1 0) (ne_eqb s x other) in
    let rest = times_few x slots es (IsDistinct-tail nat_eq s slots distinct) came.1 in
    (omega (arith, here, rest.0), omega (arith, here, rest.1)))
    (cases_eq s x)

-- how many came to a slot, counted among all events and among its own
pub came_is : (x : ℕ) (es : List MadeEvent) → came_to x es ≡ firsts_of x es
came_is x [] = refl
came_is x (e ∷ es) = ⊎_elim
    (λ (same : e.who ≡ x).
    let at = eq-eqb e.who x same in
    let own : came_to x (e ∷ es) ≡ came e + came_to x es = ap (λ (b : Bool). attaches (cond b (e ∷ all_of x es) (all_of x es))) at in
    let all : firsts_of x (e ∷ es) ≡ came e + firsts_of x es = ap (λ (b : Bool). cond b (came e) 0 + firsts_of x es) at in
    let rest = came_is x es in
    omega (arith, own, all, rest))
    (λ other.
    let at = ne_eqb e.who x other in
    let own : came_to x (e ∷ es) ≡ came_to x es = ap (λ (b : Bool). attaches (cond b (e ∷ all_of x es) (all_of x es))) at in
    let all : firsts_of x (e ∷ es) ≡ 0 + firsts_of x es = ap (λ (b : Bool). cond b (came e) 0 + firsts_of x es) at in
    let rest = came_is x es in
    omega (arith, own, all, rest))
    (cases_eq e.who x)
