-- Parts of a right that is cut in halves.
use Rattle.std.proofs.Common.{◌≡◌, ℕ, zero, suc, ◌+◌, ◌-◌, ◌<◌, ◌≤◌, refl, ap, ◌∙◌, arith}
use Rattle.mark_bits.specs.declared.claimer_view.ClaimerView.{ClaimerView}
use Rattle.mark_bits.specs.Claims.{doubled, HasPart, kept_part, cut_part, joined}

doubled-plus : (a b n : ℕ) → doubled (a + b) n ≡ doubled a n + doubled b n
doubled-plus a b zero = refl
doubled-plus a b (suc n) = let i = doubled-plus a b n in omega arith

doubled-again : (m a b : ℕ) → doubled (doubled m a) b ≡ doubled m (a + b)
doubled-again m a zero = ap (doubled m) (let e : a ≡ a + 0 = omega arith in e)
doubled-again m a (suc b) =
    let i = doubled-again m a b in
    let next : doubled m (a + suc b) ≡ doubled m (a + b) + doubled m (a + b) = ap (doubled m) (let e : a + suc b ≡ suc (a + b) = omega arith in e) in
    omega arith

pub doubled-none : (n : ℕ) → doubled 0 n ≡ 0
doubled-none zero = refl
doubled-none (suc n) = let i = doubled-none n in omega arith

pub doubled-pos : (m n : ℕ) → 0 < m → 0 < doubled m n
doubled-pos m zero some = some
doubled-pos m (suc n) some = let i = doubled-pos m n some in omega arith

pub doubled-zero : (m n : ℕ) → doubled m n ≡ 0 → m ≡ 0
doubled-zero m zero none = none
doubled-zero m (suc n) none = doubled-zero m n (omega arith)

doubled-next : (m n : ℕ) → doubled m (n + 1) ≡ doubled m n + doubled m n
doubled-next m n = ap (doubled m) (let e : n + 1 ≡ suc n = omega arith in e)

-- a part is its two halves, however finely all is cut
pub halves : (m e d : ℕ) → e + 1 ≤ d → doubled m (d - e) ≡ doubled m (d - (e + 1)) + doubled m (d - (e + 1))
halves m e d le = ap (doubled m) (let k : d - e ≡ suc (d - (e + 1)) = omega arith in k)

-- and so are two parts that were joined
pub both-scaled : (m e n f d : ℕ) → e + f ≤ d → doubled (doubled m f + doubled n e) (d - (e + f)) ≡ doubled m (d - e) + doubled n (d - f)
both-scaled m e n f d le =
    let k : ℕ = d - (e + f) in
    let first : doubled (doubled m f) k ≡ doubled m (d - e) = doubled-again m f k ∙ ap (doubled m) (let a : f + (d - (e + f)) ≡ d - e = omega arith in a) in
    let second : doubled (doubled n e) k ≡ doubled n (d - f) = doubled-again n e k ∙ ap (doubled n) (let a : e + (d - (e + f)) ≡ d - f = omega arith in a) in
    let sum = doubled-plus (doubled m f) (doubled n e) k in omega arith

-- the right, where one has all of it
pub scaled-all : (m e d : ℕ) → e ≤ d → m ≡ doubled 1 e → doubled m (d - e) ≡ doubled 1 d
scaled-all m e d le all = ap (λ x. doubled x (d - e)) all ∙ doubled-again 1 e (d - e) ∙ ap (doubled 1) (let a : e + (d - e) ≡ d = omega arith in a)

-- two parts are some
pub some_joined : (v w : ClaimerView) → 0 < v.right.0 → 0 < (joined v w).right.0
some_joined v w some = let d = doubled-pos v.right.0 w.right.1 some in omega arith

-- who is cut in two has half of the part, and so has the other
pub part_kept : (v : ClaimerView) (n : ℕ) → HasPart v n → HasPart (kept_part v) (n + 1)
part_kept v n is = let a = doubled-next v.right.0 n in let b = doubled-next 1 v.right.1 in omega arith

pub part_cut : (v : ClaimerView) (n : ℕ) → HasPart v n → HasPart (cut_part v) (n + 1)
part_cut v n is = part_kept v n is

-- two halves are the part that was cut
pub part_joined : (v w : ClaimerView) (n : ℕ) → HasPart v (n + 1) → HasPart w (n + 1) → HasPart (joined v w) n
part_joined v w n is is' =
    let m : ℕ = v.right.0 in let e : ℕ = v.right.1 in let k : ℕ = w.right.0 in let f : ℕ = w.right.1 in
    let sum = doubled-plus (doubled m f) (doubled k e) n in
    let first : doubled (doubled m f) n ≡ doubled m (n + f) = doubled-again m f n ∙ ap (doubled m) (let a : f + n ≡ n + f = omega arith in a) in
    let second : doubled (doubled k e) n ≡ doubled k (n + e) = doubled-again k e n ∙ ap (doubled k) (let a : e + n ≡ n + e = omega arith in a) in
    let whole : doubled m (n + f) + doubled m (n + f) ≡ doubled 1 (e + f) = twice m n f ∙ ap (λ x. doubled x f) is ∙ doubled-again 1 e f in
    let whole' : doubled k (n + e) + doubled k (n + e) ≡ doubled 1 (e + f) = twice k n e ∙ ap (λ x. doubled x e) is' ∙ doubled-again 1 f e ∙ ap (doubled 1) (let a : f + e ≡ e + f = omega arith in a) in
    omega arith
  where
    twice : (m n f : ℕ) → doubled m (n + f) + doubled m (n + f) ≡ doubled (doubled m (n + 1)) f
    twice m n f =
        let a : doubled m (n + f + 1) ≡ doubled m (n + f) + doubled m (n + f) = doubled-next m (n + f) in
        let b : doubled (doubled m (n + 1)) f ≡ doubled m (n + f + 1) = doubled-again m (n + 1) f ∙ ap (doubled m) (let c : n + 1 + f ≡ n + f + 1 = omega arith in c) in
        omega arith
