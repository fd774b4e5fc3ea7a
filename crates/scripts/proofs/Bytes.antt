-- Known bytes over several calls.
use Rattle.std.proofs.Common.{◌≡◌, ℕ, ◌+◌, ◌-◌, List, [], ◌++◌, length, take, drop, refl, sym, ap, ◌∙◌, subst, arith, append_assoc}
use Rattle.std.specs.Prelude.{Option, Some, None}
use Rattle.std.specs.Io.KnownBytes.{Appends, Consumes}
use Rattle.std.proofs.lemmas.List.{append-nil, take_rest, take-take, drop-take, take-append-drop}

pub Appends-none : (a : Option (List ℕ)) → Appends a a []
Appends-none None = tt
Appends-none (Some xs) = sym (append-nil xs)

pub Appends-more : (a b c : Option (List ℕ)) (xs ys : List ℕ) → Appends a b xs → Appends b c ys → Appends a c (xs ++ ys)
Appends-more None b c xs ys h k = tt
Appends-more (Some xa) None c xs ys h k = absurd h
Appends-more (Some xa) (Some xb) None xs ys h k = absurd k
Appends-more (Some xa) (Some xb) (Some xc) xs ys h k = k ∙ ap (λ x. x ++ ys) h ∙ append_assoc xa xs ys

pub Consumes-none : (a : Option (List ℕ)) → Consumes a a []
Consumes-none None = tt
Consumes-none (Some xs) = refl

pub Consumes-more : (a b c : Option (List ℕ)) (xs ys : List ℕ) → Consumes a b xs → Consumes b c ys → Consumes a c (xs ++ ys)
Consumes-more None b c xs ys h k = tt
Consumes-more (Some xa) None c xs ys h k = absurd h
Consumes-more (Some xa) (Some xb) None xs ys h k = absurd k
Consumes-more (Some xa) (Some xb) (Some xc) xs ys h k = h ∙ ap (λ x. xs ++ x) k ∙ sym (append_assoc xs ys xc)

-- a front, and a front of the rest
take_on : (b : List ℕ) (d n : ℕ) → take d b ++ take n (drop d b) ≡ take (d + n) b
take_on b d n =
    ap (λ x. x ++ take n (drop d b)) (sym (take-take d (d + n) b (omega arith)))
    ∙ ap (λ x. take d (take (d + n) b) ++ x) (sym (drop-take d n b))
    ∙ take-append-drop d (take (d + n) b)

-- one write more of the bytes b
pub Appends-on : (a w w' : Option (List ℕ)) (b : List ℕ) (d n : ℕ) → Appends a w (take d b) → Appends w w' (take n (take (length b - d) (drop d b))) → Appends a w' (take (d + n) b)
Appends-on a w w' b d n h k =
    let front : take d b ++ take n (take (length b - d) (drop d b)) ≡ take (d + n) b = ap (λ x. take d b ++ take n x) (take_rest b d) ∙ take_on b d n in
    let P : List ℕ → Type 0 = λ x. Appends a w' x in
    subst P front (Appends-more a w w' (take d b) (take n (take (length b - d) (drop d b))) h k)
