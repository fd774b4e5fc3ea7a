-- An array that calls made, each of which gives the same.
use Rattle.std.proofs.Common.{◌≡◌, ℕ, ◌<◌, List, Result, Ok, Err, IfOk, sym, ◌∙◌, subst}
use Rattle.std.proofs.Math.ListN.{get_or, replicate}
use Rattle.std.proofs.lemmas.List.{ext_get_or, get_or-replicate, length-replicate}
use Rattle.std.specs.Fn.{Mut, Called}
use Rattle.std.specs.Array.{IsTryFromFnResult}

-- of a list
pub alike : {F B E : Type 0} (g : Mut F (ℕ × Unit {0}) (Result B E)) (ys : List B) (n : ℕ) (b : B) → IsTryFromFnResult g ys n
    → ((p q : F) (i : ℕ) (y : B) → Called g p (i, tt) (Ok y) q → y ≡ b) → ys ≡ replicate n b
alike g ys n b made says =
    ext_get_or b ys (replicate n b) (made.long ∙ sym (length-replicate n b))
    (λ i small. let inside : i < n = subst (λ m. i < m) made.long small in
    let call = made.at i b inside in
    says call.0 call.1 i (get_or ys i b) call.2 ∙ sym (get_or-replicate n i b b inside))

-- of a result
pub made_alike : {F B E D : Type 0} (g : Mut F (ℕ × Unit {0}) (Result B E)) (result : Result (List B) D) (n : ℕ) (b : B)
    → IfOk result (λ ys. IsTryFromFnResult g ys n) → ((p q : F) (i : ℕ) (y : B) → Called g p (i, tt) (Ok y) q → y ≡ b)
    → IfOk result (λ ys. ys ≡ replicate n b)
made_alike g (Ok ys) n b made says = alike g ys n b made says
made_alike g (Err e) n b made says = search
