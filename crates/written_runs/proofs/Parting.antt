-- A line is parted at its first `=` in one way.
use Rattle.std.proofs.Common.{◌≡◌, ◌≢◌, ℕ, List, [], ◌∷◌, ◌++◌, refl, sym, ap, ◌∙◌, subst, append_assoc}
use Rattle.std.specs.Prelude.{codes}
use Rattle.std.proofs.lemmas.List.{append_cancel_left}
use Rattle.std.proofs.lemmas.List.Elements.{All-nil, All-cons, All-head, All-tail, All-append}
use Rattle.written_runs.specs.Cuts.{Lacks, IsTextCut}
use Rattle.written_runs.specs.Reading.{IsParted}
use Rattle.written_runs.proofs.Cutting.{IsSameCut, same_cut, lacks_by}

-- the last bytes of two texts that are one
pub record IsSameEnd (xs ys : List ℕ) (x y : ℕ) : Type 0 where
  pub front : xs ≡ ys
  pub last : x ≡ y

pub same_end : (xs ys : List ℕ) (x y : ℕ) → xs ++ x ∷ [] ≡ ys ++ y ∷ [] → IsSameEnd xs ys x y
same_end [] [] x y e = let h : x ≡ y = cc in record { front = refl; last = h }
same_end [] (b ∷ []) x y e = let f : ⊥ = cc in absurd f
same_end [] (b ∷ c ∷ ys) x y e = let f : ⊥ = cc in absurd f
same_end (a ∷ []) [] x y e = let f : ⊥ = cc in absurd f
same_end (a ∷ c ∷ xs) [] x y e = let f : ⊥ = cc in absurd f
same_end (a ∷ xs) (b ∷ ys) x y e =
    let more : xs ++ x ∷ [] ≡ ys ++ y ∷ [] = cc in
    let h : a ≡ b = cc in
    let same = same_end xs ys x y more in
    record { front = ap (λ z. z ∷ xs) h ∙ ap (λ zs. b ∷ zs) same.front; last = same.last }

-- the parts of a line, where it is cut at its first `=`
pub parted_cut : (line front rest text answer : List ℕ) → IsTextCut 61 line front rest → IsParted line text answer → IsSameCut front rest (text ++ 32 ∷ []) (codes "=> " ++ answer)
parted_cut line front rest text answer cut is =
    same_cut 61 front rest (text ++ 32 ∷ []) (codes "=> " ++ answer) (sym cut.whole ∙ is.whole ∙ sym (append_assoc text (32 ∷ []) (codes "=> " ++ answer))) cut.lacks cut.from (All-append (λ b. b ≢ 61) text (32 ∷ []) is.lacks (lacks_by 61 (32 ∷ []) refl)) refl

pub parted_here : (line front rest text answer : List ℕ) → IsTextCut 61 line front rest → rest ≡ codes "=> " ++ answer → front ≡ text ++ 32 ∷ [] → IsParted line text answer
parted_here line front rest text answer cut e f =
    record {
      whole = cut.whole ∙ ap (λ t. t ++ rest) f ∙ append_assoc text (32 ∷ []) rest ∙ ap (λ t. text ++ (32 ∷ t)) e;
      lacks = All-front text (32 ∷ []) (subst (Lacks 61) f cut.lacks);
    }
  where
    All-front : (xs ys : List ℕ) → Lacks 61 (xs ++ ys) → Lacks 61 xs
    All-front [] ys h = All-nil (λ b. b ≢ 61)
    All-front (x ∷ xs) ys h = All-cons (λ b. b ≢ 61) x xs (All-head (λ b. b ≢ 61) x (xs ++ ys) h) (All-front xs ys (All-tail (λ b. b ≢ 61) x (xs ++ ys) h))

pub same_parts : (line text answer text' answer' : List ℕ) → IsParted line text answer → IsParted line text' answer' → IsSameCut text answer text' answer'
same_parts line text answer text' answer' a b =
    let c = parted_cut line (text ++ 32 ∷ []) (codes "=> " ++ answer) text' answer' (cut_of line text answer a) b in
    let ends = same_end text text' 32 32 c.front in
    record { front = ends.front; rest = append_cancel_left (codes "=> ") answer answer' c.rest }
  where
    cut_of : (line text answer : List ℕ) → IsParted line text answer → IsTextCut 61 line (text ++ 32 ∷ []) (codes "=> " ++ answer)
    cut_of line text answer is = record { whole = is.whole ∙ sym (append_assoc text (32 ∷ []) (codes "=> " ++ answer)); lacks = All-append (λ b. b ≢ 61) text (32 ∷ []) is.lacks (lacks_by 61 (32 ∷ []) refl); from = refl }

-- a line whose text ends in no space before its `=`
pub no_space : (line front rest text : List ℕ) (b : ℕ) → IsTextCut 61 line front rest → front ≡ text ++ b ∷ [] → (b ≡ 32 → ⊥) → (other answer : List ℕ) → IsParted line other answer → ⊥
no_space line front rest text b cut e differs other answer is = differs (same_end text other b 32 (sym e ∙ (parted_cut line front rest other answer cut is).front)).last
