-- Objects that wait: one comes, one is looked at, one is taken.
use Rattle.std.proofs.Common.{◌≡◌, ◌+◌, List, [], ◌∷◌, ◌++◌, Contains, length, refl, sym, ap, subst, ◌∙◌, inl, inr, ⊎_elim, arith}
use Rattle.std.specs.Prelude.{◌⊎◌}
use Rattle.std.proofs.lemmas.List.{length-append}
use Rattle.std.proofs.lemmas.List.Elements.{Contains-append_cases, Contains-append_left, Contains-append_right}
use Rattle.final_pause.specs.declared.waiting.Unread.{Unread}
use Rattle.final_pause.specs.Waiting.{IsPut, IsTaken, IsMoved}
use Rattle.final_pause.proofs.Knowing.{contains_one}

last_in : (l : List Unread) (b : Unread) → Contains (l ++ b ∷ []) b
last_in l b = Contains-append_right l (b ∷ []) b (0, omega arith, refl)

-- what is in both lists together is in one of them
module _ (a s : List Unread) where
  left_in : (k : Unread) → Contains a k → Contains (a ++ s) k
  left_in k c = Contains-append_left a s k c

  right_in : (k : Unread) → Contains s k → Contains (a ++ s) k
  right_in k c = Contains-append_right a s k c

  either_in : (k : Unread) → Contains (a ++ s) k → Contains a k ⊎ Contains s k
  either_in k c = Contains-append_cases a s k c

-- all but the last one, or the last one
short_of : (l : List Unread) (b k : Unread) → Contains (l ++ b ∷ []) k → Contains l k ⊎ (b ≡ k)
short_of l b k c = ⊎_elim (λ h. inl h) (λ h. inr (contains_one b k h)) (either_in l (b ∷ []) k c)

size_of : (l : List Unread) (b : Unread) → length (l ++ b ∷ []) ≡ length l + 1
size_of l b = length-append l (b ∷ [])

pub put_one : (a s : List Unread) (b : Unread) → IsPut (a ++ s) b (a ++ (s ++ b ∷ []))
put_one a s b = record {
  here = right_in a (s ++ b ∷ []) b (last_in s b);
  stay = λ k c. ⊎_elim (λ h. left_in a (s ++ b ∷ []) k h) (λ h. right_in a (s ++ b ∷ []) k (left_in s (b ∷ []) k h)) (either_in a s k c);
  only = λ k c. ⊎_elim (λ h. inl (left_in a s k h)) (λ h. ⊎_elim (λ r. inl (right_in a s k r)) (λ e. inr (sym e)) (short_of s b k h)) (either_in a (s ++ b ∷ []) k c);
  size = (let m = length-append a s in let n = length-append a (s ++ b ∷ []) in let o = size_of s b in omega (arith, m, n, o));
}

pub move_one : (a s : List Unread) (b : Unread) → IsMoved (a ++ (s ++ b ∷ [])) ((a ++ b ∷ []) ++ s)
move_one a s b = record {
  only = λ k c. ⊎_elim
      (λ h. ⊎_elim (λ l. left_in a (s ++ b ∷ []) k l) (λ e. right_in a (s ++ b ∷ []) k (subst (Contains (s ++ b ∷ [])) e (last_in s b))) (short_of a b k h))
      (λ h. right_in a (s ++ b ∷ []) k (left_in s (b ∷ []) k h)) (either_in (a ++ b ∷ []) s k c);
  stay = λ k c. ⊎_elim
      (λ h. left_in (a ++ b ∷ []) s k (left_in a (b ∷ []) k h))
      (λ h. ⊎_elim (λ r. right_in (a ++ b ∷ []) s k r) (λ e. left_in (a ++ b ∷ []) s k (subst (Contains (a ++ b ∷ [])) e (last_in a b))) (short_of s b k h)) (either_in a (s ++ b ∷ []) k c);
  size = (let m = length-append (a ++ b ∷ []) s in let n = length-append a (s ++ b ∷ []) in let o = size_of s b in let q = size_of a b in omega (arith, m, n, o, q));
}

pub take_first : (a s : List Unread) (b : Unread) → IsTaken ((a ++ b ∷ []) ++ s) b (a ++ s)
take_first a s b = record {
  was = left_in (a ++ b ∷ []) s b (last_in a b);
  only = λ k c. ⊎_elim (λ h. left_in (a ++ b ∷ []) s k (left_in a (b ∷ []) k h)) (λ h. right_in (a ++ b ∷ []) s k h) (either_in a s k c);
  stay = λ k c. ⊎_elim (λ h. ⊎_elim (λ l. inl (left_in a s k l)) (λ e. inr e) (short_of a b k h)) (λ h. inl (right_in a s k h)) (either_in (a ++ b ∷ []) s k c);
  size = (let m = length-append (a ++ b ∷ []) s in let n = length-append a s in let o = size_of a b in omega (arith, m, n, o));
}

pub take_second : (a s : List Unread) (b : Unread) → IsTaken (a ++ (s ++ b ∷ [])) b (a ++ s)
take_second a s b = record {
  was = right_in a (s ++ b ∷ []) b (last_in s b);
  only = λ k c. ⊎_elim (λ h. left_in a (s ++ b ∷ []) k h) (λ h. right_in a (s ++ b ∷ []) k (left_in s (b ∷ []) k h)) (either_in a s k c);
  stay = λ k c. ⊎_elim (λ h. inl (left_in a s k h)) (λ h. ⊎_elim (λ r. inl (right_in a s k r)) (λ e. inr e) (short_of s b k h)) (either_in a (s ++ b ∷ []) k c);
  size = (let m = length-append a (s ++ b ∷ []) in let n = length-append a s in let o = size_of s b in omega (arith, m, n, o));
}

pub moved_refl : (l : List Unread) → IsMoved l l
moved_refl l = record { only = λ k c. c; stay = λ k c. c; size = refl }

pub moved_trans : (l m n : List Unread) → IsMoved l m → IsMoved m n → IsMoved l n
moved_trans l m n x y = record { only = λ k c. x.only k (y.only k c); stay = λ k c. y.stay k (x.stay k c); size = y.size ∙ x.size }

pub taken_moved : (l m n : List Unread) (b : Unread) → IsTaken l b m → IsMoved m n → IsTaken l b n
taken_moved l m n b x y = record {
  was = x.was;
  only = λ k c. x.only k (y.only k c);
  stay = λ k c. ⊎_elim (λ h. inl (y.stay k h)) (λ e. inr e) (x.stay k c);
  size = (let s = x.size in let t = y.size in omega (arith, s, t));
}

-- the same of what is kept as two lists
pub puts : (a s s' now : List Unread) (b : Unread) → a ++ s ≡ now → s' ≡ s ++ b ∷ [] → IsPut now b (a ++ s')
puts a s s' now b is e = subst (λ (l : List Unread). IsPut l b (a ++ s')) is (subst (λ (t : List Unread). IsPut (a ++ s) b (a ++ t)) (sym e) (put_one a s b))

pub moves : (a a' s s' now : List Unread) (b : Unread) → a ++ s ≡ now → s ≡ s' ++ b ∷ [] → a' ≡ a ++ b ∷ [] → IsMoved now (a' ++ s')
moves a a' s s' now b is e f =
    subst (λ (l : List Unread). IsMoved l (a' ++ s')) (sym (ap (λ (t : List Unread). a ++ t) e) ∙ is) (subst (λ (t : List Unread). IsMoved (a ++ (s' ++ b ∷ [])) (t ++ s')) (sym f) (move_one a s' b))

pub stack_waits : (a s now : List Unread) (b : Unread) → a ++ s ≡ now → Contains s b → Contains now b
stack_waits a s now b is c = subst (λ (l : List Unread). Contains l b) is (right_in a s b c)

pub takes_first : (a a' s now : List Unread) (b : Unread) → a ++ s ≡ now → a ≡ a' ++ b ∷ [] → IsTaken now b (a' ++ s)
takes_first a a' s now b is e = subst (λ (l : List Unread). IsTaken l b (a' ++ s)) (sym (ap (λ (t : List Unread). t ++ s) e) ∙ is) (take_first a' s b)

pub takes_second : (a s s' now : List Unread) (b : Unread) → a ++ s ≡ now → s ≡ s' ++ b ∷ [] → IsTaken now b (a ++ s')
takes_second a s s' now b is e = subst (λ (l : List Unread). IsTaken l b (a ++ s')) (sym (ap (λ (t : List Unread). a ++ t) e) ∙ is) (take_second a s' b)
