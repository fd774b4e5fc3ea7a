-- Bases are sorted out one after another.
use Rattle.std.proofs.Common.{◌≡◌, ◌<◌, ◌+◌, ℕ, List, [], ◌∷◌, ◌++◌, length, take, get_or, eqb, false, refl, sym, ◌∙◌, subst, arith, inl, inr, ⊎_elim}
use Rattle.std.specs.Prelude.{Contains, nat_eq}
use Rattle.std.specs.List.{IsDistinct, AllByRecursion, list_any}
use Rattle.std.specs.Cmp.{nat_eq_equiv}
use Rattle.std.proofs.lemmas.Bool.{eq-eqb, ne_eqb, true≢false}
use Rattle.std.proofs.lemmas.List.Elements.{Contains-get_or, Contains-append_left, Contains-push, Contains-push_cases}
use Rattle.std.proofs.lemmas.List.{take_more}
use Rattle.std.proofs.lemmas.List.Folds.{list_any_none}
use Rattle.std.proofs.lemmas.Map.Keys.{IsDistinct-head, IsDistinct-tail, IsDistinct-cons, IsDistinct-push}
use Rattle.std.proofs.lemmas.Map.Made.{IsDistinct-from_count, Contains-tail}
use Rattle.heap_core.specs.CoreContents.{CoreContents}
use Rattle.kept_bases.specs.Sorting.{IsBase, SortsOne, SortsOut}

-- nothing is in an empty list
pub nothing_in : {A : Type 0} (x : A) → Contains [] x → ⊥
nothing_in x has = let lt = has.1 in omega arith

-- what is none of some numbers is found equal to none
pub none_equal : (xs : List ℕ) (b : ℕ) → (Contains xs b → ⊥) → list_any (eqb b) xs ≡ false
none_equal xs b out = list_any_none (eqb b) xs (λ k d lt. ne_eqb b (get_or xs k d) (λ same. out (subst (Contains xs) (sym same) (Contains-get_or xs k d lt))))

all_init : (P : ℕ → Type 0) (xs : List ℕ) (b : ℕ) → AllByRecursion P (xs ++ b ∷ []) → AllByRecursion P xs × P b
all_init P [] b a = (tt, a.0)
all_init P (x ∷ xs) b a = let r = all_init P xs b a.1 in ((a.0, r.0), r.1)

-- the last of distinct numbers is none of those before
distinct_init : (xs : List ℕ) (b : ℕ) → IsDistinct nat_eq (xs ++ b ∷ []) → IsDistinct nat_eq xs × (Contains xs b → ⊥)
distinct_init [] b d = (IsDistinct-from_count nat_eq_equiv [] refl, nothing_in b)
distinct_init (x ∷ xs) b d =
    let rest = distinct_init xs b (IsDistinct-tail nat_eq x (xs ++ b ∷ []) d) in
    let front = all_init (λ y. eqb x y ≡ false) xs b (IsDistinct-head nat_eq x (xs ++ b ∷ []) d) in
    let ne : x ≡ b → ⊥ = λ same. true≢false (sym (eq-eqb x b same) ∙ front.1) in
    (IsDistinct-cons nat_eq x xs front.0 rest.0, λ has. rest.1 (Contains-tail x xs b ne has))

module _ (c : CoreContents) (xs ys zs : List ℕ) (b : ℕ) (s : SortsOut c xs ys zs) where
  -- the next one stays
  one_stays : IsBase c b → SortsOut c (xs ++ b ∷ []) (ys ++ b ∷ []) zs
  one_stays is = record {
    stays = λ base has. ⊎_elim
        (λ old. let o = s.stays base old in (Contains-append_left xs (b ∷ []) base o.0, o.1))
        (λ same. (subst (Contains (xs ++ b ∷ [])) same (Contains-push xs b), subst (IsBase c) same is))
        (Contains-push_cases ys b base has);
    goes = λ base has. let o = s.goes base has in (Contains-append_left xs (b ∷ []) base o.0, o.1);
    each = λ base has. ⊎_elim
        (λ old. ⊎_elim (λ stay. inl (Contains-append_left ys (b ∷ []) base stay)) (λ gone. inr gone) (s.each base old))
        (λ same. inl (subst (Contains (ys ++ b ∷ [])) same (Contains-push ys b)))
        (Contains-push_cases xs b base has);
    distinct = λ d.
        let parts = distinct_init xs b d in
        let both = s.distinct parts.0 in
        (IsDistinct-push nat_eq_equiv ys b both.0 (none_equal ys b (λ has. parts.1 (s.stays b has).0)), both.1);
  }

  -- the next one is gone
  one_goes : (IsBase c b → ⊥) → SortsOut c (xs ++ b ∷ []) ys (zs ++ b ∷ [])
  one_goes not = record {
    stays = λ base has. let o = s.stays base has in (Contains-append_left xs (b ∷ []) base o.0, o.1);
    goes = λ base has. ⊎_elim
        (λ old. let o = s.goes base old in (Contains-append_left xs (b ∷ []) base o.0, o.1))
        (λ same. (subst (Contains (xs ++ b ∷ [])) same (Contains-push xs b), λ is. not (subst (IsBase c) (sym same) is)))
        (Contains-push_cases zs b base has);
    each = λ base has. ⊎_elim
        (λ old. ⊎_elim (λ stay. inl stay) (λ gone. inr (Contains-append_left zs (b ∷ []) base gone)) (s.each base old))
        (λ same. inr (subst (Contains (zs ++ b ∷ [])) same (Contains-push zs b)))
        (Contains-push_cases xs b base has);
    distinct = λ d.
        let parts = distinct_init xs b d in
        let both = s.distinct parts.0 in
        (both.0, IsDistinct-push nat_eq_equiv zs b both.1 (none_equal zs b (λ has. parts.1 (s.goes b has).0)));
  }

  pub sorts_more : (ys' zs' : List ℕ) → SortsOne c b ys zs ys' zs' → SortsOut c (xs ++ b ∷ []) ys' zs'
  sorts_more ys' zs' (SortsOne.stays is stay gone) = subst (λ l. SortsOut c (xs ++ b ∷ []) l zs') (sym stay) (subst (SortsOut c (xs ++ b ∷ []) (ys ++ b ∷ [])) (sym gone) (one_stays is))
  sorts_more ys' zs' (SortsOne.goes not stay gone) = subst (λ l. SortsOut c (xs ++ b ∷ []) l zs') (sym stay) (subst (SortsOut c (xs ++ b ∷ []) ys) (sym gone) (one_goes not))

-- one more of a list
pub sorts_take : (c : CoreContents) (l ys zs ys' zs' : List ℕ) (i d : ℕ) → i < length l → SortsOut c (take i l) ys zs → SortsOne c (get_or l i d) ys zs ys' zs' → SortsOut c (take (i + 1) l) ys' zs'
sorts_take c l ys zs ys' zs' i d lt s one = subst (λ k. SortsOut c k ys' zs') (sym (take_more l i d lt)) (sorts_more c (take i l) ys zs (get_or l i d) s ys' zs' one)
