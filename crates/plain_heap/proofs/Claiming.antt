-- The flags of the objects with some bases are unset, one after another.
use Rattle.std.proofs.Common.{◌≡◌, ℕ, zero, suc, ◌<◌, Bool, false, List, [], ◌∷◌, ◌++◌, length, get_or, set, eqb, sym, ap, ◌∙◌, subst, arith, ⊎_elim, get_or-set_same, get_or-set_other, length-set}
use Rattle.std.specs.Prelude.{Some, All, Contains, slice_get, nat_eq, ◌≢◌}
use Rattle.std.specs.List.{IsDistinct, AllByRecursion}
use Rattle.std.proofs.lemmas.Bool.{cases_eq}
use Rattle.std.proofs.lemmas.Option.{same_Some, slice_get_within, get_or_from_slice_get}
use Rattle.std.proofs.lemmas.List.Elements.{All-contains, Contains-push, Contains-push_cases, Contains-append_left}
use Rattle.std.proofs.lemmas.Map.Keys.{IsDistinct-head, IsDistinct-tail}
use Rattle.plain_heap.specs.declared.extent.Extent.{Extent}
use Rattle.plain_heap.specs.Claims.{AreUnset}
use Rattle.plain_heap.proofs.Free.{differ}

-- No base is that of two objects.
pub record HasOneEach (row : List Extent) : Type 0 where
  pub one : (i j : ℕ) (e f : Extent) → slice_get row i ≡ Some e → slice_get row j ≡ Some f → e.base ≡ f.base → i ≡ j

-- a number of a list with no two equal is not among those before it
none_later : (q : ℕ) (xs : List ℕ) → AllByRecursion (λ y. eqb q y ≡ false) xs → (k : ℕ) → k < length xs → get_or xs k q ≢ q
none_later q [] all k lt = absurd (omega arith)
none_later q (x ∷ xs) all zero lt = λ same. differ q x all.0 (sym same)
none_later q (x ∷ xs) all (suc k) lt = none_later q xs all.1 k (omega arith)

pub none_before : (xs : List ℕ) → IsDistinct nat_eq xs → (k x : ℕ) → k < length xs → get_or xs k x ≡ x → (j : ℕ) → j < k → get_or xs j x ≢ x
none_before [] d k x lt is j less = absurd (omega arith)
none_before (y ∷ xs) d zero x lt is j less = absurd (omega arith)
none_before (y ∷ xs) d (suc k) x lt is zero less =
    λ same. none_later y xs (IsDistinct-head nat_eq y xs d) k (omega arith) (ap (get_or xs k) same ∙ is ∙ sym same)
none_before (y ∷ xs) d (suc k) x lt is (suc j) less = none_before xs (IsDistinct-tail nat_eq y xs d) k x (omega arith) is j (omega arith)

-- the flag of one object more is unset
module _ (row : List Extent) (one : HasOneEach row) (bases : List ℕ) (flags : List Bool) (unset : AreUnset row bases flags) where
  module _ (index base : ℕ) (e : Extent) (at : slice_get row index ≡ Some e) (is : e.base ≡ base) where
    pub unset_more : AreUnset row (bases ++ base ∷ []) (set flags index false)
    unset_more = record {
      size = let size = unset.size in let same : length (set flags index false) ≡ length flags = length-set flags index false in omega arith;
      unset = λ i f there among. ⊎_elim
          (λ same. ap (λ k. get_or (set flags index false) k false) same ∙ get_or-set_same flags index false false short)
          (λ ne. get_or-set_other flags index i false false ne ∙ unset.unset i f there (⊎_elim
          (λ before. before)
          (λ last. absurd (ne (one.one i index f e there at (sym last ∙ sym is))))
          (Contains-push_cases bases base f.base among)))
          (cases_eq i index);
      only = λ i f there flag. ⊎_elim
          (λ same. subst (Contains (bases ++ base ∷ [])) (sym is ∙ ap (λ (x : Extent). x.base) (same_Some e f (sym at ∙ ap (slice_get row) (sym same) ∙ there))) (Contains-push bases base))
          (λ ne. Contains-append_left bases (base ∷ []) f.base (unset.only i f there (sym (get_or-set_other flags index i false false ne) ∙ flag)))
          (cases_eq i index);
    }
      where
        short : index < length flags
        short = let size = unset.size in let lt : index < length row = slice_get_within row index e at in omega arith

  -- and none where no object has the base
  pub unset_past : (base : ℕ) → All (λ (e : Extent). e.base ≡ base → ⊥) row → AreUnset row (bases ++ base ∷ []) flags
  unset_past base none = record {
    size = unset.size;
    unset = λ i f there among. ⊎_elim
        (λ before. unset.unset i f there before)
        (λ last. absurd (All-contains (λ (e : Extent). e.base ≡ base → ⊥) row f none (i, slice_get_within row i f there, get_or_from_slice_get row i f f there) (sym last)))
        (Contains-push_cases bases base f.base among);
    only = λ i f there flag. Contains-append_left bases (base ∷ []) f.base (unset.only i f there flag);
  }
