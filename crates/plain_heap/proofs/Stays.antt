-- A row of objects is gone along, and those whose flag is set are moved to its front.
use Rattle.std.proofs.Common.{◌≡◌, ℕ, ◌+◌, ◌<◌, ◌≤◌, Bool, true, false, List, [], ◌∷◌, ◌++◌, length, get_or, set, take, sym, ap, ◌∙◌, subst, arith, append_assoc, ⊎_elim, get_or-set_other, length-set}
use Rattle.std.specs.Prelude.{Some, Contains, IsPermutation, slice_get}
use Rattle.std.proofs.lemmas.Option.{slice_get-get_or}
use Rattle.std.proofs.lemmas.List.{take_all, take_more, take_more_set, length_push, get_or_default, get_or-take, length-take-le}
use Rattle.std.proofs.lemmas.List.Elements.{Contains-push_cases, Contains-append_right}
use Rattle.std.proofs.lemmas.List.Sorted.{IsPermutation-trans, IsPermutation-append_comm, IsPermutation-append_left, IsPermutation-append_right, IsPermutation-sym, Contains-permutation}
use Rattle.words.specs.declared.class.Kind.TheVariants.{Normal}
use Rattle.plain_heap.specs.declared.extent.Extent.{Extent}
use Rattle.plain_heap.specs.Parting.{HasFlag, Parts}
use Rattle.plain_heap.specs.Reached.{AreApart}
use Rattle.plain_heap.proofs.InDirectory.{apart_pushed}

-- The first objects of the old row were looked at; those that stay are now the first of the new one.
pub record IsKept (old : List Extent) (flags : List Bool) (index stay : ℕ) (row : List Extent) : Type 0 where
  pub gone : List Extent
  pub size : length row ≡ length old
  pub all : IsPermutation (take index old) (gone ++ take stay row)
  pub number : length gone + stay ≡ index
  pub rest : (j : ℕ) (d : Extent) → index ≤ j → get_or row j d ≡ get_or old j d
  pub set : (e : Extent) → Contains (take stay row) e → HasFlag old flags true e
  pub unset : (e : Extent) → Contains gone e → HasFlag old flags false e

module _ (old : List Extent) (flags : List Bool) where
  module _ (index stay : ℕ) (row : List Extent) (x : Extent) (h : IsKept old flags index stay row) (lt : index < length old) (is : x ≡ get_or row index x) where
    was : x ≡ get_or old index x
    was = is ∙ h.rest index x (omega arith)

    there : slice_get old index ≡ Some x
    there = slice_get-get_or old index x lt ∙ ap Some (sym was)

    next : take (index + 1) old ≡ take index old ++ x ∷ []
    next = take_more old index x lt ∙ ap (λ y. take index old ++ y ∷ []) (sym was)

    front : take (stay + 1) (set row stay x) ≡ take stay row ++ x ∷ []
    front = take_more_set row stay x (let n = h.number in let size = h.size in omega arith)

    -- where all are apart, so are those that stay
    pub kept_apart : AreApart old → AreApart (take stay row) → AreApart (take (stay + 1) (set row stay x))
    kept_apart apart before = subst AreApart (sym front) (apart_pushed (take stay row) before x
        (λ f w has reads rf.
        let earlier : Contains (take index old) f = Contains-permutation (h.gone ++ take stay row) (take index old) f (IsPermutation-sym (take index old) (h.gone ++ take stay row) h.all) (Contains-append_right h.gone (take stay row) f has) in
        let short : length (take index old) ≡ index = length-take-le index old (omega arith) in
        let within = earlier.1 in
        let less : earlier.0 < index = omega arith in
        let at : slice_get old earlier.0 ≡ Some f = slice_get-get_or old earlier.0 f (omega arith) ∙ ap Some (sym (get_or-take index old earlier.0 f less) ∙ earlier.2) in
        let same : earlier.0 ≡ index = apart.one w earlier.0 index (f, at, rf) (x, there, reads) in
        omega arith))

    pub kept_stays : get_or flags index false ≡ true → IsKept old flags (index + 1) (stay + 1) (set row stay x)
    kept_stays flag = record {
      gone = h.gone;
      size = length-set row stay x ∙ h.size;
      all = subst (λ l. IsPermutation l (h.gone ++ take (stay + 1) (set row stay x))) (sym next)
          (subst (IsPermutation (take index old ++ x ∷ [])) (append_assoc h.gone (take stay row) (x ∷ []) ∙ ap (λ l. h.gone ++ l) (sym front)) (IsPermutation-append_left (x ∷ []) (take index old) (h.gone ++ take stay row) h.all));
      number = let n = h.number in omega arith;
      rest = λ j d from. let n = h.number in get_or-set_other row stay j x d (λ same. omega (arith, same)) ∙ h.rest j d (omega arith);
      set = λ e has. ⊎_elim (λ before. h.set e before) (λ same. subst (HasFlag old flags true) same (index, there, flag)) (Contains-push_cases (take stay row) x e (subst (λ l. Contains l e) front has));
      unset = h.unset;
    }

    pub kept_goes : get_or flags index false ≡ false → IsKept old flags (index + 1) stay row
    kept_goes flag = record {
      gone = h.gone ++ x ∷ [];
      size = h.size;
      all = subst (λ l. IsPermutation l ((h.gone ++ x ∷ []) ++ take stay row)) (sym next)
          (subst (IsPermutation (take index old ++ x ∷ [])) (sym (append_assoc h.gone (x ∷ []) (take stay row)))
          (IsPermutation-trans (take index old ++ x ∷ []) (h.gone ++ (take stay row ++ x ∷ [])) (h.gone ++ (x ∷ [] ++ take stay row))
          (subst (IsPermutation (take index old ++ x ∷ [])) (append_assoc h.gone (take stay row) (x ∷ [])) (IsPermutation-append_left (x ∷ []) (take index old) (h.gone ++ take stay row) h.all))
          (IsPermutation-append_right h.gone (take stay row ++ x ∷ []) (x ∷ [] ++ take stay row) (IsPermutation-append_comm (take stay row) (x ∷ [])))));
      number = let l : length (h.gone ++ x ∷ []) ≡ length h.gone + 1 = length_push h.gone x in let n = h.number in omega arith;
      rest = λ j d from. h.rest j d (omega arith);
      set = h.set;
      unset = λ e has. ⊎_elim (λ before. h.unset e before) (λ same. subst (HasFlag old flags false) same (index, there, flag)) (Contains-push_cases h.gone x e has);
    }

  pub kept_passes : (index stay : ℕ) (row : List Extent) (h : IsKept old flags index stay row) (lt : index < length old) → get_or flags index false ≡ false → IsKept old flags (index + 1) stay row
  kept_passes index stay row h lt flag =
      let d : Extent = record { base = 0; kind = Normal; length = 0 } in
      kept_goes index stay row (get_or row index d) h lt (get_or_default row index d (get_or row index d) (let size = h.size in omega arith)) flag

  pub kept_counts : (index stay : ℕ) (row : List Extent) (h : IsKept old flags index stay row) (lt : index < length old) → get_or flags index false ≡ true → (row' : List Extent) × IsKept old flags (index + 1) (stay + 1) row'
  kept_counts index stay row h lt flag =
      let d : Extent = record { base = 0; kind = Normal; length = 0 } in
      (set row stay (get_or row index d), kept_stays index stay row (get_or row index d) h lt (get_or_default row index d (get_or row index d) (let size = h.size in omega arith)) flag)

  -- all were looked at
  pub kept_all : (index stay count : ℕ) (row : List Extent) → length old ≤ index → index ≡ count → IsKept old flags index stay row → (n : ℕ) → n + stay ≡ count → Parts old flags (take stay row) n
  kept_all index stay count row past is h n left = record {
    gone = h.gone;
    all = subst (λ l. IsPermutation l (h.gone ++ take stay row)) (take_all index old past) h.all;
    number = let m = h.number in omega arith;
    set = h.set;
    unset = h.unset;
  }
