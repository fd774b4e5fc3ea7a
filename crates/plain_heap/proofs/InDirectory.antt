-- What is true of every directory, and that it stays so where an object comes or goes.
use Rattle.std.proofs.Common.{◌≡◌, ◌⊎◌, ℕ, ◌+◌, ◌-◌, ◌%◌, ◌<◌, ◌≤◌, Bool, List, [], ◌∷◌, ◌++◌, length, length-append, get_or, get_or-set_other, get_or-set_same, refl, sym, ap, ◌∙◌, subst, arith, inl, inr, ⊎_elim}
use Rattle.std.specs.Prelude.{Some, All, Contains, slice_get, slice_set}
use Rattle.std.specs.List.{swap_remove}
use Rattle.std.proofs.lemmas.Bool.{cases_eq, cases_lt}
use Rattle.std.proofs.lemmas.List.{get_or_append_left, get_or_push, get_or-take, length-take, length_push}
use Rattle.std.proofs.lemmas.List.Elements.{All-contains, Contains-get_or, Contains-append_right}
use Rattle.std.proofs.lemmas.List.Sorted.{Contains-permutation, IsPermutation-sym, length_permutation}
use Rattle.std.proofs.lemmas.Option.{slice_get_within, slice_get-get_or, get_or_from_slice_get}
use Rattle.words.specs.declared.limits.TheConstants.{WORD_BYTES}
use Rattle.heap_spec.specs.Layout.{PointsInto}
use Rattle.plain_heap.specs.declared.extent.Extent.{Extent}
use Rattle.plain_heap.specs.declared.directory.Directory.{Directory}
use Rattle.plain_heap.proofs.Claiming.{HasOneEach}
use Rattle.plain_heap.specs.Reached.{PointsIntoNth, AreApart}
use Rattle.plain_heap.specs.Parting.{Parts}
use Rattle.plain_heap.specs.Standing.{LiesIn}
use Rattle.plain_heap.proofs.Leaving.{lie_same}

module _ (d : Directory) where
  -- objects begin at words, with some
  pub evens : All (λ e. e.base % WORD_BYTES ≡ 0) d.objects.items
  evens k x lt = let l : LiesIn d.origin d.owners.items (get_or d.objects.items k x) = d.lie k x lt in let start = l.start in let whole = l.aligned in let first = d.starts in omega arith

  -- no word points into two, and no base is that of two
  pub apart_of : AreApart d.objects.items
  apart_of = record { one = λ w i j p q. sym (d.owned.owned w i p) ∙ d.owned.owned w j q }

  pub one_of : HasOneEach d.objects.items
  one_of = record {
    one = λ i j e f at at' same. apart_of.one e.base i j (e, at, points i e at e.base refl) (f, at', points j f at' e.base same);
  }
    where
      points : (i : ℕ) (e : Extent) → slice_get d.objects.items i ≡ Some e → (w : ℕ) → w ≡ e.base → PointsInto w e.base e.length
      points i e at w is = let some : 0 < e.length = subst (λ (x : Extent). 0 < x.length) (get_or_from_slice_get d.objects.items i e e at) (d.owned.some i e (slice_get_within d.objects.items i e at)) in (omega arith, omega arith)

  -- they lie in a row of as many words as the heap has
  pub lie_of : (words : List ℕ) → length words ≡ length d.owners.items → All (LiesIn d.origin words) d.objects.items
  lie_of words size = lie_same d.origin d.owners.items words d.objects.items size d.lie

  pub lies_at : (words : List ℕ) → length words ≡ length d.owners.items → (i : ℕ) (e : Extent) → slice_get d.objects.items i ≡ Some e → LiesIn d.origin words e
  lies_at words size i e at = subst (LiesIn d.origin words) (get_or_from_slice_get d.objects.items i e e at) (lie_of words size i e (slice_get_within d.objects.items i e at))

module _ (row : List Extent) (apart : AreApart row) where
  -- an object more, which shares no word with those that are there
  module _ (e : Extent) (fresh : (f : Extent) (w : ℕ) → Contains row f → PointsInto w e.base e.length → PointsInto w f.base f.length → ⊥) where
    among : (w i : ℕ) → PointsIntoNth (row ++ e ∷ []) w i → PointsIntoNth row w i ⊎ ((i ≡ length row) × PointsInto w e.base e.length)
    among w i p =
        let within : i < length (row ++ e ∷ []) = slice_get_within (row ++ e ∷ []) i p.0 p.1 in
        let long : length (row ++ e ∷ []) ≡ length row + 1 = length_push row e in
        let is : get_or (row ++ e ∷ []) i p.0 ≡ p.0 = get_or_from_slice_get (row ++ e ∷ []) i p.0 p.0 p.1 in
        ⊎_elim
        (λ before. inl (p.0, slice_get-get_or row i p.0 before ∙ ap Some (sym (get_or_append_left row (e ∷ []) p.0 i before) ∙ is), p.2))
        (λ past. let last : i ≡ length row = omega arith in inr (last, subst (λ (x : Extent). PointsInto w x.base x.length) (sym is ∙ get_or_push row e p.0 i (sym last)) p.2))
        (cases_lt i (length row))

    shares : (w i : ℕ) → PointsIntoNth row w i → PointsInto w e.base e.length → ⊥
    shares w i p here = fresh p.0 w (i, slice_get_within row i p.0 p.1, get_or_from_slice_get row i p.0 p.0 p.1) here p.2

    pub apart_pushed : AreApart (row ++ e ∷ [])
    apart_pushed = record {
      one = λ w i j p q. ⊎_elim
          (λ old. ⊎_elim (λ also. apart.one w i j old also) (λ new. absurd (shares w i old new.1)) (among w j q))
          (λ new. ⊎_elim (λ old. absurd (shares w j old new.1)) (λ also. new.0 ∙ sym also.0) (among w j q))
          (among w i p);
    }

  -- one goes, and the last one comes to its place
  module _ (index : ℕ) (e : Extent) (lt : index < length row) where
    -- where an object was before
    was : (i : ℕ) (f : Extent) → slice_get (swap_remove row index e) i ≡ Some f → (k : ℕ) × (slice_get row k ≡ Some f) × ((i ≡ index) × (k ≡ length row - 1) ⊎ (k ≡ i)) × (i < length row - 1)
    was i f at =
        let short : length (swap_remove row index e) ≤ length row - 1 = rw length-take (omega arith) in
        let within = slice_get_within (swap_remove row index e) i f at in
        let less : i < length row - 1 = omega arith in
        let last : Extent = get_or row (length row - 1) e in
        let is : get_or (slice_set row index last) i f ≡ f = sym (get_or-take (length row - 1) (slice_set row index last) i f less) ∙ get_or_from_slice_get (swap_remove row index e) i f f at in
        ⊎_elim
        (λ same. (length row - 1, slice_get-get_or row (length row - 1) e (omega arith) ∙ ap Some (sym (ap (λ k. get_or (slice_set row index last) k f) same ∙ get_or-set_same row index last f lt) ∙ is), inl (same, refl), less))
        (λ ne. (i, slice_get-get_or row i f (omega arith) ∙ ap Some (sym (get_or-set_other row index i last f ne) ∙ is), inr refl, less))
        (cases_eq i index)

    pub apart_removed : AreApart (swap_remove row index e)
    apart_removed = record {
      one = λ w i j p q.
          let x = was i p.0 p.1 in
          let y = was j q.0 q.1 in
          let same : x.0 ≡ y.0 = apart.one w x.0 y.0 (p.0, x.1, p.2) (q.0, y.1, q.2) in
          let i_less : i < length row - 1 = x.3 in
          let j_less : j < length row - 1 = y.3 in
          ⊎_elim
          (λ moved. ⊎_elim (λ also. moved.0 ∙ sym also.0) (λ kept. let to : x.0 ≡ length row - 1 = moved.1 in absurd (omega arith)) y.2)
          (λ kept. ⊎_elim (λ moved. let to : y.0 ≡ length row - 1 = moved.1 in absurd (omega arith)) (λ also. let here : x.0 ≡ i = kept in let there : y.0 ≡ j = also in omega arith) y.2)
          x.2;
    }

    -- what is so of all is so of those that are left
    pub all_removed : (P : Extent → Type 0) → All P row → All P (swap_remove row index e)
    all_removed P all k d less =
        let x = was k (get_or (swap_remove row index e) k d) (slice_get-get_or (swap_remove row index e) k d less) in
        subst P (get_or_from_slice_get row x.0 _ d x.1) (all x.0 d (slice_get_within row x.0 _ x.1))

-- what is so of all is so of those that stay, and they are no more
module _ (old : List Extent) (flags : List Bool) (stay : List Extent) (count : ℕ) (parts : Parts old flags stay count) where
  pub all_parted : (P : Extent → Type 0) → All P old → All P stay
  all_parted P all k d lt = All-contains P old (get_or stay k d) all (in_old (Contains-get_or stay k d lt))
    where
      in_old : Contains stay (get_or stay k d) → Contains old (get_or stay k d)
      in_old has = Contains-permutation (parts.gone ++ stay) old (get_or stay k d) (IsPermutation-sym old (parts.gone ++ stay) parts.all) (Contains-append_right parts.gone stay (get_or stay k d) has)

  pub fewer_parted : length stay ≤ length old
  fewer_parted = let same : length (parts.gone ++ stay) ≡ length old = length_permutation old (parts.gone ++ stay) parts.all in let both = length-append parts.gone stay in omega arith
