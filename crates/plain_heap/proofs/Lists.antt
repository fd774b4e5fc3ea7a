-- A list of objects that grows: each object once, and all that some words point into.
use Rattle.std.proofs.Common.{◌≡◌, ℕ, ◌+◌, ◌<◌, ◌≤◌, Bool, true, false, List, [], ◌∷◌, ◌++◌, length, get_or, set, take, eqb, refl, sym, ap, ◌∙◌, subst, arith, append_assoc, ⊎_elim, get_or-set_same, get_or-set_other, length-set}
use Rattle.std.specs.Prelude.{All, Contains, ◌≢◌}
use Rattle.std.specs.List.{IsDistinct}
use Rattle.std.specs.Cmp.{nat_eq_equiv}
use Rattle.std.specs.Vec.{vec_capacity}
use Rattle.std.proofs.lemmas.Bool.{cases_eq, cases_lt, eqb-true, ne_eqb, true≢false}
use Rattle.std.proofs.lemmas.Option.{slice_get_within, get_or_from_slice_get}
use Rattle.std.proofs.lemmas.List.{append-nil, length_push, take_more, get_or_past}
use Rattle.std.proofs.lemmas.List.Elements.{Contains-get_or, Contains-push, Contains-push_cases, Contains-append_left, Contains-append_right, Contains-append_cases}
use Rattle.std.proofs.lemmas.List.Folds.{list_any_none, Any-from_list_any}
use Rattle.std.proofs.lemmas.Map.Keys.{IsDistinct-push}
use Rattle.std.proofs.lemmas.Map.Made.{IsDistinct-from_count}
use Rattle.std.proofs.lemmas.Map.Steps.{length-le_from_distinct_below}
use Rattle.heap_spec.specs.Layout.{PointsInto}
use Rattle.plain_heap.specs.declared.extent.Extent.{Extent}
use Rattle.plain_heap.specs.declared.listing.Listing.{Listing}
use Rattle.plain_heap.specs.Reached.{PointsIntoNth, AreApart}
use Rattle.plain_heap.specs.Listing.{HasListRoom, IsListOf, IsListing, ListGrows, ListsAll}

pub nothing_in : {A : Type 0} (x : A) → Contains [] x → ⊥
nothing_in x h = let lt = h.1 in omega arith

pub the_one : {A : Type 0} (w v : A) → Contains (w ∷ []) v → w ≡ v
the_one w v among = ⊎_elim (λ none. absurd (nothing_in v none)) (λ same. same) (Contains-push_cases [] w v among)

-- numbers below n, each once, are at most n
pub listed_few : (n : ℕ) (order : List ℕ) → IsDistinct eqb order → ((i : ℕ) → Contains order i → i < n) → length order ≤ n
listed_few n order distinct below = length-le_from_distinct_below order n distinct
    (λ q any. let a = Any-from_list_any (eqb q) order any in subst (λ x. x < n) (sym (eqb-true q a.1 a.4)) (below a.1 (a.0, a.2, a.3)))

-- the object that is next on a list is one of the row
pub listed_below : (row : List Extent) (l : Listing) (next index : ℕ) → IsListing row l → next < length l.order.items → index ≡ get_or l.order.items next index → index < length row
listed_below row l next index ready lt is = ready.listed.below index (next, lt, sym is)

-- an object more
module _ (n : ℕ) (order : List ℕ) (marks : List Bool) (h : IsListOf n order marks) (index : ℕ) (lt : index < n) (room : n ≤ length marks) (new : get_or marks index false ≡ false) where
  apart : (i : ℕ) → Contains order i → i ≢ index
  apart i has same = true≢false (sym (h.marked i has) ∙ ap (λ k. get_or marks k false) same ∙ new)

  pub listed_more : IsListOf n (order ++ index ∷ []) (set marks index true)
  listed_more = record {
    below = λ i has. ⊎_elim (λ old. h.below i old) (λ same. subst (λ k. k < n) same lt) (Contains-push_cases order index i has);
    distinct = IsDistinct-push nat_eq_equiv order index h.distinct
        (list_any_none (eqb index) order (λ k d short. ne_eqb index (get_or order k d) (λ same. apart (get_or order k d) (Contains-get_or order k d short) (sym same))));
    marked = λ i has. ⊎_elim
        (λ old. get_or-set_other marks index i true false (apart i old) ∙ h.marked i old)
        (λ same. ap (λ k. get_or (set marks index true) k false) (sym same) ∙ get_or-set_same marks index true false (omega arith))
        (Contains-push_cases order index i has);
    only = λ i is. ⊎_elim
        (λ same. subst (Contains (order ++ index ∷ [])) (sym same) (Contains-push order index))
        (λ ne. Contains-append_left order (index ∷ []) i (h.only i (sym (get_or-set_other marks index i true false ne) ∙ is)))
        (cases_eq i index);
  }

  pub listed_room : length order < n
  listed_room = let m = listed_more in let few : length (order ++ index ∷ []) ≤ n = listed_few n (order ++ index ∷ []) m.distinct m.below in let l : length (order ++ index ∷ []) ≡ length order + 1 = length_push order index in omega arith

module _ (row : List Extent) where
  -- no word, and words one after another
  pub goes_none : (order : List ℕ) → ListGrows row [] order order
  goes_none order = record { more = []; goes_on = sym (append-nil order); only = λ i has. absurd (nothing_in i has); all = λ w i among p. absurd (nothing_in w among) }

  pub goes_more : (words later a b c : List ℕ) → ListGrows row words a b → ListGrows row later b c → ListGrows row (words ++ later) a c
  goes_more words later a b c x y = record {
    more = x.more ++ y.more;
    goes_on = y.goes_on ∙ ap (λ l. l ++ y.more) x.goes_on ∙ append_assoc a x.more y.more;
    only = λ i has. ⊎_elim
        (λ old. let o = x.only i old in (o.0, Contains-append_left words later o.0 o.1, o.2))
        (λ new. let o = y.only i new in (o.0, Contains-append_right words later o.0 o.1, o.2))
        (Contains-append_cases x.more y.more i has);
    all = λ w i among p. ⊎_elim
        (λ first. subst (λ l. Contains l i) (sym y.goes_on) (Contains-append_left b y.more i (x.all w i first p)))
        (λ second. y.all w i second p)
        (Contains-append_cases words later w among);
  }

  pub lists_none : (l : Listing) → IsListing row l → ListsAll row [] l l
  lists_none l ready = record { ready = ready; goes = goes_none l.order.items; room = record { marks = refl; order = omega arith } }

  pub lists_more : (words later : List ℕ) (a b c : Listing) → ListsAll row words a b → ListsAll row later b c → ListsAll row (words ++ later) a c
  lists_more words later a b c x y = record {
    ready = y.ready;
    goes = goes_more words later a.order.items b.order.items c.order.items x.goes y.goes;
    room = record { marks = y.room.marks ∙ x.room.marks; order = let before = x.room.order in let after = y.room.order in omega arith };
  }

  -- a word that points into nothing, or into what is listed
  lists_same : (w : ℕ) (l : Listing) → IsListing row l → ((i : ℕ) → PointsIntoNth row w i → Contains l.order.items i) → ListsAll row (w ∷ []) l l
  lists_same w l ready has = record {
    ready = ready;
    goes = record {
      more = [];
      goes_on = sym (append-nil l.order.items);
      only = λ i none. absurd (nothing_in i none);
      all = λ v i among p. has i (subst (λ x. PointsIntoNth row x i) (sym (the_one w v among)) p);
    };
    room = record { marks = refl; order = omega arith };
  }

  pub lists_listed : (w index : ℕ) (l : Listing) → IsListing row l → PointsIntoNth row w index → get_or l.marks.items index false ≡ true → ListsAll row (w ∷ []) l l
  lists_listed w index l ready here is = lists_same w l ready (λ i p. ready.listed.only i (ap (λ k. get_or l.marks.items k false) (ready.apart.one w i index p here) ∙ is))

  -- a word that points into nothing
  pub lists_nothing : (w : ℕ) (l : Listing) → IsListing row l → All (λ (e : Extent). PointsInto w e.base e.length → ⊥) row → ListsAll row (w ∷ []) l l
  lists_nothing w l ready none = lists_same w l ready
      (λ i p. absurd (none i p.0 (slice_get_within row i p.0 p.1) (subst (λ (x : Extent). PointsInto w x.base x.length) (sym (get_or_from_slice_get row i p.0 p.0 p.1)) p.2)))

  -- a word that points into what is not listed
  pub lists_new : (w index : ℕ) (l l' : Listing) → IsListing row l → PointsIntoNth row w index → get_or l.marks.items index false ≡ false → l'.marks.items ≡ set l.marks.items index true → l'.order.items ≡ l.order.items ++ index ∷ []
      → vec_capacity l.order ≤ vec_capacity l'.order → ListsAll row (w ∷ []) l l'
  lists_new w index l l' ready here new marks order same = record {
    ready = record {
      apart = ready.apart;
      room = record { marks = let room = ready.room.marks in let size = long in omega arith; order = let room = ready.room.order in omega arith };
      listed = subst (λ o. IsListOf (length row) o l'.marks.items) (sym order) (subst (IsListOf (length row) (l.order.items ++ index ∷ [])) (sym marks)
          (listed_more (length row) l.order.items l.marks.items ready.listed index (slice_get_within row index here.0 here.1) ready.room.marks new));
    };
    goes = record {
      more = index ∷ [];
      goes_on = order;
      only = λ i has. (w, Contains-push [] w, subst (PointsIntoNth row w) (the_one index i has) here);
      all = λ v i among p.
          let same : i ≡ index = ready.apart.one w i index (subst (λ x. PointsIntoNth row x i) (sym (the_one w v among)) p) here in
          subst (λ o. Contains o i) (sym order) (subst (Contains (l.order.items ++ index ∷ [])) (sym same) (Contains-push l.order.items index));
    };
    room = record { marks = long; order = same };
  }
    where
      long : length l'.marks.items ≡ length l.marks.items
      long = ap length marks ∙ length-set l.marks.items index true

  -- one word more of a row of words
  pub lists_take : (words : List ℕ) (a b c : Listing) (i d : ℕ) → i < length words → ListsAll row (take i words) a b → ListsAll row (get_or words i d ∷ []) b c → ListsAll row (take (i + 1) words) a c
  lists_take words a b c i d lt x y = subst (λ ws. ListsAll row ws a c) (sym (take_more words i d lt)) (lists_more (take i words) (get_or words i d ∷ []) a b c x y)

-- bits that are unset are unset past their end too
pub none_set : (bits : List Bool) → ((k : ℕ) → k < length bits → get_or bits k false ≡ false) → (k : ℕ) → get_or bits k false ≡ false
none_set bits unset k = ⊎_elim (λ lt. unset k lt) (λ past. get_or_past bits k false past) (cases_lt k (length bits))

-- an empty list
pub nothing_listed : (row : List Extent) (l : Listing) → AreApart row → HasListRoom (length row) l → l.order.items ≡ [] → ((k : ℕ) → k < length l.marks.items → get_or l.marks.items k false ≡ false) → IsListing row l
nothing_listed row l apart room none clear = record {
  apart = apart;
  room = room;
  listed = subst (λ o. IsListOf (length row) o l.marks.items) (sym none) (record {
    below = λ i has. absurd (nothing_in i has);
    distinct = IsDistinct-from_count nat_eq_equiv [] refl;
    marked = λ i has. absurd (nothing_in i has);
    only = λ i is. absurd (true≢false (sym is ∙ none_set l.marks.items clear i));
  });
}
