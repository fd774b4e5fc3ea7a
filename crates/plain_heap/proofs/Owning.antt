-- Each word of an object has the place of that object, written down one object after another.
use Rattle.std.proofs.Common.{◌≡◌, ℕ, ◌+◌, ◌-◌, ◌<◌, ◌≤◌, ◌⊎◌, List, [], ◌∷◌, ◌++◌, length, get_or, sym, ap, ◌∙◌, subst, arith, inl, inr, ⊎_elim, get_or-set_other}
use Rattle.std.specs.Prelude.{Some, All, slice_get, slice_set}
use Rattle.std.specs.List.{swap_remove}
use Rattle.std.proofs.lemmas.Bool.{cases_eq, cases_lt}
use Rattle.std.proofs.lemmas.List.{get_or_append_left, get_or-take, length-take, length_push}
use Rattle.std.proofs.lemmas.List.Elements.{All-nil}
use Rattle.std.proofs.lemmas.Option.{same_Some, none-some, slice_get_within, get_or_from_slice_get, slice_get-get_or}
use Rattle.heap_spec.specs.Layout.{PointsInto}
use Rattle.links.specs.Leaving.{word_index}
use Rattle.plain_heap.specs.declared.extent.Extent.{Extent}
use Rattle.plain_heap.specs.Standing.{LiesIn}
use Rattle.plain_heap.specs.Reached.{PointsIntoNth, AreApart}
use Rattle.plain_heap.specs.Owners.{AreOwners, AreOwnersBut}

-- the object at a place of the row lies in it
pub lies_at : (origin : ℕ) (row : List Extent) (words : List ℕ) → All (LiesIn origin words) row → (i : ℕ) (e : Extent) → slice_get row i ≡ Some e → LiesIn origin words e
lies_at origin row words all i e at = subst (LiesIn origin words) (get_or_from_slice_get row i e e at) (all i e (slice_get_within row i e at))

-- an address of an object, by its place
placed_in : (origin : ℕ) (words : List ℕ) (e : Extent) (w : ℕ) → LiesIn origin words e → PointsInto w e.base e.length → (origin ≤ w) × (word_index origin e.base ≤ word_index origin w) × (word_index origin w < word_index origin e.base + e.length)
placed_in origin words e w lies reads =
    let s = lies.start in let a = lies.aligned in (omega (arith, reads.0), omega (arith, reads.0), omega (arith, reads.0, reads.1))

reads_in : (origin : ℕ) (words : List ℕ) (e : Extent) (w : ℕ) → LiesIn origin words e → origin ≤ w → word_index origin e.base ≤ word_index origin w → word_index origin w < word_index origin e.base + e.length → PointsInto w e.base e.length
reads_in origin words e w lies low from until = let s = lies.start in let a = lies.aligned in (omega arith, omega arith)

-- So far each word of one of the first objects has that object's place.
pub record OwnSoFar (origin : ℕ) (row : List Extent) (count : ℕ) (owners : List ℕ) : Type 0 where
  pub owned : (w i : ℕ) → i < count → PointsIntoNth row w i → get_or owners (word_index origin w) 0 ≡ i

module _ (origin : ℕ) (row : List Extent) (apart : AreApart row) (words : List ℕ) (lie : All (LiesIn origin words) row) where
  pub own_none : (owners : List ℕ) → OwnSoFar origin row 0 owners
  own_none owners = record { owned = λ w i few p. absurd (omega (arith, few)) }

  -- the words of the object at a place, and all others
  module _ (n : ℕ) (e : Extent) (start : ℕ) (at : slice_get row n ≡ Some e) (begins : start ≡ word_index origin e.base) where
    lies : LiesIn origin words e
    lies = lies_at origin row words lie n e at

    inside : (w i : ℕ) → i ≡ n → PointsIntoNth row w i → (start ≤ word_index origin w) × (word_index origin w < start + e.length)
    inside w i same p =
        let is : p.0 ≡ e = same_Some p.0 e (sym p.1 ∙ ap (slice_get row) same ∙ at) in
        let in_it = placed_in origin words e w lies (subst (λ (x : Extent). PointsInto w x.base x.length) is p.2) in
        (let b = begins in omega (arith, in_it.1), let b = begins in omega (arith, in_it.2))

    outside : (w i : ℕ) → (i ≡ n → ⊥) → PointsIntoNth row w i → (word_index origin w < start) ⊎ (start + e.length ≤ word_index origin w)
    outside w i ne p =
        let low = (placed_in origin words p.0 w (lies_at origin row words lie i p.0 p.1) p.2).0 in
        ⊎_elim (λ under. inl under)
        (λ from. ⊎_elim
        (λ within. absurd (ne (apart.one w i n p (e, at, reads_in origin words e w lies low (let b = begins in omega (arith, from)) (let b = begins in omega (arith, within))))))
        (λ past. inr past)
        (cases_lt (word_index origin w) (start + e.length)))
        (cases_lt (word_index origin w) start)

    -- once they are written down
    pub own_more : (old new : List ℕ) → OwnSoFar origin row n old
        → ((k : ℕ) → start ≤ k → k < start + e.length → get_or new k 0 ≡ n)
        → ((k : ℕ) → (k < start) ⊎ (start + e.length ≤ k) → get_or new k 0 ≡ get_or old k 0)
        → OwnSoFar origin row (n + 1) new
    own_more old new before filled others = record {
      owned = λ w i few p. ⊎_elim
          (λ same. let here = inside w i same p in filled (word_index origin w) here.0 here.1 ∙ sym same)
          (λ ne. others (word_index origin w) (outside w i ne p) ∙ before.owned w i (omega arith) p)
          (cases_eq i n);
    }

    pub own_last : (old new : List ℕ) → AreOwnersBut origin n row old
        → ((k : ℕ) → start ≤ k → k < start + e.length → get_or new k 0 ≡ n)
        → ((k : ℕ) → (k < start) ⊎ (start + e.length ≤ k) → get_or new k 0 ≡ get_or old k 0)
        → OwnSoFar origin row (length row) new
    own_last old new before filled others = record {
      owned = λ w i few p. ⊎_elim
          (λ same. let here = inside w i same p in filled (word_index origin w) here.0 here.1 ∙ sym same)
          (λ ne. others (word_index origin w) (outside w i ne p) ∙ before.owned w i ne p)
          (cases_eq i n);
    }

  -- none is left
  pub own_past : (n : ℕ) (owners : List ℕ) → length row ≤ n → AreOwnersBut origin n row owners → OwnSoFar origin row (length row) owners
  own_past n owners past but = record { owned = λ w i few p. but.owned w i (λ same. absurd (omega arith)) p }

  -- all have theirs
  pub own_all : (n : ℕ) (owners : List ℕ) → length row ≤ n → length owners ≡ length words → OwnSoFar origin row n owners → AreOwners origin row owners
  own_all n owners past long so_far = record {
    some = λ k d lt. (lie k d lt).some;
    start = λ w i p. (placed_in origin words p.0 w (lies_at origin row words lie i p.0 p.1) p.2).0;
    within = λ w i p. let lies = lies_at origin row words lie i p.0 p.1 in let in_it = placed_in origin words p.0 w lies p.2 in let ends = lies.ends in omega (arith, in_it.2);
    owned = λ w i p. so_far.owned w i (let lt = slice_get_within row i p.0 p.1 in omega arith) p;
  }

-- the same of equal rows
pub owners_as : (origin : ℕ) (row row' : List Extent) (owners owners' : List ℕ) → row ≡ row' → owners ≡ owners' → AreOwners origin row owners → AreOwners origin row' owners'
owners_as origin row row' owners owners' er eo own = subst (λ r. AreOwners origin r owners') er (subst (AreOwners origin row) eo own)

module _ (origin : ℕ) (row : List Extent) (owners : List ℕ) (own : AreOwners origin row owners) (w : ℕ) where
  abbrev points : (k : ℕ) (d : Extent) → k < length row → PointsInto w (get_or row k d).base (get_or row k d).length → PointsIntoNth row w k
  points k d lt reads = (get_or row k d, slice_get-get_or row k d lt, reads)

  -- none but the owner
  pub none_at : length row ≤ get_or owners (word_index origin w) 0 → All (λ (e : Extent). PointsInto w e.base e.length → ⊥) row
  none_at past k d lt reads = let is = own.owned w k (points k d lt reads) in omega arith

  pub none_other : (e : Extent) → slice_get row (get_or owners (word_index origin w) 0) ≡ Some e → (PointsInto w e.base e.length → ⊥) → All (λ (e : Extent). PointsInto w e.base e.length → ⊥) row
  none_other e at out k d lt reads =
      let p = points k d lt reads in
      let is : p.0 ≡ e = same_Some p.0 e (sym p.1 ∙ ap (slice_get row) (sym (own.owned w k p)) ∙ at) in
      out (subst (λ (x : Extent). PointsInto w x.base x.length) is p.2)

  abbrev reads_base : (k : ℕ) (d : Extent) → k < length row → (get_or row k d).base ≡ w → PointsInto w (get_or row k d).base (get_or row k d).length
  reads_base k d lt is = let more = own.some k d lt in (omega arith, omega arith)

  -- an object whose base it is has that word
  pub no_base : All (λ (e : Extent). PointsInto w e.base e.length → ⊥) row → All (λ (e : Extent). e.base ≡ w → ⊥) row
  no_base none k d lt is = none k d lt (reads_base k d lt is)

  pub other_base : (i : ℕ) (e : Extent) → slice_get row i ≡ Some e → PointsInto w e.base e.length → (e.base ≡ w → ⊥) → All (λ (e : Extent). e.base ≡ w → ⊥) row
  other_base i e at reads ne k d lt is =
      let p = points k d lt (reads_base k d lt is) in
      let same : k ≡ i = sym (own.owned w k p) ∙ own.owned w i (e, at, reads) in
      let one : p.0 ≡ e = same_Some p.0 e (sym p.1 ∙ ap (slice_get row) same ∙ at) in
      ne (ap (λ (x : Extent). x.base) (sym one) ∙ is)

  -- two that it points into are one
  pub one_there : (i : ℕ) (e : Extent) → slice_get row i ≡ Some e → PointsInto w e.base e.length → (k : ℕ) (d : Extent) → k < length row → PointsInto w (get_or row k d).base (get_or row k d).length → e ≡ get_or row k d
  one_there i e at reads k d lt there =
      let p = points k d lt there in
      let same : i ≡ k = sym (own.owned w i (e, at, reads)) ∙ own.owned w k p in
      same_Some e (get_or row k d) (sym at ∙ ap (slice_get row) same ∙ p.1)

-- no object has words
pub own_nothing : (origin : ℕ) (row : List Extent) (owners : List ℕ) → row ≡ [] → AreOwners origin row owners
own_nothing origin row owners is = subst (λ r. AreOwners origin r owners) (sym is) (record {
  some = All-nil (λ (e : Extent). 0 < e.length);
  start = λ w i p. absurd (none-some p.0 p.1);
  within = λ w i p. absurd (none-some p.0 p.1);
  owned = λ w i p. absurd (none-some p.0 p.1);
})

-- one object more comes last
pub own_pushed : (origin : ℕ) (row : List Extent) (e : Extent) (owners : List ℕ) → AreOwners origin row owners → AreOwnersBut origin (length row) (row ++ e ∷ []) owners
own_pushed origin row e owners own = record {
  owned = λ w i ne p.
      let long : length (row ++ e ∷ []) ≡ length row + 1 = length_push row e in
      let within = slice_get_within (row ++ e ∷ []) i p.0 p.1 in
      let lt : i < length row = omega arith in
      let is : get_or row i p.0 ≡ p.0 = sym (get_or_append_left row (e ∷ []) p.0 i lt) ∙ get_or_from_slice_get (row ++ e ∷ []) i p.0 p.0 p.1 in
      own.owned w i (p.0, slice_get-get_or row i p.0 lt ∙ ap Some is, p.2);
}

-- an object goes, and the last one comes to its place
pub own_removed : (origin : ℕ) (row : List Extent) (index : ℕ) (e : Extent) (owners : List ℕ) → AreOwners origin row owners → AreOwnersBut origin index (swap_remove row index e) owners
own_removed origin row index e owners own = record {
  owned = λ w i ne p.
      let short : length (swap_remove row index e) ≤ length row - 1 = rw length-take (omega arith) in
      let within = slice_get_within (swap_remove row index e) i p.0 p.1 in
      let lt : i < length row - 1 = omega arith in
      let all : i < length row = omega arith in
      let is : get_or row i p.0 ≡ p.0 =
      sym (get_or-take (length row - 1) (slice_set row index (get_or row (length row - 1) e)) i p.0 lt ∙ get_or-set_other row index i (get_or row (length row - 1) e) p.0 ne)
      ∙ get_or_from_slice_get (swap_remove row index e) i p.0 p.0 p.1 in
      own.owned w i (p.0, slice_get-get_or row i p.0 all ∙ ap Some is, p.2);
}
