-- The lowest of what is wrong where objects are said to be gone.
use Rattle.std.proofs.Common.{◌≡◌, ◌⊎◌, ◌↔◌, ℕ, ◌+◌, ◌<◌, ◌≤◌, Bool, true, false, List, length, get_or, set, take, refl, sym, ap, ◌∙◌, subst, arith, inl, inr, ⊎_elim, get_or-set_same, get_or-set_other}
use Rattle.std.specs.Prelude.{Option, Some, None, All, Contains, slice_get}
use Rattle.std.proofs.lemmas.Bool.{cases_eq, true≢false}
use Rattle.std.proofs.lemmas.Option.{same_Some, slice_get_within}
use Rattle.std.proofs.lemmas.List.Elements.{All-contains, Contains-get_or}
use Rattle.heap_spec.specs.Heap.{Heap, Object, HasObject}
use Rattle.heap_spec.specs.Closure.{Reached}
use Rattle.roots.specs.Roots.{root_words_of}
use Rattle.plain_heap.specs.declared.extent.Extent.{Extent}
use Rattle.plain_heap.specs.declared.wrongs.Wrong.{Wrong}
use Rattle.plain_heap.specs.declared.wrongs.Wrong.TheVariants.{IsMissing, StandsTwice, HasToStay, HasToGo}
use Rattle.plain_heap.specs.PlainContents.{PlainContents, IsLaidOut}
use Rattle.plain_heap.specs.Standing.{StandsFor}
use Rattle.plain_heap.specs.Reached.{MarksReached}
use Rattle.plain_heap.specs.Claims.{AreUnset}
use Rattle.plain_heap.proofs.Claiming.{HasOneEach}
use Rattle.plain_heap.specs.Flags.{IsFlagged}
use Rattle.plain_heap.specs.Wrongs.{base_of, IsLowest, TellsLowest, IsWrong, TellsUncollected, TellsUnforgotten, IsLowerThan, IsLowerOf, IsBelow, IsNamedAt, IsLeftAt, MarksFlagged}
use Rattle.plain_heap.proofs.Objects.{extent_of}
use Rattle.plain_heap.proofs.Collects.{at_place, in_row, not_reached, reached_out, reached_in}
use Rattle.plain_heap.proofs.Forgets.{unmarked}

-- one or the other holds
abbrev EitherOf : (Wrong → Type 0) → (Wrong → Type 0) → Wrong → Type 0
EitherOf V W x = V x ⊎ W x

module _ (V W : Wrong → Type 0) where
  -- the lower of two is the lowest of both
  lowest_then : (v : Wrong) (b : Option Wrong) (r : Wrong) → IsLowest V v → TellsLowest W b → IsLowerThan v b r → IsLowest (EitherOf V W) r
  lowest_then v None r low none is = subst (IsLowest (EitherOf V W)) (sym is) (record {
    holds = inl low.holds;
    lowest = λ x either. ⊎_elim (λ p. low.lowest x p) (λ q. absurd (none x q)) either;
  })
  lowest_then v (Some w) r low other is = ⊎_elim
      (λ e. subst (IsLowest (EitherOf V W)) (sym e.1) (record {
        holds = inl low.holds;
        lowest = λ x either. ⊎_elim (λ p. low.lowest x p) (λ q. let far : base_of w ≤ base_of x = other.lowest x q in let near : base_of v ≤ base_of w = e.0 in omega arith) either;
      }))
      (λ e. subst (IsLowest (EitherOf V W)) (sym e.1) (record {
        holds = inr other.holds;
        lowest = λ x either. ⊎_elim (λ p. let far : base_of v ≤ base_of x = low.lowest x p in let near : base_of w ≤ base_of v = e.0 in omega arith) (λ q. other.lowest x q) either;
      }))
      is

  lowest_alone : (b : Option Wrong) → ((x : Wrong) → V x → ⊥) → TellsLowest W b → TellsLowest (EitherOf V W) b
  lowest_alone None none low = λ x either. ⊎_elim (λ p. none x p) (λ q. low x q) either
  lowest_alone (Some w) none low = record { holds = inr low.holds; lowest = λ x either. ⊎_elim (λ p. absurd (none x p)) (λ q. low.lowest x q) either }

  lower_lowest : (a b r : Option Wrong) → TellsLowest V a → TellsLowest W b → IsLowerOf a b r → TellsLowest (EitherOf V W) r
  lower_lowest None b r none low is = subst (TellsLowest (EitherOf V W)) (sym is) (lowest_alone b none low)
  lower_lowest (Some v) b r low other is = subst (TellsLowest (EitherOf V W)) (sym is.1) (lowest_then v b is.0 low other is.2)

  -- what holds alike has the same lowest
  pub alike : ((x : Wrong) → V x → W x) → ((x : Wrong) → W x → V x) → (r : Option Wrong) → TellsLowest V r → TellsLowest W r
  alike to from None none = λ x q. none x (from x q)
  alike to from (Some w) low = record { holds = to w low.holds; lowest = λ x q. low.lowest x (from x q) }

-- one index more
module _ (Holds : ℕ → Wrong → Type 0) where
  pub below_one : (k : ℕ) (a b r : Option Wrong) → TellsLowest (IsBelow Holds k) a → TellsLowest (Holds k) b → IsLowerOf a b r → TellsLowest (IsBelow Holds (k + 1)) r
  below_one k a b r low here is = alike (EitherOf (IsBelow Holds k) (Holds k)) (IsBelow Holds (k + 1))
      (λ x either. ⊎_elim (λ before. (before.0, (let lt : before.0 < k = before.1 in omega arith), before.2)) (λ now. (k, omega arith, now)) either)
      (λ x h. ⊎_elim (λ same. inr (subst (λ j. Holds j x) same h.2)) (λ ne. inl (h.0, (let lt : h.0 < k + 1 = h.1 in omega arith), h.2)) (cases_eq h.0 k))
      r (lower_lowest (IsBelow Holds k) (Holds k) a b r low here is)

-- the base of one index in the list
module _ (row : List Extent) (marks : List Bool) (bases : List ℕ) (i : ℕ) where
  module _ (base : ℕ) (at : slice_get bases i ≡ Some base) where
    module _ (index : ℕ) (e : Extent) (there : slice_get row index ≡ Some e) (is : e.base ≡ base) where
      module _ (one : HasOneEach row) (stays : List Bool) (unset : AreUnset row (take i bases) stays) where
        pub named_right : get_or stays index false ≡ true → get_or marks index false ≡ false → (x : Wrong) → IsNamedAt row marks bases i x → ⊥
        named_right stay unmarked (IsMissing b) h = All-contains (λ (f : Extent). f.base ≡ b → ⊥) row e h.1 (in_row row index e there) (is ∙ same_Some base b (sym at ∙ h.0))
        named_right stay unmarked (StandsTwice b) h =
            true≢false (sym stay ∙ unset.unset index e there (subst (Contains (take i bases)) (sym (is ∙ same_Some base b (sym at ∙ h.0))) h.1))
        named_right stay unmarked (HasToStay b) h =
            let p = h.1 in
            let same : p.0 ≡ index = one.one p.0 index p.1 e p.2 there (p.3 ∙ sym (is ∙ same_Some base b (sym at ∙ h.0))) in
            true≢false (sym p.4 ∙ ap (λ k. get_or marks k false) same ∙ unmarked)
        named_right stay unmarked (HasToGo b) h = h

-- exactly those of the first objects that have no flag are not marked
abbrev pub FlaggedSoFar : (origin : ℕ) → List Extent → List Bool → ℕ → List Bool → Type 0
FlaggedSoFar origin row flags done marks = (i : ℕ) (e : Extent) → i < done → slice_get row i ≡ Some e → (get_or marks i false ≡ false) ↔ (IsFlagged origin flags e.base → ⊥)

false_where : (P : Type 0) (b : Bool) → (b ≡ true → P) → (P → ⊥) → b ≡ false
false_where P true holds out = absurd (out (holds refl))
false_where P false holds out = refl

pub flagged_more : (origin : ℕ) (row : List Extent) (flags : List Bool) (done : ℕ) (e : Extent) (b : Bool) (marks : List Bool) → done < length marks → slice_get row done ≡ Some e → (b ≡ true → IsFlagged origin flags e.base) → (b ≡ false → IsFlagged origin flags e.base → ⊥)
    → FlaggedSoFar origin row flags done marks → FlaggedSoFar origin row flags (done + 1) (set marks done b)
flagged_more origin row flags done e b marks short there set_is unset_is before i f lt at = ⊎_elim
    (λ same.
    let is_e : f ≡ e = same_Some f e (sym at ∙ ap (slice_get row) same ∙ there) in
    let value : get_or (set marks done b) i false ≡ b = ap (λ k. get_or (set marks done b) k false) same ∙ get_or-set_same marks done b false short in (
      λ off has. unset_is (sym value ∙ off) (subst (λ (x : Extent). IsFlagged origin flags x.base) is_e has),
      λ out. value ∙ false_where (IsFlagged origin flags e.base) b set_is (λ has. out (subst (λ (x : Extent). IsFlagged origin flags x.base) (sym is_e) has)),
    ))
    (λ ne.
    let value : get_or (set marks done b) i false ≡ get_or marks i false = get_or-set_other marks done i b false ne in
    let old : (get_or marks i false ≡ false) ↔ (IsFlagged origin flags f.base → ⊥) = before i f (omega arith) at in
    (λ off. old.0 (sym value ∙ off), λ out. value ∙ old.1 out))
    (cases_eq i done)

-- the same, by equations
pub left_are : (row : List Extent) (marks marks' stays stays' : List Bool) (r : Option Wrong) → marks ≡ marks' → stays ≡ stays' → TellsLowest (IsBelow (IsLeftAt row marks stays) (length row)) r → TellsLowest (IsBelow (IsLeftAt row marks' stays') (length row)) r
left_are row marks marks' stays stays' r em es low = subst (λ x. TellsLowest (IsBelow (IsLeftAt row marks' x) (length row)) r) es (subst (λ m. TellsLowest (IsBelow (IsLeftAt row m stays) (length row)) r) em low)

-- What is wrong in the row is what is wrong in a heap that the plain heap stands for.
module _ (c : PlainContents) (sound : IsLaidOut c) (marks : List Bool) (m : MarksReached c.origin (root_words_of c.roots) c.words c.objects marks) (bases : List ℕ) (stays : List Bool) (unset : AreUnset c.objects bases stays) where
  module _ (s : Heap) (h : StandsFor c s) (kept : List Bool) (Goes : ℕ → Object → Type 0) (goes : (i : ℕ) (e : Extent) (o : Object) → slice_get c.objects i ≡ Some e → HasObject s e.base o → (get_or kept i false ≡ false) ↔ Goes e.base o) where
    abbrev Named : Wrong → Type 0
    Named = IsBelow (IsNamedAt c.objects marks bases) (length bases)

    abbrev Left : Wrong → Type 0
    Left = IsBelow (IsLeftAt c.objects kept stays) (length c.objects)

    abbrev Wrongs : Wrong → Type 0
    Wrongs = IsWrong s (λ base o. Reached s base) Goes bases

    named_wrong : (x : Wrong) → Named x → Wrongs x
    named_wrong (IsMissing b) n = (in_row bases n.0 b n.2.0, λ o has. let e = h.only b o has in All-contains (λ (f : Extent). f.base ≡ b → ⊥) c.objects e.0 n.2.1 e.1 e.2)
    named_wrong (StandsTwice b) n = (n.0, n.2.0, n.2.1)
    named_wrong (HasToStay b) n =
        let p = n.2.1 in
        let o = h.kept p.1 (in_row c.objects p.0 p.1 p.2) in
        (in_row bases n.0 b n.2.0, (o.0, subst (λ q. HasObject s q o.0) p.3 o.1, subst (Reached s) p.3 (reached_out c sound s h p.0 p.1 (m.reached p.0 p.4) p.2)))
    named_wrong (HasToGo b) n = absurd n.2

    left_wrong : (x : Wrong) → Left x → Wrongs x
    left_wrong (IsMissing b) l = absurd l.2
    left_wrong (StandsTwice b) l = absurd l.2
    left_wrong (HasToStay b) l = absurd l.2
    left_wrong (HasToGo b) l =
        let e = l.2 in
        let o = h.kept e.0 (in_row c.objects l.0 e.0 e.1) in (
          λ among. true≢false (sym e.4 ∙ unset.unset l.0 e.0 e.1 (subst (Contains bases) (sym e.2) among)),
          (o.0, subst (λ q. HasObject s q o.0) e.2 o.1, subst (λ q. Goes q o.0) e.2 ((goes l.0 e.0 o.0 e.1 o.1).0 e.3)),
        )

    none_there : (b : ℕ) → ((o : Object) → HasObject s b o → ⊥) → All (λ (e : Extent). e.base ≡ b → ⊥) c.objects
    none_there b none k d lt same =
        let o = h.kept (get_or c.objects k d) (Contains-get_or c.objects k d lt) in
        none o.0 (subst (λ q. HasObject s q o.0) same o.1)

    unnamed : (flag : Bool) (i : ℕ) (e : Extent) → slice_get c.objects i ≡ Some e → (Contains bases e.base → ⊥) → get_or stays i false ≡ flag → get_or stays i false ≡ true
    unnamed true i e at out is = is
    unnamed false i e at out is = absurd (out (unset.only i e at is))

    wrong_there : (x : Wrong) → Wrongs x → EitherOf Named Left x
    wrong_there (IsMissing b) w = let at = at_place bases b w.0 in inl (at.0, slice_get_within bases at.0 b at.1, (at.1, none_there b w.1))
    wrong_there (StandsTwice b) w = inl (w.0, slice_get_within bases w.0 b w.1, (w.1, w.2))
    wrong_there (HasToStay b) w =
        let at = at_place bases b w.0 in
        let p = reached_in c sound s h b w.1.2 in
        inl (at.0, slice_get_within bases at.0 b at.1, (at.1, (p.0, p.1, p.2, p.3, m.marked p.0 p.4)))
    wrong_there (HasToGo b) w =
        let o = w.1 in
        let e = extent_of c sound s h b o.0 o.1 in
        let at = at_place c.objects e.0 e.1 in
        inr (
          at.0,
          slice_get_within c.objects at.0 e.0 at.1,
          (
            e.0,
            at.1,
            e.2,
            (goes at.0 e.0 o.0 at.1 (subst (λ q. HasObject s q o.0) (sym e.2) o.1)).1 (subst (λ q. Goes q o.0) (sym e.2) o.2),
            unnamed (get_or stays at.0 false) at.0 e.0 at.1 (λ among. w.0 (subst (Contains bases) e.2 among)) refl,
          ),
        )

    told : (a b r : Option Wrong) → TellsLowest Named a → TellsLowest Left b → IsLowerOf a b r → TellsLowest Wrongs r
    told a b r x y is = alike (EitherOf Named Left) Wrongs (λ v either. ⊎_elim (λ n. named_wrong v n) (λ l. left_wrong v l) either) wrong_there r (lower_lowest Named Left a b r x y is)

  pub uncollected : (a b r : Option Wrong) → TellsLowest (IsBelow (IsNamedAt c.objects marks bases) (length bases)) a → TellsLowest (IsBelow (IsLeftAt c.objects marks stays) (length c.objects)) b → IsLowerOf a b r
      → TellsUncollected c bases r
  uncollected a b r x y is s h = told s h marks (λ base o. Reached s base → ⊥)
      (λ i e o at has. (λ off reached. not_reached c sound s h marks m i e at off reached, λ out. unmarked c sound marks m s h (get_or marks i false) i e at out refl)) a b r x y is

  pub unforgotten : (flags kept : List Bool) → MarksFlagged c.origin c.objects flags kept → (a b r : Option Wrong) → TellsLowest (IsBelow (IsNamedAt c.objects marks bases) (length bases)) a
      → TellsLowest (IsBelow (IsLeftAt c.objects kept stays) (length c.objects)) b → IsLowerOf a b r → TellsUnforgotten c flags bases r
  unforgotten flags kept flagged a b r x y is s h = told s h kept (λ base o. IsFlagged c.origin flags base → ⊥) (λ i e o at has. flagged i e at) a b r x y is
