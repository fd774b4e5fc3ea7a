-- Objects that are named by their bases are taken out of a plain heap and of the heap that it stands for.
use Rattle.std.proofs.Common.{◌≡◌, ℕ, zero, suc, ◌+◌, ◌<◌, ◌≤◌, Bool, true, false, eqb, List, [], length, get_or, take, refl, sym, ◌∙◌, subst, arith, ⊎_elim}
use Rattle.std.specs.Prelude.{Option, Some, None, All, Contains, slice_get, nat_eq}
use Rattle.std.specs.List.{IsDistinct, list_any}
use Rattle.std.specs.Cmp.{nat_eq_equiv}
use Rattle.std.proofs.lemmas.Bool.{true≢false, eqb-true, eq-eqb, ne_eqb}
use Rattle.std.proofs.lemmas.List.{take_all, take_more, length-take-le, get_or-take}
use Rattle.std.proofs.lemmas.List.Elements.{All-contains, Contains-get_or}
use Rattle.std.proofs.lemmas.List.Folds.{list_any-from_Any, list_any_none}
use Rattle.std.proofs.lemmas.Map.Keys.{IsDistinct-push}
use Rattle.std.proofs.lemmas.Map.Made.{IsDistinct-from_count, length-le_from_is_member}
use Rattle.std.proofs.lemmas.Map.Views.{Contains-from_any}
use Rattle.std.proofs.lemmas.Option.{none-some, slice_get_within, slice_get-get_or, get_or_from_slice_get}
use Rattle.heap_spec.specs.Layout.{PointsInto}
use Rattle.heap_spec.specs.Heap.{Heap, Object, HasObject, without}
use Rattle.heap_spec.specs.declared.reply.Reply.{Reply}
use Rattle.heap_spec.specs.declared.reply.Reply.TheVariants.{Count}
use Rattle.heap_spec.specs.Closure.{Reached}
use Rattle.heap_spec.specs.Cycles.{TakesOut, CollectsFully}
use Rattle.links.specs.declared.row.Link.{Link}
use Rattle.roots.specs.Roots.{root_words_of}
use Rattle.plain_heap.specs.declared.extent.Extent.{Extent}
use Rattle.plain_heap.specs.declared.wrongs.Wrong.{Wrong}
use Rattle.plain_heap.specs.declared.wrongs.Wrong.TheVariants.{IsMissing, StandsTwice, HasToStay, HasToGo}
use Rattle.plain_heap.specs.PlainContents.{PlainContents, IsLaidOut}
use Rattle.plain_heap.specs.Standing.{StandsFor}
use Rattle.plain_heap.specs.Collections.{TakesBases, CantTake}
use Rattle.plain_heap.specs.Flags.{ForgetsUnflagged, CantForget}
use Rattle.plain_heap.specs.Wrongs.{IsWrong, TellsUncollected, TellsUnforgotten}
use Rattle.plain_heap.specs.Claims.{AreUnset}
use Rattle.plain_heap.specs.Reached.{MarksReached}
use Rattle.plain_heap.specs.Parting.{Parts}
use Rattle.plain_heap.proofs.Objects.{reads_base}
use Rattle.plain_heap.proofs.Free.{AreBases, LeavesAlong, rest_stands, stays_in}
use Rattle.plain_heap.proofs.Claiming.{HasOneEach, none_before}
use Rattle.plain_heap.proofs.Collects.{in_row, sound_apart, reached_out}

-- no base is that of two objects of a sound plain heap
pub one_each : (c : PlainContents) → IsLaidOut c → HasOneEach c.objects
one_each c sound = record {
  one = λ i j e f at at' same.
      let here : PointsInto e.base e.base e.length = reads_base c sound e (in_row c.objects i e at) e.base refl in
      let there : PointsInto e.base f.base f.length = reads_base c sound f (in_row c.objects j f at') e.base same in
      (sound_apart c sound).one e.base i j (e, at, here) (f, at', there);
}

-- what is not reached is not marked
pub unmarked : (c : PlainContents) (sound : IsLaidOut c) (marks : List Bool) (m : MarksReached c.origin (root_words_of c.roots) c.words c.objects marks) (s : Heap) (h : StandsFor c s) (b : Bool) (i : ℕ) (e : Extent)
    → slice_get c.objects i ≡ Some e → (Reached s e.base → ⊥) → get_or marks i false ≡ b → get_or marks i false ≡ false
unmarked c sound marks m s h true i e at out is = absurd (out (reached_out c sound s h i e (m.reached i is) at))
unmarked c sound marks m s h false i e at out is = is

-- Where the objects with some bases are said to be gone from a heap, and others have to go.
module _ (s : Heap) (Goes : ℕ → Object → Type 0) (bases : List ℕ) where
  abbrev Wrongs : Wrong → Type 0
  Wrongs = IsWrong s (λ base o. Reached s base) Goes bases

  -- if nothing is wrong, they can be taken out, and these are all
  module _ (right : (x : Wrong) → Wrongs x → ⊥) where
    pub all_there : All (λ b. (o : Object) × HasObject s b o) bases
    all_there k d lt = there (get_or bases k d) (Contains-get_or bases k d lt) (s.objects (get_or bases k d)) refl
      where
        there : (b : ℕ) → Contains bases b → (found : Option Object) → s.objects b ≡ found → (o : Object) × HasObject s b o
        there b has None is = absurd (right (IsMissing b) (has, λ o here. none-some o (sym is ∙ here)))
        there b has (Some o) is = (o, is)

    first_distinct : (n : ℕ) → n ≤ length bases → IsDistinct nat_eq (take n bases)
    first_distinct zero few = IsDistinct-from_count nat_eq_equiv [] refl
    first_distinct (suc n) few =
        let lt : n < length bases = few in
        let x : ℕ = get_or bases n 0 in
        let next : n + 1 ≡ suc n = omega arith in
        subst (λ k. IsDistinct nat_eq (take k bases)) next (subst (IsDistinct nat_eq) (sym (take_more bases n 0 lt)) (IsDistinct-push nat_eq_equiv (take n bases) x (first_distinct n (omega arith))
        (list_any_none (eqb x) (take n bases) (λ k d short. ne_eqb x (get_or (take n bases) k d)
        (λ same. right (StandsTwice x) (n, slice_get-get_or bases n 0 lt, subst (Contains (take n bases)) (sym same) (Contains-get_or (take n bases) k d short)))))))

    pub can_take : TakesOut s bases (Count (length bases)) (without s bases)
    can_take = record {
      objects = all_there;
      distinct = subst (IsDistinct nat_eq) (take_all (length bases) bases (omega arith)) (first_distinct (length bases) (omega arith));
      unreached = λ k d lt reached. let o = all_there k d lt in right (HasToStay (get_or bases k d)) (Contains-get_or bases k d lt, (o.0, o.1, reached));
      number = refl;
      after = refl;
    }

    pub all_named : (base : ℕ) (o : Object) → HasObject s base o → Goes base o → Contains bases base
    all_named base o has goes = named (list_any (eqb base) bases) refl
      where
        named : (b : Bool) → list_any (eqb base) bases ≡ b → Contains bases base
        named true is = Contains-from_any eqb-true base bases is
        named false is = absurd (right (HasToGo base) (λ among. true≢false (sym (list_any-from_Any (eqb base) bases (among.0, base, among.1, among.2, eq-eqb base base refl)) ∙ is), (o, has, goes)))

  -- if something is, they can't
  pub cant_take : (x : Wrong) → Wrongs x → (n : ℕ) (s' : Heap) → TakesOut s bases (Count n) s' → ((base : ℕ) (o : Object) → HasObject s base o → Goes base o → Contains bases base) → ⊥
  cant_take (IsMissing b) w n s' t all = let o = All-contains (λ x. (o : Object) × HasObject s x o) bases b t.objects w.0 in w.1 o.0 o.1
  cant_take (StandsTwice b) w n s' t all =
      let lt : w.0 < length bases = slice_get_within bases w.0 b w.1 in
      let here = w.2 in
      let size : length (take w.0 bases) ≡ w.0 = length-take-le w.0 bases (omega arith) in
      let short : here.0 < length (take w.0 bases) = here.1 in
      let less : here.0 < w.0 = omega arith in
      none_before bases t.distinct w.0 b lt (get_or_from_slice_get bases w.0 b b w.1) here.0 less (sym (get_or-take w.0 bases here.0 b less) ∙ here.2)
  cant_take (HasToStay b) w n s' t all = All-contains (λ x. Reached s x → ⊥) bases b t.unreached w.0 w.1.2
  cant_take (HasToGo b) w n s' t all = w.0 (all b w.1.0 w.1.1 w.1.2)

-- the same of the heaps that a plain heap stands for, once the objects were taken out
module _ (c new : PlainContents) (bases : List ℕ) (taken : (s : Heap) → StandsFor c s → All (λ b. (o : Object) × HasObject s b o) bases → StandsFor new (without s bases)) where
  pub takes_unreached : TellsUncollected c bases None → TakesBases c bases true new
  takes_unreached right s h = (without s bases, can_take s _ bases (right s h), λ must. all_named s _ bases (right s h), taken s h (all_there s _ bases (right s h)))

  pub takes_unflagged : (flags : List Bool) → TellsUnforgotten c flags bases None → ForgetsUnflagged c flags bases new
  takes_unflagged flags right s h = (without s bases, can_take s _ bases (right s h), all_named s _ bases (right s h), taken s h (all_there s _ bases (right s h)))

pub cant_collect : (c : PlainContents) (bases : List ℕ) (r : Option Wrong) → (r ≡ None → ⊥) → TellsUncollected c bases r → CantTake c bases true
cant_collect c bases None some wrong s h n s' t rest = some refl
cant_collect c bases (Some x) some wrong s h n s' t rest = cant_take s _ bases x (wrong s h).holds n s' t (rest refl)

pub cant_forget : (c : PlainContents) (flags : List Bool) (bases : List ℕ) (r : Option Wrong) → (r ≡ None → ⊥) → TellsUnforgotten c flags bases r → CantForget c flags bases
cant_forget c flags bases None some wrong s h n s' t rest = some refl
cant_forget c flags bases (Some x) some wrong s h n s' t rest = cant_take s _ bases x (wrong s h).holds n s' t rest

-- the objects whose flags are unset are those with these bases
pub takes_out : (c : PlainContents) (sound : IsLaidOut c) (bases : List ℕ) (flags : List Bool) → AreUnset c.objects bases flags → (stay : List Extent) (n : ℕ) (parts : Parts c.objects flags stay n) (words : List ℕ) (links : List Link) → LeavesAlong c stay words links
    → (s : Heap) → StandsFor c s → All (λ b. (o : Object) × HasObject s b o) bases → StandsFor (record c { words = words; objects = stay; links = links }) (without s bases)
takes_out c sound bases flags unset stay n parts words links along s h there = rest_stands c sound parts.gone stay parts.all bases are words links along s h
  where
    are : AreBases parts.gone bases
    are = record {
      of = λ b among.
          let o = All-contains (λ x. (o : Object) × HasObject s x o) bases b there among in
          let e = h.only b o.0 o.1 in
          ⊎_elim
          (λ gone. (e.0, gone, e.2))
          (λ stays. let u = parts.set e.0 stays in absurd (true≢false (sym u.2 ∙ unset.unset u.0 e.0 u.1 (subst (Contains bases) (sym e.2) among))))
          (stays_in c sound parts.gone stay parts.all e.0 e.1);
      all = λ e gone. let u = parts.unset e gone in unset.only u.0 e u.1 u.2;
    }

-- full collections of one heap take as many
pub same_count : (s t t' : Heap) (a b : ℕ) → CollectsFully s (Count a) t → CollectsFully s (Count b) t' → a ≡ b
same_count s t t' a b x y =
    let less = few t t' (Count a) (Count b) x y in
    let more = few t' t (Count b) (Count a) y x in
    let here : a ≡ length x.bases = number a (length x.bases) x.takes.number in
    let there : b ≡ length y.bases = number b (length y.bases) y.takes.number in
    omega arith
  where
    number : (m n : ℕ) → Count m ≡ Count n → m ≡ n
    number m n e = cc

    goes : (u u' : Heap) (q q' : Reply) (x : CollectsFully s q u) (y : CollectsFully s q' u') (base : ℕ) → Contains x.bases base → Contains y.bases base
    goes u u' q q' x y base among =
        let o = All-contains (λ b. (o : Object) × HasObject s b o) x.bases base x.takes.objects among in y.all base o.0 o.1 (All-contains (λ b. Reached s b → ⊥) x.bases base x.takes.unreached among)

    few : (u u' : Heap) (q q' : Reply) (x : CollectsFully s q u) (y : CollectsFully s q' u') → length x.bases ≤ length y.bases
    few u u' q q' x y = length-le_from_is_member nat_eq_equiv x.bases y.bases x.takes.distinct
        (λ n is. let has = goes u u' q q' x y n (Contains-from_any eqb-true n x.bases is) in list_any-from_Any (eqb n) y.bases (has.0, n, has.1, has.2, eq-eqb n n refl))
