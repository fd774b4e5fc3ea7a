-- What is known of the objects of a heap after a change.
use Rattle.std.proofs.Common.{◌≡◌, ◌⊎◌, ◌≤◌, ℕ, List, [], ◌∷◌, ◌++◌, length, get_or, eqb, Bool, true, false, refl, sym, ap, ◌∙◌, subst, arith, inl, inr, ⊎_elim}
use Rattle.std.specs.Prelude.{Option, Some, None, option_map, Contains, nat_eq}
use Rattle.std.specs.List.{IsDistinct, list_any}
use Rattle.std.specs.Cmp.{nat_eq_equiv}
use Rattle.std.proofs.lemmas.Bool.{eqb-true, eq-eqb, cond-true}
use Rattle.std.proofs.lemmas.Option.{none-some}
use Rattle.std.proofs.lemmas.List.Elements.{All-contains, Contains-get_or, Contains-append_left, Contains-push, Contains-push_cases}
use Rattle.std.proofs.lemmas.List.Folds.{Any-from_list_any, list_any-from_Any}
use Rattle.std.proofs.lemmas.Map.Keys.{IsDistinct-push}
use Rattle.std.proofs.lemmas.Map.Made.{length-le_from_is_member}
use Rattle.std.proofs.lemmas.Map.Views.{Contains-from_any}
use Rattle.heap_spec.specs.declared.reply.Reply.TheVariants.{Count}
use Rattle.heap_spec.specs.Heap.{Heap, Object, HasObject, with_at, without, with_cleared, loses_word}
use Rattle.heap_spec.specs.Closure.{Reached}
use Rattle.heap_spec.specs.Cycles.{TakesOut}
use Rattle.heap_spec.proofs.Objects.{with_at-same, with_at-other, at_cases}
use Rattle.heap_spec.proofs.Links.{stays_by}
use Rattle.replayer.proofs.Nexts.{any_same, without_same}
use Rattle.heap_core.specs.CoreContents.{CoreContents}
use Rattle.heap_core.specs.Standing.{StandsFor, objects_of}
use Rattle.kept_bases.specs.Sorting.{IsBase, SortsOut}
use Rattle.recording.specs.Noting.{Knows}
use Rattle.kept_bases.proofs.Sorts.{none_equal}

-- a base of the heap
abbrev pub Has : Heap → ℕ → Type 0
Has s b = (o : Object) × HasObject s b o

-- each base of the first heap is one of the second
abbrev pub HasIn : Heap → Heap → Type 0
HasIn s s' = (b : ℕ) (o : Object) → HasObject s b o → Has s' b

-- the same bases are known
pub same_known : (l : List ℕ) (s s' : Heap) → HasIn s s' → HasIn s' s → Knows l s → Knows l s'
same_known l s s' to back k = record {
  distinct = k.distinct;
  objects = λ i d lt. let o = k.objects i d lt in to (get_or l i d) o.0 o.1;
  all = λ b p has. let o = back b p has in k.all b o.0 o.1;
}

-- one more is known
pub more_known : (l : List ℕ) (s s' : Heap) (a : ℕ) (new : Object) → ((o : Object) → HasObject s a o → ⊥) → s'.objects ≡ with_at s.objects a (Some new) → Knows l s → Knows (l ++ a ∷ []) s'
more_known l s s' a new free is k = record {
  distinct = IsDistinct-push nat_eq_equiv l a k.distinct (none_equal l a (λ has. let o = All-contains (Has s) l a k.objects has in free o.0 o.1));
  objects = λ i d lt. here (get_or (l ++ a ∷ []) i d) (Contains-get_or (l ++ a ∷ []) i d lt);
  all = λ b p has. ⊎_elim
      (λ same. subst (Contains (l ++ a ∷ [])) (sym same.0) (Contains-push l a))
      (λ other. Contains-append_left l (a ∷ []) b (k.all b p other.1))
      (at_cases s.objects a (Some new) b (Some p) (ap (λ (m : ℕ → Option Object). m b) (sym is) ∙ has));
}
  where
    there : (b : ℕ) → Has s b → Has s' b
    there b o = (o.0, ap (λ (m : ℕ → Option Object). m b) is ∙ with_at-other s.objects a (Some new) b (λ same. free o.0 (ap s.objects (sym same) ∙ o.1)) ∙ o.1)

    here : (b : ℕ) → Contains (l ++ a ∷ []) b → Has s' b
    here b has = ⊎_elim
        (λ old. there b (All-contains (Has s) l b k.objects old))
        (λ same. (new, ap (λ (m : ℕ → Option Object). m b) is ∙ with_at-same s.objects a (Some new) b (sym same)))
        (Contains-push_cases l a b has)

-- the bases that a core keeps are those of the heap that it stands for
pub base_in : (c : CoreContents) (s : Heap) → StandsFor c s → (b : ℕ) (o : Object) → HasObject s b o → IsBase c b
base_in c s h b o has = h.store.shows.shown.only b o has

pub base_has : (c : CoreContents) (s : Heap) → StandsFor c s → (b : ℕ) → IsBase c b → Has s b
base_has c s h b is =
    let o = h.store.shows.shown.kept is.0 (subst (λ x. objects_of c x ≡ Some is.0) (sym is.2) is.1) in
    (o.0, subst (λ x. HasObject s x o.0) is.2 o.1)

-- what is in a list is found there, or not
found_or : (l : List ℕ) (b : ℕ) (v : Bool) → list_any (λ y. eqb y b) l ≡ v → Contains l b ⊎ (list_any (λ y. eqb y b) l ≡ false)
found_or l b true is = let any = Any-from_list_any (λ y. eqb y b) l is in inl (subst (Contains l) (eqb-true any.1 b any.4) (any.0, any.2, any.3))
found_or l b false is = inr is

find : (l : List ℕ) (b : ℕ) → Contains l b → list_any (λ y. eqb y b) l ≡ true
find l b among = list_any-from_Any (λ y. eqb y b) l (among.0, b, among.1, among.2, eq-eqb b b refl)

-- what is one of some is gone without them
pub gone_without : (s : Heap) (l : List ℕ) (b : ℕ) → Contains l b → (without s l).objects b ≡ None
gone_without s l b among = ap (option_map (with_cleared (loses_word s l) b)) (cond-true (list_any (λ y. eqb y b) l) None (s.objects b) (find l b among))

-- an object that is gone without some is one of them
pub was_one : (s : Heap) (l : List ℕ) (b : ℕ) (o : Object) → HasObject s b o → ((p : Object) → HasObject (without s l) b p → ⊥) → Contains l b
was_one s l b o has gone = ⊎_elim
    (λ among. among)
    (λ out. absurd (gone (with_cleared (loses_word s l) b o) (stays_by s l b o has (λ among. (let t : true ≡ false = sym (find l b among) ∙ out in cc)))))
    (found_or l b (list_any (λ y. eqb y b) l) refl)

-- the same bases leave the same heap
module _ (s : Heap) (l m : List ℕ) (to : (b : ℕ) → Contains l b → Contains m b) (back : (b : ℕ) → Contains m b → Contains l b) where
  pub same_without : without s l ≡ without s m
  same_without = without_same s l m (any_same l m to back)

  fewer : IsDistinct nat_eq l → length l ≤ length m
  fewer d = length-le_from_is_member nat_eq_equiv l m d (λ q is. let has = to q (Contains-from_any eqb-true q l is) in list_any-from_Any (eqb q) m (has.0, q, has.1, has.2, eq-eqb q q refl))

-- distinct bases that are the same are as many
pub as_many : (l m : List ℕ) → ((b : ℕ) → Contains l b → Contains m b) → ((b : ℕ) → Contains m b → Contains l b) → IsDistinct nat_eq l → IsDistinct nat_eq m → (s : Heap) → length l ≡ length m
as_many l m to back d d' s = let less = fewer s l m to back d in let more = fewer s m l back to d' in omega arith

-- bases are sorted out, by the core that stands for the heap after
module _ (c : CoreContents) (all stay gone : List ℕ) (sorts : SortsOut c all stay gone) (s s' : Heap) (h : StandsFor c s') (k : Knows all s) where
  -- where no object came, those that stay are known
  pub stay_known : HasIn s' s → Knows stay s'
  stay_known back = record {
    distinct = (sorts.distinct k.distinct).0;
    objects = λ i d lt. base_has c s' h (get_or stay i d) (sorts.stays (get_or stay i d) (Contains-get_or stay i d lt)).1;
    all = λ b p has. let o = back b p has in ⊎_elim (λ here. here) (λ out. absurd ((sorts.goes b out).1 (base_in c s' h b p has))) (sorts.each b (k.all b o.0 o.1));
  }

  -- those that are gone are what a collection took out
  module _ (bases : List ℕ) (n : ℕ) (takes : TakesOut s bases (Count n) s') where
    had : (b : ℕ) → Contains gone b → Has s b
    had b has = All-contains (Has s) all b k.objects (sorts.goes b has).0

    to : (b : ℕ) → Contains gone b → Contains bases b
    to b has = let o = had b has in was_one s bases b o.0 o.1 (λ p there. (sorts.goes b has).1 (base_in c s' h b p (ap (λ (x : Heap). x.objects b) takes.after ∙ there)))

    back : (b : ℕ) → Contains bases b → Contains gone b
    back b has =
        let o = All-contains (Has s) bases b takes.objects has in
        ⊎_elim
        (λ here. let p = base_has c s' h b (sorts.stays b here).1 in absurd (none-some p.0 (sym (ap (λ (x : Heap). x.objects b) takes.after ∙ gone_without s bases b has) ∙ p.1)))
        (λ out. out)
        (sorts.each b (k.all b o.0 o.1))

    pub gone_taken : TakesOut s gone (Count n) s'
    gone_taken = record {
      objects = λ i d lt. had (get_or gone i d) (Contains-get_or gone i d lt);
      distinct = (sorts.distinct k.distinct).1;
      unreached = λ i d lt. All-contains (λ b. Reached s b → ⊥) bases (get_or gone i d) takes.unreached (to (get_or gone i d) (Contains-get_or gone i d lt));
      number = takes.number ∙ ap Count (as_many bases gone back to takes.distinct (sorts.distinct k.distinct).1 s);
      after = takes.after ∙ same_without s bases gone back to;
    }
