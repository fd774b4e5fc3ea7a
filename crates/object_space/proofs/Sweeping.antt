-- What is left once objects are gone.
use Rattle.std.proofs.Common.{◌≡◌, ℕ, ◌+◌, ◌*◌, ◌<◌, ◌⊎◌, Bool, true, false, List, [], Contains, nat_eq, Option, Some, None, refl, sym, ◌∙◌, subst, inl, inr, ⊎_elim, arith, eq-eqb, cond}
use Rattle.std.specs.Prelude.{◌==◌}
use Rattle.std.specs.List.{list_any, IsDistinct}
use Rattle.std.proofs.lemmas.Map.Made.{IsDistinct-from_count}
use Rattle.std.proofs.lemmas.Bool.{cases_lt, eqb-true, cond-true, cond-false}
use Rattle.std.proofs.lemmas.Cmp.{nat_eq_equiv}
use Rattle.std.proofs.lemmas.List.Folds.{list_any-from_Any, Any-from_list_any}
use Rattle.std.proofs.lemmas.Map.Views.{Contains-from_any}
use Rattle.heap_spec.specs.Heap.{Object}
use Rattle.block_map.specs.declared.found.Found.{Found}
use Rattle.block_map.specs.Objects.{IsInside}
use Rattle.heap_view.specs.Shows.{Shows}
use Rattle.object_space.specs.Sweeps.{IsWithout}

pub distinct_none : IsDistinct nat_eq []
distinct_none = IsDistinct-from_count nat_eq_equiv [] refl

-- whether an object has a word
pub read_or_not : (w : ℕ) (f : Found) → IsInside w f ⊎ (IsInside w f → ⊥)
read_or_not w f =
    ⊎_elim (λ (lt : w < f.base). inr (λ (r : IsInside w f). let a = r.from in absurd (omega arith)))
    (λ ge. ⊎_elim (λ (lt : w < f.base + 8 * f.len). inl (record { from = omega arith; below = lt })) (λ le. inr (λ (r : IsInside w f). let b = r.below in absurd (omega arith))) (cases_lt w (f.base + 8 * f.len)))
    (cases_lt w f.base)

-- whether a list of numbers has one
pub not_any : (bases : List ℕ) (b : ℕ) → (Contains bases b → ⊥) → list_any (nat_eq b) bases ≡ false
not_any bases b n = by (list_any (nat_eq b) bases) refl
  where
    by : (x : Bool) → list_any (nat_eq b) bases ≡ x → list_any (nat_eq b) bases ≡ false
    by false e = e
    by true e = absurd (n (Contains-from_any eqb-true b bases e))

abbrev pub has : List ℕ → ℕ → Bool
has bases b = list_any (λ c. c == b) bases

pub has_true : (bases : List ℕ) (b : ℕ) → Contains bases b → has bases b ≡ true
has_true bases b h = list_any-from_Any (λ c. c == b) bases (h.0, b, h.1, h.2, eq-eqb b b refl)

pub true_has : (bases : List ℕ) (b : ℕ) → has bases b ≡ true → Contains bases b
true_has bases b e = let a = Any-from_list_any (λ c. c == b) bases e in subst (Contains bases) (eqb-true a.1 b a.4) (a.0, a.2, a.3)

false_true : false ≡ true → ⊥
false_true e = cc

pub has_false : (bases : List ℕ) (b : ℕ) → (Contains bases b → ⊥) → has bases b ≡ false
has_false bases b n = by (has bases b) refl
  where
    by : (x : Bool) → has bases b ≡ x → has bases b ≡ false
    by false e = e
    by true e = absurd (n (true_has bases b e))

pub false_has : (bases : List ℕ) (b : ℕ) → has bases b ≡ false → Contains bases b → ⊥
false_has bases b e h = false_true (sym e ∙ has_true bases b h)

-- what is left of the objects of a heap
pub shows_without : (pages : ℕ) (found after : ℕ → Option Found) (words : List ℕ) (objects : ℕ → Option Object) (births : ℕ) (bases : List ℕ) → Shows found words objects births → IsWithout found after bases
    → Shows after words (λ b. cond (has bases b) None (objects b)) births
shows_without pages found after words objects births bases shows so = record {
  shown = record {
    kept = λ f e.
        let l = so.left f.base f e in
        let old = shows.shown.kept f l.0 in
        (old.0, cond-false (has bases f.base) None (objects f.base) (has_false bases f.base l.1) ∙ old.1, old.2);
    only = λ b o e.
        let h = was b o e in
        let old = shows.shown.only b o h.1 in
        (old.0, so.kept b old.0 old.1 (λ c. false_has bases b h.0 (subst (Contains bases) old.2 c)), old.2);
  };
  born = λ b o e. shows.born b o (was b o e).1;
  distinct = λ a b o p x y same. shows.distinct a b o p (was a o x).1 (was b p y).1 same;
}
  where
    no_object : (o : Object) → None ≡ Some o → ⊥
    no_object o e = cc

    was : (b : ℕ) (o : Object) → cond (has bases b) None (objects b) ≡ Some o → (has bases b ≡ false) × (objects b ≡ Some o)
    was b o e = by (has bases b) refl
      where
        by : (x : Bool) → has bases b ≡ x → (has bases b ≡ false) × (objects b ≡ Some o)
        by false h = (h, sym (cond-false (has bases b) None (objects b) h) ∙ e)
        by true h = absurd (no_object o (sym (cond-true (has bases b) None (objects b) h) ∙ e))
