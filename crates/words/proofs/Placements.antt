-- Where requests go: by size class or by pages.
use Rattle.std.proofs.Common.{◌≡◌, ℕ, suc, ◌<◌, ◌≤◌, Bool, true, false, cond, List, [], ◌∷◌, refl, sym, ap, ◌∙◌, subst, arith}
use Rattle.std.specs.Prelude.{Option, Some, None, find, nat_le, nat_lt, ◌==◌, ◌||◌, All}
use Rattle.std.specs.Int.{div_ceil}
use Rattle.std.specs.List.{list_any}
use Rattle.std.specs.Option.{option_map}
use Rattle.std.proofs.lemmas.Bool.{leb-true, leb-false}
use Rattle.std.proofs.lemmas.Bool.Decides.{nat_tests}
use Rattle.std.proofs.lemmas.Option.{same_Some, none-some}
use Rattle.std.proofs.lemmas.List.Sums.{AllPass-from_list_all}
use Rattle.words.specs.declared.limits.TheConstants.{MAX_SMALL_WORDS, PAGE_WORDS}
use Rattle.words.specs.declared.class.TheConstants.{CLASSES}
use Rattle.words.specs.declared.class.Placement.{Placement}
use Rattle.words.specs.declared.class.Placement.TheVariants.{Small, Large}
use Rattle.words.specs.Classes.{IsSizeClass}
use Rattle.words.specs.Placing.{placement_of}

-- what a search finds passes its test, and has what all have
found : {A : Type 0} (P : A → Type 0) (p : A → Bool) (xs : List A) (x : A) → All P xs → find p xs ≡ Some x → P x × (p x ≡ true)
found P p [] x all e = absurd (none-some x e)
found P p (y ∷ ys) x all e = by (p y) refl e (found P p ys x (λ k d lt. all (suc k) d (omega arith)))
  where
    by : (b : Bool) → p y ≡ b → cond b (Some y) (find p ys) ≡ Some x → (find p ys ≡ Some x → P x × (p x ≡ true)) → P x × (p x ≡ true)
    by true t e rest = (subst P (same_Some y x e) (all 0 y (omega arith)), ap p (sym (same_Some y x e)) ∙ t)
    by false t e rest = rest e

at_most : (limit n : ℕ) → ((n == 0) || nat_lt limit n) ≡ false → n ≤ limit
at_most limit n small = grind (arith, nat_tests)

-- A request goes to what has a property where each size class that holds it has it, and so have the pages that hold it.
pub placement_has : (P : Placement → Type 0) (limit n : ℕ) (placement : Placement) → placement_of limit n ≡ Some placement
    → ((class : ℕ) → IsSizeClass class → n ≤ class → P (Small class))
    → (MAX_SMALL_WORDS < n → n ≤ limit → P (Large (div_ceil n PAGE_WORDS))) → P placement
placement_has P limit n placement is small large = outer ((n == 0) || nat_lt limit n) refl is
  where
    classes : All IsSizeClass CLASSES
    classes = AllPass-from_list_all (λ x. list_any (λ c. c == x) CLASSES) CLASSES refl

    in_class : (o : Option ℕ) → ((c : ℕ) → o ≡ Some c → P (Small c)) → option_map Small o ≡ Some placement → P placement
    in_class None h e = absurd (none-some placement e)
    in_class (Some c) h e = subst P (same_Some _ _ e) (h c refl)

    inner : (b : Bool) → nat_le n MAX_SMALL_WORDS ≡ b → n ≤ limit → cond b (option_map Small (find (λ c. nat_le n c) CLASSES)) (Some (Large (div_ceil n PAGE_WORDS))) ≡ Some placement → P placement
    inner true t few e = in_class _ (λ c f. let x = found IsSizeClass (λ c. nat_le n c) CLASSES c classes f in small c x.0 (leb-true n c x.1)) e
    inner false t few e = subst P (same_Some _ _ e) (large (leb-false n MAX_SMALL_WORDS t) few)

    outer : (b : Bool) → ((n == 0) || nat_lt limit n) ≡ b
        → cond b None (cond (nat_le n MAX_SMALL_WORDS) (option_map Small (find (λ c. nat_le n c) CLASSES)) (Some (Large (div_ceil n PAGE_WORDS)))) ≡ Some placement → P placement
    outer true t e = absurd (none-some placement e)
    outer false t e = inner (nat_le n MAX_SMALL_WORDS) refl (at_most limit n t) e
