-- Entries that have no word to read are dropped, and no others.
use Rattle.std.proofs.Common.{◌≡◌, ℕ, ◌*◌, ◌≤◌, List, [], length, Option, Some, None, refl, sym, ap, subst, inl, inr, ⊎_elim, arith}
use Rattle.std.specs.Prelude.{◌⊎◌}
use Rattle.std.proofs.lemmas.Option.{same_Some}
use Rattle.std.proofs.lemmas.Bool.{cases_eq}
use Rattle.words.specs.declared.limits.TheConstants.{PAGE_BYTES}
use Rattle.words.specs.Bits.{Has}
use Rattle.words.specs.Layout.{granule, page_of}
use Rattle.block_map.specs.declared.found.Found.{Found}
use Rattle.marker.specs.declared.entry.Entry.{Entry}
use Rattle.marker.specs.Marking.{Marking, IsEntry, IsLeftToEntry, IsOutside, word_address}
use Rattle.marker.specs.Work.{cost}
use Rattle.marker.specs.Invariant.{DirtyPageInvariant, CarriedPageInvariant, IsSettled}
use Rattle.marker.specs.Closure.{held}
use Rattle.marker.specs.Growth.{Traces}
use Rattle.marker.specs.Entries.{IsSpent, IsReadOut, TakesOff, IsBelow}
use Rattle.marker.proofs.Growing.{below_refl}

same_entry : (a b : Entry) → (a ≡ b) ⊎ (a ≡ b → ⊥)
same_entry a b =
    ⊎_elim
    (λ (x : a.base ≡ b.base).
    ⊎_elim
    (λ (y : a.next ≡ b.next). ⊎_elim (λ (l : a.len ≡ b.len). inl (λ i. record { base = x i; next = y i; len = l i })) (λ n. inr (λ e. n (ap (λ (z : Entry). z.len) e))) (cases_eq a.len b.len))
    (λ n. inr (λ e. n (ap (λ (z : Entry). z.next) e))) (cases_eq a.next b.next))
    (λ n. inr (λ e. n (ap (λ (z : Entry). z.base) e))) (cases_eq a.base b.base)

pub is_current : (o : Option Entry) (e : Entry) → (o ≡ Some e) ⊎ (o ≡ Some e → ⊥)
is_current None e = inr (λ h. absurd (cc h))
is_current (Some x) e = ⊎_elim (λ s. inl (ap Some s)) (λ n. inr (λ h. n (same_Some x e h))) (same_entry x e)

-- Each entry is kept or has no word to read, and nothing but entries changes. Where the one that is being read is kept, so is the stack.
pub record Keeps (found : ℕ → Option Found) (a b : Marking) : Type 0 where
  pub marks : b.marks ≡ a.marks
  pub dirty : b.dirty ≡ a.dirty
  pub carried : b.carried ≡ a.carried
  pub kept : (e : Entry) → IsEntry a e → IsEntry b e ⊎ IsSpent found a e
  pub current : (e : Entry) → a.current ≡ Some e → IsSpent found a e ⊎ ((b.current ≡ Some e) × (a.stack ≡ b.stack))
  pub cost : cost found b ≤ cost found a

module _ (found : ℕ → Option Found) (a b : Marking) (x : Keeps found a b) where
  keeps_traced : (words : List ℕ) → DirtyPageInvariant found words a → DirtyPageInvariant found words b
  keeps_traced words t f is n k i lt =
      ⊎_elim (λ g. inl (λ o e. subst (λ y. Has y (granule o.base)) (sym x.marks) (g o e)))
      (λ w. inr (⊎_elim (λ d. inl (subst (λ y. Has y (page_of (word_address f i))) (sym x.dirty) d))
      (λ (p : IsLeftToEntry a f.base i). ⊎_elim (λ one. inr (record { entry = p.entry; one = one; same = p.same; left = p.left }))
      (λ (s : IsSpent found a p.entry). absurd (let l = s f is (sym p.same) n (subst (λ y. Has y (granule f.base)) x.marks k) in let q = p.left in omega arith)) (x.kept p.entry p.one)) w))
      (t f is n (subst (λ y. Has y (granule f.base)) x.marks k) i lt)

  still_settled : (p w : ℕ) → IsSettled found a p w → IsSettled found b p w
  still_settled p w (IsSettled.held g e k) = IsSettled.held g e (subst (λ y. Has y (granule g.base)) (sym x.marks) k)
  still_settled p w (IsSettled.outside o) = IsSettled.outside (subst (λ (n : ℕ). IsOutside (PAGE_BYTES * n) w) (sym (ap length x.dirty)) o)
  still_settled p w (IsSettled.carried h) = IsSettled.carried (subst (λ r. Has r (page_of p)) (sym x.carried) h)

  keeps_carried : (words : List ℕ) → CarriedPageInvariant found words a → CarriedPageInvariant found words b
  keeps_carried words t f is n k i lt =
      ⊎_elim (λ g. inl (still_settled _ _ g))
      (λ w. inr (⊎_elim (λ d. inl (subst (λ y. Has y (page_of (word_address f i))) (sym x.dirty) d))
      (λ (p : IsLeftToEntry a f.base i). ⊎_elim (λ one. inr (record { entry = p.entry; one = one; same = p.same; left = p.left }))
      (λ (s : IsSpent found a p.entry). absurd (let l = s f is (sym p.same) n (subst (λ y. Has y (granule f.base)) x.marks k) in let q = p.left in omega arith)) (x.kept p.entry p.one)) w))
      (t f is n (subst (λ y. Has y (granule f.base)) x.marks k) i lt)

  pub keeps_traces : (words : List ℕ) → Traces found words [] a b
  keeps_traces words = record {
    marks_len = ap length x.marks;
    dirty_len = ap length x.dirty;
    marks = λ d h. subst (λ y. Has y (granule d)) (sym x.marks) h;
    objects = λ k h. inl (subst (λ y. Has y k) x.marks h);
    within = λ f e k. held e (subst (λ y. Has y (granule f.base)) x.marks k);
    dirtied = λ p h. inl (subst (λ y. Has y p) x.dirty h);
    keeps = keeps_traced words;
    carried_len = ap length x.carried;
    carried = λ p h. subst (λ y. Has y p) (sym x.carried) h;
    strays = λ p h. inl (subst (λ y. Has y p) x.carried h);
    carries = keeps_carried words;
  }

  spent_out : (words : List ℕ) (e : Entry) → IsSpent found a e → IsReadOut found words a b e
  spent_out words e p f is h n k i le lt = absurd (let l = p f is h n k in omega arith)

  pub keeps_taken : (words : List ℕ) → TakesOff found words a b
  keeps_taken words e one =
      ⊎_elim
      (λ (c : a.current ≡ Some e).
      ⊎_elim (λ p. inr (spent_out words e p))
      (λ (s : (b.current ≡ Some e) × (a.stack ≡ b.stack)).
      inl (record { now = e; one = inl s.0; base = refl; further = omega arith; read = λ f is h i le lt. absurd (omega arith); first = λ _. (s.0, subst (λ l. IsBelow a.stack l) s.1 (below_refl a.stack)) }))
      (x.current e c))
      (λ (not : a.current ≡ Some e → ⊥).
      ⊎_elim (λ o. inl (record { now = e; one = o; base = refl; further = omega arith; read = λ f is h i le lt. absurd (omega arith); first = λ c. absurd (not c) }))
      (λ p. inr (spent_out words e p)) (x.kept e one))
      (is_current a.current e)
