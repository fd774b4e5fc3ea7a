-- An entry anywhere on the stack is the next one to be read.
use Rattle.std.proofs.Common.{◌≡◌, ℕ, ◌+◌, ◌≤◌, [], ◌∷◌, ◌++◌, get_or, sum_by, Contains, Option, Some, refl, sym, ap, ◌∙◌, subst, inl, inr, ⊎_elim, arith}
use Rattle.std.specs.Prelude.{◌⊎◌}
use Rattle.std.proofs.lemmas.List.Sums.{sum_by-append}
use Rattle.std.proofs.lemmas.List.Elements.{Contains-append_cases, Contains-append_left, Contains-append_right}
use Rattle.block_map.specs.declared.found.Found.{Found}
use Rattle.marker.specs.declared.entry.Entry.{Entry}
use Rattle.marker.specs.Marking.{Marking, IsEntry, with_current, with_stack}
use Rattle.marker.specs.Work.{left, left_of, cost}
use Rattle.marker.specs.Entries.{IsSpent, Picks}
use Rattle.marker.proofs.Dropping.{Keeps}

module _ (found : ℕ → Option Found) (a b : Marking) (x : Picks found a b) where
  -- what is in the stack before is in it still, or is the one that is picked
  waits : (e : Entry) → Contains (x.lower ++ x.entry ∷ x.upper) e → (b.current ≡ Some e) ⊎ Contains b.stack e
  waits e h =
      ⊎_elim
      (λ l. inr (subst (λ s. Contains s e) (sym (ap (λ (m : Marking). m.stack) x.new_is)) (Contains-append_left x.lower x.upper e l)))
      (λ r. ⊎_elim
      (λ (t : Contains (x.entry ∷ []) e).
      let l = t.1 in let z : t.0 ≡ 0 = omega arith in
      inl (ap (λ (m : Marking). m.current) x.new_is ∙ ap Some (sym (ap (λ j. get_or (x.entry ∷ []) j e) z) ∙ t.2)))
      (λ u. inr (subst (λ s. Contains s e) (sym (ap (λ (m : Marking). m.stack) x.new_is)) (Contains-append_right x.lower x.upper e u)))
      (Contains-append_cases (x.entry ∷ []) x.upper e r))
      (Contains-append_cases x.lower (x.entry ∷ x.upper) e h)

  picked_entry : (e : Entry) → IsEntry a e → IsEntry b e ⊎ IsSpent found a e
  picked_entry e one = ⊎_elim (λ c. inr (x.spent e c)) (λ h. inl (waits e (subst (λ s. Contains s e) x.stack h))) one

  fewer : cost found (with_current (with_stack a (x.lower ++ x.upper)) x.entry) ≤ cost found a
  unfolding cost
  fewer =
      let s : sum_by (left found) a.stack ≡ sum_by (left found) x.lower + sum_by (left found) (x.entry ∷ x.upper) = ap (sum_by (left found)) x.stack ∙ sum_by-append (left found) x.lower (x.entry ∷ x.upper) in
      let p = sum_by-append (left found) x.lower x.upper in
      let t : sum_by (left found) (x.entry ∷ x.upper) ≡ 0 + left found x.entry + sum_by (left found) x.upper = sum_by-append (left found) (x.entry ∷ []) x.upper in
      let c : left_of found (with_current (with_stack a (x.lower ++ x.upper)) x.entry).current ≡ left found x.entry = refl in
      let r : sum_by (left found) (with_current (with_stack a (x.lower ++ x.upper)) x.entry).stack ≡ sum_by (left found) (x.lower ++ x.upper) = refl in
      omega arith

  pub picks_keeps : Keeps found a b
  picks_keeps = record {
    marks = ap (λ (m : Marking). m.marks) x.new_is;
    dirty = ap (λ (m : Marking). m.dirty) x.new_is;
    carried = ap (λ (m : Marking). m.carried) x.new_is;
    kept = picked_entry;
    current = λ e c. inl (x.spent e c);
    cost = subst (λ m. cost found m ≤ cost found a) (sym x.new_is) fewer;
  }
