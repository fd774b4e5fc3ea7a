-- The entries of the stack change places.
use Rattle.std.proofs.Common.{◌≡◌, ℕ, ◌+◌, ◌<◌, ◌≤◌, List, [], ◌∷◌, ◌++◌, length, get_or, IsPermutation, Option, refl, sym, ap, ◌∙◌, subst, inl, inr, ⊎_elim, append_assoc, arith}
use Rattle.std.proofs.lemmas.List.{length_push, get_or_push}
use Rattle.std.proofs.lemmas.List.Sorted.{Contains-permutation, IsPermutation-append_comm, IsPermutation-append_right, IsPermutation-sym, length_permutation, sum_by-IsPermutation}
use Rattle.block_map.specs.declared.found.Found.{Found}
use Rattle.marker.specs.declared.entry.Entry.{Entry}
use Rattle.marker.specs.Marking.{Marking, IsConsistent, with_stack}
use Rattle.marker.specs.Work.{left, cost}
use Rattle.marker.specs.Entries.{AreSwapped, AreUnreadFrom, Turns}
use Rattle.marker.proofs.Dropping.{Keeps}
use Rattle.marker.proofs.Known.{from_first, from_push}

module _ (found : ℕ → Option Found) (a b : Marking) (x : Turns found a b) where
  no_dearer : cost found (with_stack a b.stack) ≤ cost found a
  unfolding cost
  no_dearer = (let s = sum_by-IsPermutation (left found) a.stack b.stack x.turned.moves in omega arith)

  pub turns_keeps : Keeps found a b
  turns_keeps = record {
    marks = ap (λ (m : Marking). m.marks) x.turned.new_is;
    dirty = ap (λ (m : Marking). m.dirty) x.turned.new_is;
    carried = ap (λ (m : Marking). m.carried) x.turned.new_is;
    kept = λ e one. ⊎_elim (λ c. inr (x.spent e c)) (λ h. inl (inr (Contains-permutation a.stack b.stack e x.turned.moves h))) one;
    current = λ e c. inl (x.spent e c);
    cost = subst (λ m. cost found m ≤ cost found a) (sym x.turned.new_is) no_dearer;
  }

-- the marker is as consistent
pub consistent_turned : (m : Marking) (es : List Entry) → IsConsistent m → IsPermutation m.stack es → IsConsistent (with_stack m es)
consistent_turned m es c p = record {
  marks = c.marks;
  few = c.few;
  carried = c.carried;
  room = (let l = length_permutation m.stack es p in let r = c.room in omega arith);
  unread = λ e h. c.unread e (Contains-permutation es m.stack e (IsPermutation-sym m.stack es p) h);
}

-- the two on top change places
module _ (old new : List Entry) (x : AreSwapped old new) where
  pub second_moves : IsPermutation old new
  second_moves =
      subst (λ l. IsPermutation l new) (sym (x.was ∙ append_assoc x.below (x.second ∷ []) (x.top ∷ [])))
      (subst (IsPermutation (x.below ++ x.second ∷ x.top ∷ [])) (sym (x.are ∙ append_assoc x.below (x.top ∷ []) (x.second ∷ [])))
      (IsPermutation-append_right x.below (x.second ∷ x.top ∷ []) (x.top ∷ x.second ∷ []) (IsPermutation-append_comm (x.second ∷ []) (x.top ∷ []))))

  -- those that were known are known, if both were
  pub second_known : (found : ℕ → Option Found) (m : Marking) (n : ℕ) → n + 1 < length old → AreUnreadFrom found m n old → AreUnreadFrom found m n new
  second_known found m n low k =
      let s = x.below in let top = x.top in let second = x.second in
      let a = s ++ second ∷ [] in
      let l = length_push a top in let j = length_push s second in
      let size : length old ≡ length s + 2 = (let p : length old ≡ length (a ++ top ∷ []) = ap length x.was in omega arith) in
      let first = from_first found m n a (top ∷ []) (subst (AreUnreadFrom found m n) x.was k) in
      let t = k.each (length s + 1) top (omega arith) (omega arith) (ap (λ es. get_or es (length s + 1) top) x.was ∙ get_or_push a top top (length s + 1) (omega arith)) in
      let u = first.each (length s) second (omega arith) (omega arith) (get_or_push s second second (length s) refl) in
      let rest = from_first found m n s (second ∷ []) first in
      subst (AreUnreadFrom found m n) (sym x.are) (from_push found m n (s ++ top ∷ []) second (from_push found m n s top rest t) u)
