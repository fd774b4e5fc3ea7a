-- Helpers that come to a crew and leave it, the last one first.
use Rattle.std.proofs.Common.{◌≡◌, ℕ, ◌+◌, List, [], ◌∷◌, ◌++◌, length, get_or, sym, ap, ◌∙◌, subst, ⊎_elim, arith}
use Rattle.std.proofs.Math.Seq.{get_or-append_seam}
use Rattle.std.proofs.lemmas.Bool.{cases_lt}
use Rattle.std.proofs.lemmas.List.{get_or_append_left, length-append}
use Rattle.test_marking.specs.Crew.{Each}

module _ {A : Type 0} (P : ℕ → A → Type 0) (crew : List A) (h : A) where
  -- one more comes
  pub each_push : (new : List A) → new ≡ crew ++ h ∷ [] → Each P crew → P (length crew) h → Each P new
  each_push new is all one i d lt =
      let size : length new ≡ length crew + length (h ∷ []) = ap length is ∙ length-append crew (h ∷ []) in
      subst (λ (l : List A). P i (get_or l i d)) (sym is)
      (⊎_elim
      (λ low. subst (P i) (sym (get_or_append_left crew (h ∷ []) d i low)) (all i d low))
      (λ high.
      let e : i ≡ length crew = omega (arith, high, lt, size) in
      subst (λ (n : ℕ). P n (get_or (crew ++ h ∷ []) n d)) (sym e) (subst (P (length crew)) (sym (get_or-append_seam crew h [] d)) one))
      (cases_lt i (length crew)))

  -- the last one leaves
  pub each_rest : (old : List A) → old ≡ crew ++ h ∷ [] → Each P old → Each P crew
  each_rest old is all i d lt =
      let size : length old ≡ length crew + length (h ∷ []) = ap length is ∙ length-append crew (h ∷ []) in
      subst (P i) (ap (λ (l : List A). get_or l i d) is ∙ get_or_append_left crew (h ∷ []) d i lt) (all i d (omega arith))

  pub each_last : (old : List A) → old ≡ crew ++ h ∷ [] → Each P old → P (length crew) h
  each_last old is all =
      let size : length old ≡ length crew + length (h ∷ []) = ap length is ∙ length-append crew (h ∷ []) in
      subst (P (length crew)) (ap (λ (l : List A). get_or l (length crew) h) is ∙ get_or-append_seam crew h [] h) (all (length crew) h (omega arith))
