-- Words with a space between two.
use Rattle.std.proofs.Common.{◌≡◌, ℕ, List, [], ◌∷◌, ◌++◌, refl, sym, ap, ◌∙◌, append_assoc}
use Rattle.std.specs.List.{join_with_byte}

-- one word more
pub join-push : (c : ℕ) (w : List ℕ) (ws : List (List ℕ)) (x : List ℕ) → join_with_byte c (w ∷ (ws ++ x ∷ [])) ≡ join_with_byte c (w ∷ ws) ++ c ∷ x
join-push c w [] x = refl
join-push c w (v ∷ vs) x = ap (λ t. w ++ c ∷ t) (join-push c v vs x) ∙ sym (append_assoc w (c ∷ join_with_byte c (v ∷ vs)) (c ∷ x))
