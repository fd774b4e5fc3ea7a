-- Histories that grow by events of other slots.
use Rattle.std.proofs.Common.{◌≡◌, ◌≢◌, ℕ, List, [], ◌∷◌, ◌++◌, sym, ap, ◌∙◌, subst, append_assoc}
use Rattle.std.proofs.lemmas.List.{append_cancel_left, append-nil}
use Rattle.std.proofs.lemmas.List.Elements.{All-nil, All-cons, All-head, All-tail, All-push}
use mathlib.Core.List.{IsPrefix}
use Rattle.history.specs.declared.object.Rank.{Rank}
use Rattle.history.specs.declared.made.Made.{Made}
use Rattle.history.specs.Histories.{AreOfOthers, GrowsByOthers}
use Rattle.history.specs.Passes.{Owned}
use Rattle.history.proofs.Snocs.{own_other, live_other}

module _ {C R : Type 0} where
  -- the event is another slot's
  abbrev IsOfOther : ℕ → Made C R → Type 0
  IsOfOther slot e = e.who ≢ slot

  pub prefix_of : (slot : ℕ) (old new : List (Made C R)) → GrowsByOthers slot old new → IsPrefix old new
  prefix_of slot old new g = (g.between, g.whole)

  pub grows_self : (slot : ℕ) (log : List (Made C R)) → GrowsByOthers slot log log
  grows_self slot log = record { between = []; others = All-nil (IsOfOther slot); whole = append-nil log }

  pub grows_more : (slot : ℕ) (old log : List (Made C R)) (e : Made C R) → e.who ≢ slot → GrowsByOthers slot old log → GrowsByOthers slot old (log ++ e ∷ [])
  grows_more slot old log e ne g = record {
    between = g.between ++ e ∷ [];
    others = All-push (IsOfOther slot) g.between e g.others ne;
    whole = sym (append_assoc old g.between (e ∷ [])) ∙ ap (λ l. l ++ e ∷ []) g.whole;
  }

  others_first : (slot : ℕ) (xs ys : List (Made C R)) → AreOfOthers slot (xs ++ ys) → AreOfOthers slot xs
  others_first slot [] ys h = All-nil (IsOfOther slot)
  others_first slot (x ∷ xs) ys h = All-cons (IsOfOther slot) x xs (All-head (IsOfOther slot) x (xs ++ ys) h) (others_first slot xs ys (All-tail (IsOfOther slot) x (xs ++ ys) h))

  others_rest : (slot : ℕ) (xs ys : List (Made C R)) → AreOfOthers slot (xs ++ ys) → AreOfOthers slot ys
  others_rest slot [] ys h = h
  others_rest slot (x ∷ xs) ys h = others_rest slot xs ys (All-tail (IsOfOther slot) x (xs ++ ys) h)

  -- a history between the two grows from the one, and to the other
  pub grows_within : (slot : ℕ) (old mid log : List (Made C R)) → IsPrefix old mid → IsPrefix mid log → GrowsByOthers slot old log → GrowsByOthers slot old mid × GrowsByOthers slot mid log
  grows_within slot old mid log p q g =
      let parts : g.between ≡ p.0 ++ q.0 = append_cancel_left old g.between (p.0 ++ q.0) (g.whole ∙ (sym q.1 ∙ (ap (λ l. l ++ q.0) (sym p.1) ∙ append_assoc old p.0 q.0))) in
      let all = subst (λ (l : List (Made C R)). AreOfOthers slot l) parts g.others in
      (record { between = p.0; others = others_first slot p.0 q.0 all; whole = p.1 }, record { between = q.0; others = others_rest slot p.0 q.0 all; whole = q.1 })

module _ {C R : Type 0} (rank : C → Rank) where
  owned_other : (slot : ℕ) (log mine : List (Made C R)) (e : Made C R) → e.who ≢ slot → Owned rank slot log mine → Owned rank slot (log ++ e ∷ []) mine
  owned_other slot log mine e ne o = record { own_is = o.own_is ∙ sym (own_other rank slot log e ne); live = live_other rank slot log e ne ∙ o.live }

  owned_others : (slot : ℕ) (log mine more : List (Made C R)) → AreOfOthers slot more → Owned rank slot log mine → Owned rank slot (log ++ more) mine
  owned_others slot log mine [] h o = subst (λ (l : List (Made C R)). Owned rank slot l mine) (sym (append-nil log)) o
  owned_others slot log mine (e ∷ es) h o =
      subst (λ (l : List (Made C R)). Owned rank slot l mine) (append_assoc log (e ∷ []) es)
      (owned_others slot (log ++ e ∷ []) mine es (All-tail (IsOfOther slot) e es h) (owned_other slot log mine e (All-head (IsOfOther slot) e es h) o))

  -- what others do leaves a slot's own events
  pub owned_grows : (slot : ℕ) (old new mine : List (Made C R)) → GrowsByOthers slot old new → Owned rank slot old mine → Owned rank slot new mine
  owned_grows slot old new mine g o = subst (λ (l : List (Made C R)). Owned rank slot l mine) g.whole (owned_others slot old mine g.between g.others o)
