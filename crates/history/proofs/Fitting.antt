-- What the rule says of one view, and what it says of two.
use Rattle.std.proofs.Common.{◌≡◌, ℕ, ◌≤◌, ◌≢◌, ◌==◌, Bool, true, false, true≢false, cond, List, [], ◌∷◌, ◌++◌, set, refl, ap, sym, ◌∙◌, subst, ⊎_elim, arith, ne_eqb, eq-eqb}
use mathlib.Core.Option.{some}
use lib.ListN.{get_elem?}
use Rattle.atomic_table.proofs.Lists.{at_set}
use Rattle.history.specs.declared.object.Rank.{Rank}
use Rattle.history.specs.declared.made.Made.{Made}
use Rattle.history.specs.declared.view.Known.{Known}
use Rattle.history.specs.declared.view.View.{View}
use Rattle.history.specs.Passes.{Owned}
use Rattle.history.specs.Rules.{tally, keeping, has, holding, HasSeenPart, IsTrueOfView, Standing, Kept}
use Rattle.history.specs.Views.{nobody}
use Rattle.history.proofs.Fronts.{prefix_more}
use Rattle.history.proofs.Growing.{grows_self, grows_more, owned_grows}
use Rattle.history.proofs.Tallies.{tally_two}

pub off : false ≡ true → ⊥
off e = true≢false (sym e)

module _ {C R : Type 0} where
  pub keeping_one : (v : View C R) → v.keeps ≡ true → keeping v ≡ 1
  keeping_one v e = ap (λ (b : Bool). cond b 1 0) e

  pub has_one : (who : ℕ) (b : Bool) (p : Known C R) → b ≡ true → p.slot ≡ who → has who b p ≡ 1
  has_one who b p e s = ap (λ (x : Bool). cond x (cond (p.slot == who) 1 0) 0) e ∙ ap (λ (x : Bool). cond x 1 0) (eq-eqb p.slot who s)

  pub has_none : (who : ℕ) (b : Bool) (p : Known C R) → (b ≡ true → p.slot ≢ who) → has who b p ≡ 0
  has_none who false p h = refl
  has_none who true p h = ap {B = ℕ} (λ (x : Bool). cond x 1 0) (ne_eqb p.slot who (h refl))

  -- no other seat keeps
  pub alone : (views : List (View C R)) (id j : ℕ) (v u : View C R) → tally keeping views ≤ 1 → get_elem? views id ≡ some v → v.keeps ≡ true → j ≢ id → get_elem? views j ≡ some u → u.keeps ≡ true → ⊥
  alone views id j v u one at kv ne there ku = omega (arith, one, keeping_one v kv, keeping_one u ku, tally_two keeping views id j v u at there (λ h. ne (sym h)))

  -- no other seat has a pass of the slot
  pub sole : (views : List (View C R)) (id j : ℕ) (v u : View C R) (who : ℕ) → tally (holding who) views ≤ 1 → get_elem? views id ≡ some v → 1 ≤ holding who v → j ≢ id → get_elem? views j ≡ some u → 1 ≤ holding who u → ⊥
  sole views id j v u who one at hv ne there hu = omega (arith, one, hv, hu, tally_two (holding who) views id j v u at there (λ h. ne (sym h)))

module _ {C R : Type 0} (rank : C → Rank) where
  -- at the whole history the pass's own events are its slot's
  pub owned_whole : (log : List (Made C R)) (p : Known C R) → HasSeenPart rank log p → Owned rank p.slot log p.mine
  owned_whole log p f = owned_grows rank p.slot p.seen log p.mine f.grows f.owned

  -- a pass that has seen the whole history
  pub follows_whole : (log : List (Made C R)) (slot : ℕ) (mine : List (Made C R)) → Owned rank slot log mine → HasSeenPart rank log (record { slot = slot; seen = log; mine = mine })
  follows_whole log slot mine o = record { grows = grows_self slot log; owned = o }

  -- an event of another slot leaves the pass as it fits
  pub follows_longer : (log : List (Made C R)) (e : Made C R) (p : Known C R) → HasSeenPart rank log p → e.who ≢ p.slot → HasSeenPart rank (log ++ e ∷ []) p
  follows_longer log e p f ne = record { grows = grows_more p.slot p.seen log e ne f.grows; owned = f.owned }

  -- an event of a slot of which the seat has no pass leaves its view as it fits, if it doesn't keep the history
  pub fits_longer : (log : List (Made C R)) (e : Made C R) (u : View C R) → IsTrueOfView rank log u → (u.keeps ≡ true → ⊥) → (1 ≤ holding e.who u → ⊥) → IsTrueOfView rank (log ++ e ∷ []) u
  fits_longer log e u f k h = record {
    part = prefix_more u.log log (e ∷ []) f.part;
    keeper = λ t. absurd (k t);
    pass = λ t. follows_longer log e u.pass (f.pass t) (λ same. h (omega (arith, has_one e.who u.holds u.pass t (sym same))));
    guest = λ t. follows_longer log e u.guest (f.guest t) (λ same. h (omega (arith, has_one e.who u.hosts u.guest t (sym same))));
  }

  -- where one view changes, the others stay as they fit
  pub fits_set : (now : List (Made C R)) (views : List (View C R)) (id : ℕ) (w : View C R) → ((j : ℕ) (u : View C R) → j ≢ id → get_elem? views j ≡ some u → IsTrueOfView rank now u) → IsTrueOfView rank now w
      → (j : ℕ) (u : View C R) → get_elem? (set views id w) j ≡ some u → IsTrueOfView rank now u
  fits_set now views id w others mine j u e =
      ⊎_elim
      (λ (x : (j ≡ id) × (w ≡ u)). subst (λ (y : View C R). IsTrueOfView rank now y) x.1 mine)
      (λ (x : (j ≢ id) × (get_elem? views j ≡ some u)). others j u x.0 x.1)
      (at_set views id j w u e)

  pub fits_nobody : (log : List (Made C R)) → IsTrueOfView rank log nobody
  fits_nobody log = record { part = (log, refl); keeper = λ t. absurd (off t); pass = λ t. absurd (off t); guest = λ t. absurd (off t) }

  -- the keeper's history is the history
  pub at_keeper : (legal : List (Made C R) → Type 0) (ws : List ℕ) (views : List (View C R)) (id : ℕ) (v : View C R) → Kept rank legal ws views → get_elem? views id ≡ some v → v.keeps ≡ true → Standing rank legal ws views v.log
  at_keeper legal ws views id v k at keeps_it = subst (λ (l : List (Made C R)). Standing rank legal ws views l) (sym ((k.1.fits id v at).keeper keeps_it)) k.1
