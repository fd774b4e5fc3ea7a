-- The steps that append an event keep the rule, and what the table is at the start meets it.
use Rattle.std.proofs.Common.{◌≡◌, ℕ, zero, suc, ◌+◌, ◌%◌, ◌^◌, ◌≤◌, ◌≢◌, true, false, true≢false, List, [], ◌∷◌, ◌++◌, set, refl, ap, sym, ◌∙◌, subst, arith}
use Rattle.std.specs.Prelude.{slice_index}
use mathlib.Core.Option.{some, some-ne-none, some-injective}
use lib.ListN.{get_elem?}
use native.Mathlib.Decide.{ℕ_discrete}
use Rattle.atomic_table.specs.Table.{State, Me, keeps, Allows}
use Rattle.history.specs.declared.object.TheConstants.{COLLECTOR}
use Rattle.history.specs.declared.object.Rank.{Rank}
use Rattle.history.specs.declared.made.Made.{Made}
use Rattle.history.specs.declared.view.View.{View}
use Rattle.history.specs.Histories.{is_first, is_last, is_live}
use Rattle.history.specs.Passes.{Owned}
use Rattle.history.specs.Plays.{MayAppend, acted, Acted, began, Began, ended, Ended}
use Rattle.history.specs.Rules.{tally, keeping, holding, IsTrueOfView, Standing, Kept}
use Rattle.history.specs.Views.{opener}
use Rattle.history.proofs.Fronts.{prefix_self}
use Rattle.history.proofs.Fitting.{off, has_one, has_none, alone, sole, owned_whole, follows_whole, follows_longer, fits_longer, fits_set, at_keeper}
use Rattle.history.proofs.Tallies.{tally_set, tally_one, tally_none}
use Rattle.history.proofs.Snocs.{count_snoc, own_first, own_more, live_here}

module _ {C R : Type 0} (rank : C → Rank) (legal : List (Made C R) → Type 0) where
  -- the keeper appends an event of a slot of which no other seat has a pass
  appends : (ws : List ℕ) (views : List (View C R)) (id : ℕ) (v w : View C R) (said : List (Made C R)) (e : Made C R) (k : ℕ) → Standing rank legal ws views v.log → get_elem? views id ≡ some v → MayAppend rank legal said k v e → IsTrueOfView rank (v.log ++ e ∷ []) w → keeping w ≡ keeping v
      → ((j : ℕ) (u : View C R) → j ≢ id → get_elem? views j ≡ some u → 1 ≤ holding e.who u → ⊥)
      → ((who : ℕ) → tally (holding who) (set views id w) ≤ 1)
      → Standing rank legal (set ws 0 ((slice_index ws 0 + k) % 2 ^ 64)) (set views id w) (v.log ++ e ∷ [])
  appends ws views id v w said e k st at may fw same apart hs = record {
    words_are = ap (λ (x : List ℕ). set x 0 ((slice_index x 0 + k) % 2 ^ 64)) st.words_are ∙ ap (λ (n : ℕ). n ∷ []) (omega (arith, count_snoc rank v.log e, may.add_is));
    is_legal = may.is_legal;
    fits = fits_set rank (v.log ++ e ∷ []) views id w (λ j u ne there. fits_longer rank v.log e u (st.fits j u there) (alone views id j v u st.keepers at may.keeps_it ne there) (apart j u ne there)) fw;
    keepers = omega (arith, st.keepers, tally_set keeping views id v w at, same);
    holders = hs;
  }

  owned_more : (slot : ℕ) (log mine : List (Made C R)) (e : Made C R) → slot ≡ e.who → is_first (rank e.call) ≡ false → is_last (rank e.call) ≡ false → Owned rank slot log mine → Owned rank slot (log ++ e ∷ []) (mine ++ e ∷ [])
  owned_more slot log mine e sv nf nl o = record {
    own_is = ap (λ l. l ++ e ∷ []) o.own_is ∙ sym (own_more rank slot log e (sym sv) nf);
    live = live_here rank slot log e (sym sv) nl;
  }

  owned_first : (log : List (Made C R)) (e : Made C R) → is_first (rank e.call) ≡ true → is_last (rank e.call) ≡ false → Owned rank e.who (log ++ e ∷ []) (e ∷ [])
  owned_first log e yf nl = record { own_is = sym (own_first rank e.who log e refl yf); live = live_here rank e.who log e refl nl }

  -- the keeper's guest is the one pass of its slot
  guest_alone : (views : List (View C R)) (id : ℕ) (v : View C R) (who : ℕ) → tally (holding who) views ≤ 1 → get_elem? views id ≡ some v → v.hosts ≡ true → v.guest.slot ≡ who → v.holds ≡ true → who ≢ v.pass.slot
  guest_alone views id v who one at hv sv t same = omega (arith, one, tally_one (holding who) views id v at, has_one who v.hosts v.guest hv sv, has_one who v.holds v.pass t (sym same))

  acts_at : (ws : List ℕ) (views : List (View C R)) (id : ℕ) (v : View C R) (said : List (Made C R)) (e : Made C R) (k : ℕ) → Standing rank legal ws views v.log → get_elem? views id ≡ some v
      → MayAppend rank legal said k v e → v.hosts ≡ true → v.guest.slot ≡ e.who → is_first (rank e.call) ≡ false → is_last (rank e.call) ≡ false
      → Standing rank legal (set ws 0 ((slice_index ws 0 + k) % 2 ^ 64)) (set views id (acted (e ∷ []) v)) (v.log ++ e ∷ [])
  acts_at ws views id v said e k st at may hv sv nf nl =
      let f = st.fits id v at in
      appends ws views id v (acted (e ∷ []) v) said e k st at may
      (record {
        part = prefix_self (v.log ++ e ∷ []);
        keeper = λ _. refl;
        pass = λ t. follows_longer rank v.log e v.pass (f.pass t) (guest_alone views id v e.who (st.holders e.who) at hv sv t);
        guest = λ _. follows_whole rank (v.log ++ e ∷ []) v.guest.slot (v.guest.mine ++ e ∷ []) (owned_more v.guest.slot v.log v.guest.mine e sv nf nl (owned_whole rank v.log v.guest (f.guest hv)));
      })
      refl
      (λ j u ne there hu. sole views id j v u e.who (st.holders e.who) at (omega (arith, has_one e.who v.hosts v.guest hv sv)) ne there hu)
      (λ who. omega (arith, st.holders who, tally_set (holding who) views id v (acted (e ∷ []) v) at))

  -- an event of the keeper's guest
  pub kept_acts : (slots id : ℕ) (me : Me Unit (View C R)) (said : List (Made C R)) (e : Made C R) (k : ℕ)
      → MayAppend rank legal said k me.0 e → me.0.hosts ≡ true → me.0.guest.slot ≡ e.who → is_first (rank e.call) ≡ false → is_last (rank e.call) ≡ false
      → Allows (λ (s : State Unit (View C R)). Kept rank legal s.words s.views) slots id me 0 (λ n. (n + k) % 2 ^ 64) (λ n w. Acted rank (e ∷ []) me w)
  kept_acts slots id me said e k may hv sv nf nl s kept len at lt =
      let st = at_keeper rank legal s.words s.views id me.0 kept at may.keeps_it in
      let p = (st.fits id me.0 at).guest hv in (
        acted (e ∷ []) me.0,
        keeps,
        tt,
        (me.0.log ++ e ∷ [], acts_at s.words s.views id me.0 said e k st at may hv sv nf nl),
        record { before = p.grows; owned = owned_more me.0.guest.slot me.0.log me.0.guest.mine e sv nf nl (owned_whole rank me.0.log me.0.guest p); view_is = refl },
      )

  ends_at : (ws : List ℕ) (views : List (View C R)) (id : ℕ) (v : View C R) (said : List (Made C R)) (e : Made C R) (k : ℕ) → Standing rank legal ws views v.log → get_elem? views id ≡ some v
      → MayAppend rank legal said k v e → v.hosts ≡ true → v.guest.slot ≡ e.who
      → Standing rank legal (set ws 0 ((slice_index ws 0 + k) % 2 ^ 64)) (set views id (ended (e ∷ []) v)) (v.log ++ e ∷ [])
  ends_at ws views id v said e k st at may hv sv =
      let f = st.fits id v at in
      appends ws views id v (ended (e ∷ []) v) said e k st at may
      (record {
        part = prefix_self (v.log ++ e ∷ []);
        keeper = λ _. refl;
        pass = λ t. follows_longer rank v.log e v.pass (f.pass t) (guest_alone views id v e.who (st.holders e.who) at hv sv t);
        guest = λ t. absurd (off t);
      })
      refl
      (λ j u ne there hu. sole views id j v u e.who (st.holders e.who) at (omega (arith, has_one e.who v.hosts v.guest hv sv)) ne there hu)
      (λ who. omega (arith, st.holders who, tally_set (holding who) views id v (ended (e ∷ []) v) at))

  -- the last event of the keeper's guest
  pub kept_ends : (slots id : ℕ) (me : Me Unit (View C R)) (said : List (Made C R)) (e : Made C R) (k : ℕ)
      → MayAppend rank legal said k me.0 e → me.0.hosts ≡ true → me.0.guest.slot ≡ e.who
      → Allows (λ (s : State Unit (View C R)). Kept rank legal s.words s.views) slots id me 0 (λ n. (n + k) % 2 ^ 64) (λ n w. Ended rank (e ∷ []) me w)
  kept_ends slots id me said e k may hv sv s kept len at lt =
      let st = at_keeper rank legal s.words s.views id me.0 kept at may.keeps_it in
      let p = (st.fits id me.0 at).guest hv in (
        ended (e ∷ []) me.0,
        keeps,
        tt,
        (me.0.log ++ e ∷ [], ends_at s.words s.views id me.0 said e k st at may hv sv),
        record { before = p.grows; owned = owned_whole rank me.0.log me.0.guest p; view_is = refl },
      )

  -- nobody has a pass of a slot that isn't live
  nobody_has : (views : List (View C R)) (log : List (Made C R)) (who : ℕ) → is_live rank who log ≡ false → ((by : ℕ) (u : View C R) → get_elem? views by ≡ some u → IsTrueOfView rank log u) → (j : ℕ) (u : View C R) → get_elem? views j ≡ some u → holding who u ≡ 0
  nobody_has views log who closed fits j u there =
      let f = fits j u there in
      let dead = λ (n : ℕ) (live : is_live rank n log ≡ true) (same : n ≡ who). true≢false (sym live ∙ (ap (λ (m : ℕ). is_live rank m log) same ∙ closed)) in
      omega (
        arith,
        has_none who u.holds u.pass (λ t. dead u.pass.slot (owned_whole rank log u.pass (f.pass t)).live),
        has_none who u.hosts u.guest (λ t. dead u.guest.slot (owned_whole rank log u.guest (f.guest t)).live),
      )

  -- a new pass beside those of the others
  new_holder : (views : List (View C R)) (id : ℕ) (v : View C R) (e : Made C R) (other : ℕ) → get_elem? views id ≡ some v → ((j : ℕ) (u : View C R) → get_elem? views j ≡ some u → holding e.who u ≡ 0) → tally (holding other) views ≤ 1 → Dec (e.who ≡ other)
      → tally (holding other) (set views id (began (e ∷ []) v)) ≤ 1
  new_holder views id v e other at free one (yes y) =
      let none : tally (holding other) views ≡ 0 = subst (λ (n : ℕ). tally (holding n) views ≡ 0) y (tally_none (holding e.who) views free) in
      let w = began (e ∷ []) v in
      omega (arith, none, tally_one (holding other) views id v at, tally_set (holding other) views id v w at, has_one other w.hosts w.guest refl y)
  new_holder views id v e other at free one (no n) =
      let w = began (e ∷ []) v in
      omega (arith, one, tally_set (holding other) views id v w at, has_none other w.hosts w.guest (λ _. n))

  begins_at : (ws : List ℕ) (views : List (View C R)) (id : ℕ) (v : View C R) (said : List (Made C R)) (e : Made C R) (k : ℕ) → Standing rank legal ws views v.log → get_elem? views id ≡ some v
      → MayAppend rank legal said k v e → is_first (rank e.call) ≡ true → is_last (rank e.call) ≡ false → is_live rank e.who v.log ≡ false
      → Standing rank legal (set ws 0 ((slice_index ws 0 + k) % 2 ^ 64)) (set views id (began (e ∷ []) v)) (v.log ++ e ∷ [])
  begins_at ws views id v said e k st at may yf nl closed =
      let free = nobody_has views v.log e.who closed st.fits in
      let f = st.fits id v at in
      appends ws views id v (began (e ∷ []) v) said e k st at may
      (record {
        part = prefix_self (v.log ++ e ∷ []);
        keeper = λ _. refl;
        pass = λ t. follows_longer rank v.log e v.pass (f.pass t) (λ same. omega (arith, free id v at, has_one e.who v.holds v.pass t (sym same)));
        guest = λ _. follows_whole rank (v.log ++ e ∷ []) e.who (e ∷ []) (owned_first v.log e yf nl);
      })
      refl
      (λ j u ne there hu. omega (arith, hu, free j u there))
      (λ who. new_holder views id v e who at free (st.holders who) (ℕ_discrete e.who who))

  -- the first event of a slot that isn't live
  pub kept_begins : (slots id : ℕ) (me : Me Unit (View C R)) (said : List (Made C R)) (e : Made C R) (k : ℕ)
      → MayAppend rank legal said k me.0 e → is_first (rank e.call) ≡ true → is_last (rank e.call) ≡ false → is_live rank e.who me.0.log ≡ false
      → Allows (λ (s : State Unit (View C R)). Kept rank legal s.words s.views) slots id me 0 (λ n. (n + k) % 2 ^ 64) (λ n w. Began rank (e ∷ []) me w)
  kept_begins slots id me said e k may yf nl closed s kept len at lt =
      let st = at_keeper rank legal s.words s.views id me.0 kept at may.keeps_it in (
        began (e ∷ []) me.0,
        keeps,
        tt,
        (me.0.log ++ e ∷ [], begins_at s.words s.views id me.0 said e k st at may yf nl closed),
        record { owned = owned_first me.0.log e yf nl; view_is = refl },
      )

  -- the table at the start
  pub kept_opens : legal [] → Kept rank legal (0 ∷ []) (opener ∷ [])
  kept_opens is_legal = (
    [],
    record {
      words_are = refl;
      is_legal = is_legal;
      fits = λ by v e. only by v e;
      keepers = omega arith;
      holders = λ who. one_slot who (ℕ_discrete COLLECTOR who);
    },
  )
    where
      only : (by : ℕ) (v : View C R) → get_elem? (opener ∷ []) by ≡ some v → IsTrueOfView rank [] v
      only zero v e = subst (λ (y : View C R). IsTrueOfView rank [] y) (some-injective _ _ e) (record { part = ([], refl); keeper = λ _. refl; pass = λ _. follows_whole rank [] COLLECTOR [] (record { own_is = refl; live = refl }); guest = λ t. absurd (off t) })
      only (suc by) v e = absurd (some-ne-none v (sym e))

      one_slot : (who : ℕ) → Dec (COLLECTOR ≡ who) → tally (holding {C = C} {R = R} who) (opener ∷ []) ≤ 1
      one_slot who (yes y) = let o : View C R = opener in omega (arith, has_one who o.holds o.pass refl y)
      one_slot who (no n) = let o : View C R = opener in omega (arith, has_none who o.holds o.pass (λ _. n))
