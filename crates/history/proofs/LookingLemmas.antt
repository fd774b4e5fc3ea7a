-- The loads by which a pass learns more of the history keep the rule.
use Rattle.std.proofs.Common.{◌≡◌, ℕ, ◌≤◌, ◌⊎◌, leb, inl, inr, Bool, true, false, cond, List, [], ◌∷◌, length, set, refl, ap, sym, subst, arith}
use Rattle.std.specs.Prelude.{slice_index}
use mathlib.Core.Option.{some}
use mathlib.Core.List.{IsPrefix}
use lib.ListN.{get_elem?}
use Rattle.std.proofs.lemmas.Bool.{leb-true, leb-false}
use native.Mathlib.Decide.{dec_le}
use Rattle.atomic_table.specs.Table.{State, Me, keeps, Allows}
use Rattle.history.specs.declared.object.Rank.{Rank}
use Rattle.history.specs.declared.made.Made.{Made}
use Rattle.history.specs.declared.view.Known.{Known}
use Rattle.history.specs.declared.view.View.{View}
use Rattle.history.specs.Histories.{GrowsByOthers}
use Rattle.history.specs.Passes.{longer}
use Rattle.history.specs.Plays.{learnt, Learnt, saw, Saw, met, Met, heard, Heard}
use Rattle.history.specs.Rules.{keeping, holding, HasSeenPart, IsTrueOfView, Standing, Kept}
use Rattle.history.proofs.Fronts.{prefix_self, prefix_shorter}
use Rattle.history.proofs.Growing.{prefix_of, grows_within, owned_grows}
use Rattle.history.proofs.Fitting.{has_one, owned_whole, follows_whole, fits_set, at_keeper}
use Rattle.history.proofs.Tallies.{tally_set, tally_one}

module _ {C R : Type 0} (rank : C → Rank) (legal : List (Made C R) → Type 0) where
  -- a step that appends nothing
  stays : (ws : List ℕ) (views : List (View C R)) (log : List (Made C R)) (id : ℕ) (v w : View C R) → Standing rank legal ws views log → get_elem? views id ≡ some v → IsTrueOfView rank log w → keeping w ≡ keeping v → ((who : ℕ) → holding who w ≡ holding who v)
      → Standing rank legal (set ws 0 (slice_index ws 0)) (set views id w) log
  stays ws views log id v w st at fw kw hw = record {
    words_are = ap (λ (x : List ℕ). set x 0 (slice_index x 0)) st.words_are;
    is_legal = st.is_legal;
    fits = fits_set rank log views id w (λ j u _ there. st.fits j u there) fw;
    keepers = omega (arith, st.keepers, tally_set keeping views id v w at, kw);
    holders = λ who. omega (arith, st.holders who, tally_set (holding who) views id v w at, hw who);
  }

  -- the keeper's guest learns the whole history
  pub kept_learns : (slots id : ℕ) (me : Me Unit (View C R)) → me.0.keeps ≡ true → me.0.hosts ≡ true
      → Allows (λ (s : State Unit (View C R)). Kept rank legal s.words s.views) slots id me 0 (λ n. n) (λ n w. Learnt rank me w)
  kept_learns slots id me kv hv s kept len at lt =
      let st = at_keeper rank legal s.words s.views id me.0 kept at kv in
      let f = st.fits id me.0 at in
      let o = owned_whole rank me.0.log me.0.guest (f.guest hv) in (
        learnt me.0,
        keeps,
        tt,
        (me.0.log, stays s.words s.views me.0.log id me.0 (learnt me.0) st at (record { part = f.part; keeper = f.keeper; pass = f.pass; guest = λ t. follows_whole rank me.0.log me.0.guest.slot me.0.guest.mine o }) refl (λ who. refl)),
        record { before = (f.guest hv).grows; owned = o; view_is = refl },
      )

  index_of : (ws : List ℕ) (n : ℕ) → ws ≡ n ∷ [] → slice_index ws 0 ≡ n
  index_of ws n e = ap (λ (x : List ℕ). slice_index x 0) e

  -- a pass sees the history as it is
  pub kept_sees : (slots id : ℕ) (me : Me Unit (View C R)) → me.0.holds ≡ true
      → Allows (λ (s : State Unit (View C R)). Kept rank legal s.words s.views) slots id me 0 (λ n. n) (λ n w. Saw rank legal me n w)
  kept_sees slots id me hv s kept len at lt =
      let st = kept.1 in
      let f = st.fits id me.0 at in
      let o = owned_whole rank kept.0 me.0.pass (f.pass hv) in (
        saw kept.0 me.0,
        keeps,
        tt,
        (kept.0, stays s.words s.views kept.0 id me.0 (saw kept.0 me.0) st at (record { part = f.part; keeper = f.keeper; pass = λ t. follows_whole rank kept.0 me.0.pass.slot me.0.pass.mine o; guest = f.guest }) refl (λ who. refl)),
        record { log = kept.0; before = (f.pass hv).grows; is_legal = st.is_legal; owned = o; found_is = index_of s.words _ st.words_are; view_is = refl },
      )

  longer_prefix : (xs ys log : List (Made C R)) (b : Bool) → leb (length xs) (length ys) ≡ b → IsPrefix xs log → IsPrefix ys log → IsPrefix (longer xs ys) log
  longer_prefix xs ys log true e p q = subst (λ (b : Bool). IsPrefix (cond b ys xs) log) (sym e) q
  longer_prefix xs ys log false e p q = subst (λ (b : Bool). IsPrefix (cond b ys xs) log) (sym e) p

  first_begins : (xs ys log : List (Made C R)) (b : Bool) → leb (length xs) (length ys) ≡ b → IsPrefix xs log → IsPrefix ys log → IsPrefix xs (longer xs ys)
  first_begins xs ys log true e p q = subst (λ (b : Bool). IsPrefix xs (cond b ys xs)) (sym e) (prefix_shorter xs ys log p q (leb-true (length xs) (length ys) e))
  first_begins xs ys log false e p q = subst (λ (b : Bool). IsPrefix xs (cond b ys xs)) (sym e) (prefix_self xs)

  second_begins : (xs ys log : List (Made C R)) (b : Bool) → leb (length xs) (length ys) ≡ b → IsPrefix xs log → IsPrefix ys log → IsPrefix ys (longer xs ys)
  second_begins xs ys log true e p q = subst (λ (b : Bool). IsPrefix ys (cond b ys xs)) (sym e) (prefix_self ys)
  second_begins xs ys log false e p q = let less = leb-false (length xs) (length ys) e in subst (λ (b : Bool). IsPrefix ys (cond b ys xs)) (sym e) (prefix_shorter ys xs log q p (omega (arith, less)))

  shorter_grows : (log : List (Made C R)) (p q : Known C R) → HasSeenPart rank log p → HasSeenPart rank log q → length p.seen ≤ length q.seen → GrowsByOthers p.slot p.seen q.seen
  shorter_grows log p q f g h =
      let top = prefix_of q.slot q.seen log g.grows in
      (grows_within p.slot p.seen q.seen log (prefix_shorter p.seen q.seen log (prefix_of p.slot p.seen log f.grows) top h) top f.grows).0

  one_grows : (log : List (Made C R)) (p q : Known C R) → HasSeenPart rank log p → HasSeenPart rank log q → Dec (length p.seen ≤ length q.seen) → GrowsByOthers p.slot p.seen q.seen ⊎ GrowsByOthers q.slot q.seen p.seen
  one_grows log p q f g (yes h) = inl (shorter_grows log p q f g h)
  one_grows log p q f g (no n) = inr (shorter_grows log q p g f (omega arith))

  -- a pass that has seen more of the history than before
  follows_more : (log more : List (Made C R)) (p : Known C R) → HasSeenPart rank log p → IsPrefix p.seen more → IsPrefix more log → HasSeenPart rank log (record { slot = p.slot; seen = more; mine = p.mine })
  follows_more log more p f longer_is top =
      let both = grows_within p.slot p.seen more log longer_is top f.grows in
      record { grows = both.1; owned = owned_grows rank p.slot p.seen more p.mine both.0 f.owned }

  -- a pass and the guest at its seat take the longer of what the two have seen
  pub kept_meets : (slots id : ℕ) (me : Me Unit (View C R)) → me.0.holds ≡ true → me.0.hosts ≡ true
      → Allows (λ (s : State Unit (View C R)). Kept rank legal s.words s.views) slots id me 0 (λ n. n) (λ n w. Met rank me w)
  kept_meets slots id me hp hg s kept len at lt =
      let st = kept.1 in
      let f = st.fits id me.0 at in
      let p = f.pass hp in
      let q = f.guest hg in
      let a = me.0.pass.seen in
      let b = me.0.guest.seen in
      let a_in = prefix_of me.0.pass.slot a kept.0 p.grows in
      let b_in = prefix_of me.0.guest.slot b kept.0 q.grows in
      let top = longer_prefix a b kept.0 (leb (length a) (length b)) refl a_in b_in in
      let pass = follows_more kept.0 (longer a b) me.0.pass p (first_begins a b kept.0 (leb (length a) (length b)) refl a_in b_in) top in
      let guest = follows_more kept.0 (longer a b) me.0.guest q (second_begins a b kept.0 (leb (length a) (length b)) refl a_in b_in) top in
      let apart = λ (same : me.0.pass.slot ≡ me.0.guest.slot). absurd {A = ⊥} (omega (arith, st.holders me.0.pass.slot, tally_one (holding me.0.pass.slot) s.views id me.0 at, has_one me.0.pass.slot me.0.holds me.0.pass hp refl, has_one me.0.pass.slot me.0.hosts me.0.guest hg (sym same))) in (
        met me.0,
        keeps,
        tt,
        (kept.0, stays s.words s.views kept.0 id me.0 (met me.0) st at (record { part = f.part; keeper = f.keeper; pass = λ t. pass; guest = λ t. guest }) refl (λ who. refl)),
        record { one = one_grows kept.0 me.0.pass me.0.guest p q (dec_le (length a) (length b)); apart = apart; pass_owned = pass.owned; guest_owned = guest.owned; view_is = refl },
      )

  -- a pass takes the longer of what it has seen and what its seat was told
  pub kept_hears : (slots id : ℕ) (me : Me Unit (View C R)) → me.0.holds ≡ true
      → Allows (λ (s : State Unit (View C R)). Kept rank legal s.words s.views) slots id me 0 (λ n. n) (λ n w. Heard rank me w)
  kept_hears slots id me hp s kept len at lt =
      let st = kept.1 in
      let f = st.fits id me.0 at in
      let p = f.pass hp in
      let a = me.0.pass.seen in
      let b = me.0.log in
      let a_in = prefix_of me.0.pass.slot a kept.0 p.grows in
      let top = longer_prefix a b kept.0 (leb (length a) (length b)) refl a_in f.part in
      let pass = follows_more kept.0 (longer a b) me.0.pass p (first_begins a b kept.0 (leb (length a) (length b)) refl a_in f.part) top in (
        heard me.0,
        keeps,
        tt,
        (kept.0, stays s.words s.views kept.0 id me.0 (heard me.0) st at (record { part = f.part; keeper = f.keeper; pass = λ t. pass; guest = f.guest }) refl (λ who. refl)),
        record { one = told_grows kept.0 me.0.pass b p f.part (dec_le (length a) (length b)); owned = pass.owned; view_is = refl },
      )
    where
      told_grows : (log : List (Made C R)) (p : Known C R) (b : List (Made C R)) → HasSeenPart rank log p → IsPrefix b log → Dec (length p.seen ≤ length b) → GrowsByOthers p.slot p.seen b ⊎ IsPrefix b p.seen
      told_grows log p b q top (yes h) = inl (grows_within p.slot p.seen b log (prefix_shorter p.seen b log (prefix_of p.slot p.seen log q.grows) top h) top q.grows).0
      told_grows log p b q top (no n) = inr (prefix_shorter b p.seen log top (prefix_of p.slot p.seen log q.grows) (omega arith))
