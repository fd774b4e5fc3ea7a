-- Rights that go from one seat to another keep the rule: nothing is added to what two seats have together.
use Rattle.std.proofs.Common.{◌≡◌, ℕ, ◌+◌, ◌≤◌, ◌≢◌, List, set, refl, ⊎_elim, arith, subst}
use mathlib.Core.Option.{some}
use lib.ListN.{get_elem?}
use Rattle.atomic_table.specs.Table.{State, Splits, Joins}
use Rattle.atomic_table.proofs.Lists.{at_set, at_snoc}
use Rattle.history.specs.declared.object.Rank.{Rank}
use Rattle.history.specs.declared.made.Made.{Made}
use Rattle.history.specs.declared.view.View.{View}
use Rattle.history.specs.Rules.{keeping, holding, IsTrueOfView, Kept}
use Rattle.history.specs.Views.{nobody, without_pass, only_pass, with_guest, without_guest, only_guest, with_pass, itself, only_log, with_log}
use Rattle.history.proofs.Fitting.{off, fits_set, fits_nobody}
use Rattle.history.proofs.Tallies.{tally_set, tally_snoc}

module _ {C R : Type 0} (rank : C → Rank) (legal : List (Made C R) → Type 0) where
  -- a view that is cut in two
  splits : (id : ℕ) (v left right : View C R) → ((log : List (Made C R)) → IsTrueOfView rank log v → IsTrueOfView rank log left × IsTrueOfView rank log right) → keeping left + keeping right ≡ keeping v → ((who : ℕ) → holding who left + holding who right ≡ holding who v)
      → Splits (λ (s : State Unit (View C R)). Kept rank legal s.words s.views) id v left right
  splits id v left right fit keep hold s k at =
      let both = fit k.0 (k.1.fits id v at) in (
        k.0,
        record {
          words_are = k.1.words_are;
          is_legal = k.1.is_legal;
          fits = λ j u e. ⊎_elim
              (λ was. fits_set rank k.0 s.views id left (λ i x _ h. k.1.fits i x h) both.0 j u was)
              (λ (same : right ≡ u). subst (λ (y : View C R). IsTrueOfView rank k.0 y) same both.1)
              (at_snoc (set s.views id left) right u j e);
          keepers = omega (arith, k.1.keepers, keep, tally_set keeping s.views id v left at, tally_snoc keeping (set s.views id left) right);
          holders = λ who. omega (arith, k.1.holders who, hold who, tally_set (holding who) s.views id v left at, tally_snoc (holding who) (set s.views id left) right);
        },
      )

  -- two views that become one
  joins : (id : ℕ) (v : View C R) (other : ℕ) (w both : View C R) → ((log : List (Made C R)) → IsTrueOfView rank log v → IsTrueOfView rank log w → IsTrueOfView rank log both) → keeping both ≤ keeping v + keeping w → ((who : ℕ) → holding who both ≤ holding who v + holding who w)
      → Joins (λ (s : State Unit (View C R)). Kept rank legal s.words s.views) id v other w both nobody
  joins id v other w both fit keep hold s k at apart there =
      let theirs : IsTrueOfView rank k.0 w = ⊎_elim (λ (t : (other ≡ id) × (both ≡ w)). absurd (apart t.0)) (λ (t : (other ≢ id) × (get_elem? s.views other ≡ some w)). k.1.fits other w t.1) (at_set s.views id other both w there) in (
        k.0,
        record {
          words_are = k.1.words_are;
          is_legal = k.1.is_legal;
          fits = fits_set rank k.0 (set s.views id both) other nobody (λ j u _ e. fits_set rank k.0 s.views id both (λ i x _ h. k.1.fits i x h) (fit k.0 (k.1.fits id v at) theirs) j u e) (fits_nobody rank k.0);
          keepers = omega (arith, k.1.keepers, keep, tally_set keeping s.views id v both at, tally_set keeping (set s.views id both) other w nobody there);
          holders = λ who. omega (arith, k.1.holders who, hold who, tally_set (holding who) s.views id v both at, tally_set (holding who) (set s.views id both) other w nobody there);
        },
      )

  -- a seat's pass leaves it
  pub kept_lends : (id : ℕ) (v : View C R) → Splits (λ (s : State Unit (View C R)). Kept rank legal s.words s.views) id v (without_pass v) (only_pass v)
  kept_lends id v = splits id v (without_pass v) (only_pass v)
      (λ log f. (record { part = f.part; keeper = f.keeper; pass = λ t. absurd (off t); guest = f.guest }, record { part = (log, refl); keeper = λ t. absurd (off t); pass = f.pass; guest = λ t. absurd (off t) }))
      (omega arith)
      (λ who. omega arith)

  -- and is taken in
  pub kept_hosts : (id : ℕ) (v : View C R) (other : ℕ) (w : View C R) → Joins (λ (s : State Unit (View C R)). Kept rank legal s.words s.views) id v other w (with_guest v w) nobody
  kept_hosts id v other w = joins id v other w (with_guest v w)
      (λ log f h. record { part = f.part; keeper = f.keeper; pass = f.pass; guest = h.pass })
      (omega arith)
      (λ who. omega arith)

  -- a guest leaves
  pub kept_returns : (id : ℕ) (v : View C R) → Splits (λ (s : State Unit (View C R)). Kept rank legal s.words s.views) id v (without_guest v) (only_guest v)
  kept_returns id v = splits id v (without_guest v) (only_guest v)
      (λ log f. (record { part = f.part; keeper = f.keeper; pass = f.pass; guest = λ t. absurd (off t) }, record { part = (log, refl); keeper = λ t. absurd (off t); pass = f.guest; guest = λ t. absurd (off t) }))
      (omega arith)
      (λ who. omega arith)

  -- and is back
  pub kept_takes_back : (id : ℕ) (v : View C R) (other : ℕ) (w : View C R) → Joins (λ (s : State Unit (View C R)). Kept rank legal s.words s.views) id v other w (with_pass v w) nobody
  kept_takes_back id v other w = joins id v other w (with_pass v w)
      (λ log f h. record { part = f.part; keeper = f.keeper; pass = h.pass; guest = f.guest })
      (omega arith)
      (λ who. omega arith)

  -- what a seat knows of the history leaves it, and stays
  pub kept_recalls : (id : ℕ) (v : View C R) → Splits (λ (s : State Unit (View C R)). Kept rank legal s.words s.views) id v (itself v) (only_log v)
  kept_recalls id v = splits id v (itself v) (only_log v)
      (λ log f. (f, record { part = f.part; keeper = λ t. absurd (off t); pass = λ t. absurd (off t); guest = λ t. absurd (off t) }))
      (omega arith)
      (λ who. omega arith)

  -- and is told
  pub kept_tells : (id : ℕ) (v : View C R) (other : ℕ) (w : View C R) → Joins (λ (s : State Unit (View C R)). Kept rank legal s.words s.views) id v other w (with_log v w) nobody
  kept_tells id v other w = joins id v other w (with_log v w)
      (λ log f h. record { part = h.part; keeper = λ t. absurd (off t); pass = f.pass; guest = f.guest })
      (omega arith)
      (λ who. omega arith)
