-- What a call leaves of the keeper's seat and of the caller's. Before the call they are k and p, with the guest at the keeper's k1 and p1, after the step k2, and at the end k3 and p3.
use Rattle.std.proofs.Common.{◌≡◌, ℕ, List, [], ◌∷◌, ◌++◌, true, false, ap, sym, ◌∙◌, subst}
use Rattle.atomic_table.specs.Table.{Me}
use Rattle.history.specs.declared.object.Rank.{Rank}
use Rattle.history.specs.declared.made.Made.{Made}
use Rattle.history.specs.declared.view.Known.{Known}
use Rattle.history.specs.declared.view.View.{View}
use Rattle.history.specs.Passes.{Owned}
use Rattle.history.specs.Plays.{Acted, Began, Ended, first_slot}
use Rattle.history.specs.Views.{with_guest, without_guest, only_guest, only_pass, with_pass, only_log}
use Rattle.history.specs.Histories.{event, own, is_first, is_last, is_live}
use Rattle.history.proofs.Snocs.{own_more, live_gone}

module _ {C R : Type 0} where
  -- the keeper has these events more
  pub record Longer (said : List (Made C R)) (k k3 : Me Unit (View C R)) : Type 0 where
    pub keeps_is : k3.0.keeps ≡ k.0.keeps
    pub log_is : k3.0.log ≡ k.0.log ++ said

  -- the caller's pass has them more, too
  pub record Further (rank : C → Rank) (said : List (Made C R)) (k p p3 : Me Unit (View C R)) : Type 0 where
    pub holds_is : p3.0.holds ≡ p.0.holds
    pub pass_is : p3.0.pass ≡ record { slot = p.0.pass.slot; seen = k.0.log ++ said; mine = p.0.pass.mine ++ said }
    pub owned : Owned rank p.0.pass.slot (k.0.log ++ said) (p.0.pass.mine ++ said)

  -- a new pass has seen them, as its slot's first
  pub record New (said : List (Made C R)) (k p3 : Me Unit (View C R)) : Type 0 where
    pub holds_is : p3.0.holds ≡ true
    pub pass_is : p3.0.pass ≡ record { slot = first_slot said; seen = k.0.log ++ said; mine = said }

  pub act_longer : (rank : C → Rank) (said : List (Made C R)) (k p k1 k2 k3 : Me Unit (View C R)) → k1 ≡ (with_guest k.0 (only_pass p.0), k.1) → Acted rank said k1 k2 → k3 ≡ (without_guest k2.0, k2.1) → Longer said k k3
  act_longer rank said k p k1 k2 k3 lent step back = record {
    keeps_is = ap (λ m. m.0.keeps) back ∙ (ap (λ m. m.0.keeps) step.view_is ∙ ap (λ m. m.0.keeps) lent);
    log_is = ap (λ m. m.0.log) back ∙ (ap (λ m. m.0.log) step.view_is ∙ ap (λ m. m.0.log ++ said) lent);
  }

  pub act_further : (rank : C → Rank) (said : List (Made C R)) (k p k1 p1 k2 p3 : Me Unit (View C R)) → k1 ≡ (with_guest k.0 (only_pass p.0), k.1) → Acted rank said k1 k2 → p3 ≡ (with_pass p1.0 (only_guest k2.0), p1.1) → Further rank said k p p3
  act_further rank said k p k1 p1 k2 p3 lent step back = record {
    holds_is = ap (λ m. m.0.holds) back ∙ (ap (λ m. m.0.hosts) step.view_is ∙ ap (λ m. m.0.hosts) lent);
    pass_is = ap (λ m. m.0.pass) back ∙ (ap (λ m. m.0.guest) step.view_is ∙ ap {B = Known C R} (λ m. record { slot = m.0.guest.slot; seen = m.0.log ++ said; mine = m.0.guest.mine ++ said }) lent);
    owned = subst (λ (m : Me Unit (View C R)). Owned rank m.0.guest.slot (m.0.log ++ said) (m.0.guest.mine ++ said)) lent step.owned;
  }

  pub begin_longer : (rank : C → Rank) (said : List (Made C R)) (k k2 k3 : Me Unit (View C R)) → Began rank said k k2 → k3 ≡ (without_guest k2.0, k2.1) → Longer said k k3
  begin_longer rank said k k2 k3 step left = record {
    keeps_is = ap (λ m. m.0.keeps) left ∙ ap (λ m. m.0.keeps) step.view_is;
    log_is = ap (λ m. m.0.log) left ∙ ap (λ m. m.0.log) step.view_is;
  }

  pub begin_new : (rank : C → Rank) (said : List (Made C R)) (k k2 p3 : Me Unit (View C R)) → Began rank said k k2 → p3 ≡ (only_guest k2.0, []) → New said k p3
  begin_new rank said k k2 p3 step out = record {
    holds_is = ap (λ m. m.0.holds) out ∙ ap (λ m. m.0.hosts) step.view_is;
    pass_is = ap (λ m. m.0.pass) out ∙ ap (λ m. m.0.guest) step.view_is;
  }

  pub end_longer : (rank : C → Rank) (said : List (Made C R)) (k p k1 k3 : Me Unit (View C R)) → k1 ≡ (with_guest k.0 (only_pass p.0), k.1) → Ended rank said k1 k3 → Longer said k k3
  end_longer rank said k p k1 k3 lent step = record {
    keeps_is = ap (λ m. m.0.keeps) step.view_is ∙ ap (λ m. m.0.keeps) lent;
    log_is = ap (λ m. m.0.log) step.view_is ∙ ap (λ m. m.0.log ++ said) lent;
  }

  -- what a spent pass had seen is the whole history, with its last event
  pub record Spent (rank : C → Rank) (e : Made C R) (k p r : Me Unit (View C R)) : Type 0 where
    pub log_is : r.0.log ≡ k.0.log ++ e ∷ []
    pub own_is : own rank p.0.pass.slot r.0.log ≡ p.0.pass.mine ++ e ∷ []
    pub dead : is_live rank p.0.pass.slot r.0.log ≡ false

  pub end_spent : (rank : C → Rank) (e : Made C R) (k p k1 k2 r : Me Unit (View C R)) → k1 ≡ (with_guest k.0 (only_pass p.0), k.1) → Ended rank (e ∷ []) k1 k2 → r ≡ (only_log k2.0, []) → e.who ≡ p.0.pass.slot → is_first (rank e.call) ≡ false → is_last (rank e.call) ≡ true
      → Spent rank e k p r
  end_spent rank e k p k1 k2 r lent step part who nf yl =
      let log_is : r.0.log ≡ k.0.log ++ e ∷ [] = ap (λ m. m.0.log) part ∙ (end_longer rank (e ∷ []) k p k1 k2 lent step).log_is in
      let owned = subst (λ (m : Me Unit (View C R)). Owned rank m.0.guest.slot m.0.log m.0.guest.mine) lent step.owned in
      record {
        log_is = log_is;
        own_is = ap (own rank p.0.pass.slot) log_is ∙ (own_more rank p.0.pass.slot k.0.log e who nf ∙ ap (λ l. l ++ e ∷ []) (sym owned.own_is));
        dead = ap (is_live rank p.0.pass.slot) log_is ∙ live_gone rank p.0.pass.slot k.0.log e who yl;
      }

  -- so it is as contracts see it
  abbrev pub has_seen : ℕ → List (Made C R) → List (Made C R) → Known C R
  has_seen slot seen mine = record { slot = slot; seen = seen; mine = mine }

  pub past_is : (rank : C → Rank) (slot : ℕ) (p : Known C R) (call : C) (reply : R) (seen seen' : List (Made C R)) → p.slot ≡ slot → own rank p.slot seen ≡ p.mine ++ event slot call reply ∷ [] → seen ≡ seen'
      → has_seen slot seen (own rank slot seen) ≡ has_seen p.slot seen' (p.mine ++ event p.slot call reply ∷ [])
  past_is rank slot p call reply seen seen' is own_is same =
      let mine : own rank slot seen ≡ p.mine ++ event p.slot call reply ∷ [] = ap (λ n. own rank n seen) (sym is) ∙ (own_is ∙ ap (λ n. p.mine ++ event n call reply ∷ []) (sym is)) in
      λ i. record { slot = sym is i; seen = same i; mine = mine i }
