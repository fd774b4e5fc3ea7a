-- How calls of a log make the headline.
use Rattle.std.proofs.Common.{◌≡◌, ℕ, List, [], ◌∷◌, ◌++◌, sym, ap, ◌∙◌, subst}
use Rattle.history.specs.declared.object.Rank.{Rank}
use Rattle.history.specs.declared.made.Made.{Made}
use Rattle.history.specs.declared.view.Known.{Known}
use Rattle.history.specs.Histories.{event, GrowsByOthers}
use Rattle.history.specs.Passes.{Agrees}
use Rattle.history.specs.Headline.{Extends, Looks}

module _ {S C R : Type 0} (rank : C → Rank) (opens : S → Type 0) (step : S → ℕ → C → R → S → Type 0) where
  -- the pass learnt the history, and then made the call
  pub extended : (old mid new : Known C R) (log log1 log2 : List (Made C R)) (call : C) (reply : R) → GrowsByOthers old.slot old.seen log
      → mid ≡ record { slot = old.slot; seen = log; mine = old.mine } → log1 ≡ log → log2 ≡ log1 ++ event mid.slot call reply ∷ []
      → new ≡ record { slot = mid.slot; seen = log2; mine = mid.mine ++ event mid.slot call reply ∷ [] } → Agrees rank opens step new → Extends rank opens step old call reply new
  extended old mid new log log1 log2 call reply before mid_is log1_is log2_is new_is fine =
      let entry : event mid.slot call reply ≡ event old.slot call reply = ap (λ (p : Known C R). event p.slot call reply) mid_is in
      record {
        slot = ap (λ (p : Known C R). p.slot) new_is ∙ ap (λ (p : Known C R). p.slot) mid_is;
        between = before.between;
        others = before.others;
        seen = ap (λ (p : Known C R). p.seen) new_is ∙ (log2_is ∙ (ap (λ l. l ++ event mid.slot call reply ∷ []) (log1_is ∙ sym before.whole) ∙ ap (λ x. (old.seen ++ before.between) ++ x ∷ []) entry));
        mine = ap (λ (p : Known C R). p.mine) new_is ∙ (ap (λ (p : Known C R). p.mine ++ event mid.slot call reply ∷ []) mid_is ∙ ap (λ x. old.mine ++ x ∷ []) entry);
        fine = fine;
      }

  -- the pass learnt the history, and made no call
  pub looked : (old mid : Known C R) (log : List (Made C R)) → GrowsByOthers old.slot old.seen log → mid ≡ record { slot = old.slot; seen = log; mine = old.mine } → Agrees rank opens step mid → Looks rank opens step old mid
  looked old mid log before mid_is fine = record {
    slot = ap (λ (p : Known C R). p.slot) mid_is;
    seen = subst (λ l. GrowsByOthers old.slot old.seen l) (sym (ap (λ (p : Known C R). p.seen) mid_is)) before;
    mine = ap (λ (p : Known C R). p.mine) mid_is;
    fine = fine;
  }
