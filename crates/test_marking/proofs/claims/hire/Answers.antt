use Rattle.std.proofs.Common.{◌≡◌, ◌+◌, length, sym, subst, rules}
use Rattle.mark_bits.specs.declared.claimer_view.ClaimerView.{ClaimerView}
use Rattle.mark_bits.specs.Claims.{HasPart}
use Rattle.mark_bits.specs.Tables.{view}
use Rattle.mark_bits.proofs.Halves.{part_cut}
use Rattle.test_marking.specs.declared.claims.Helper.{Helper}
use Rattle.test_marking.specs.Crew.{IsReady}
use Rattle.test_marking.proofs.Crew.{each_push}
use Rattle.test_marking.proofs.claims.hire.Goals as goal

pub loop-preserved : goal.loop-preserved
loop-preserved c =
    let crew = c.loop.crew.items in let size : c.loop.crew.len ≡ length crew = c.loop.crew.ok.0 in let i = c.loop.invariant in let cut = c.split-claimer.ensures in
    record {
      of = cut.of.0;
      ready = each_push (λ place (h : Helper). IsReady c.args.table.now place h.claimer) crew _ _ c.in_ok-push.ensures.items i.ready
          (record { of = cut.of.1; part = subst (λ (v : ClaimerView). HasPart v (length crew + 1)) (sym cut.cut) (part_cut (view c.loop.first) (length crew) (subst (HasPart (view c.loop.first)) size i.part)) });
      part = search rules;
      size = search rules;
    }
