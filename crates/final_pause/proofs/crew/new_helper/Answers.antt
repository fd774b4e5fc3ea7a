use Rattle.std.proofs.Common.{ℕ, ◌+◌, sym, ap, subst}
use Rattle.mark_bits.specs.declared.claimer_view.ClaimerView.{ClaimerView}
use Rattle.mark_bits.specs.Claims.{HasPart}
use Rattle.mark_bits.specs.Tables.{view}
use Rattle.mark_bits.proofs.Halves.{part_kept, part_cut}
use Rattle.final_pause.proofs.crew.new_helper.Goals as goal

pub returns-clause-part : goal.returns-clause-part
returns-clause-part c =
    subst (λ (v : ClaimerView). HasPart v (c.args.place + 1)) (sym c.split-claimer.ensures.me) (part_kept (view c.args.first.now) c.args.place c.requires.part)

pub returns-clause-hired : goal.returns-clause-hired
returns-clause-hired c =
    let cut = c.split-claimer.ensures.cut in
    record {
      of = c.split-claimer.ensures.of.1;
      part = subst (λ (n : ℕ). HasPart (view c.split-claimer.result) (n + 1)) (sym c.from.ensures)
          (subst (λ (v : ClaimerView). HasPart v (c.args.place + 1)) (sym cut) (part_cut (view c.args.first.now) c.args.place c.requires.part));
      none_won = ap (λ (v : ClaimerView). v.won) cut;
      dirty = c.in_ok-dirty.ensures;
      carried = c.in_ok-carried.ensures;
      no_entry = c.new-3.ensures;
    }
