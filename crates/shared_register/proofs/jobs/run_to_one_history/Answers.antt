use Rattle.std.proofs.Common.{◌∙◌, ap, sym, arith, ◌++◌}
use Rattle.std.specs.Prelude.{slice_index_or}
use Rattle.shared_register.specs.LockedCalls.{events}
use Rattle.shared_register.proofs.jobs.run_to_one_history.Goals as goal

pub returns : goal.returns
returns g c = λ i d lt.
    let ran = c.run_all.ensures i d lt in
    let met = c.settle.ensures i d (omega (arith, lt, c.run_all.auto.jobs)) in
    let old = slice_index_or c.args.jobs.now i d in record {
      seen = met.0.seen;
      mine = met.0.keeps.mine ∙ (ran.mine ∙ ap (λ v. old.me.mine ++ events old.me.slot old.calls.items v.items) (sym met.2));
      fine = met.0.fine;
    }
