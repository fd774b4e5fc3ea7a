use Rattle.std.proofs.Common.{◌≡◌, ◌-◌, ◌++◌, sym, ap, ◌∙◌, arith}
use Rattle.std.proofs.lemmas.List.{append-nil}
use Rattle.workloads.proofs.Drawing.{none_drawn}
use Rattle.workloads.proofs.stress.put_draws.Goals as goal

pub returns : goal.returns
returns c =
    let over : c.args.steps - c.loop-step._step ≡ 0 = omega arith in
    sym (c.loop-step.invariant ∙ ap (λ t. c.loop-step.text.items ++ t) (none_drawn c.args.mutators _ c.loop-step.words over) ∙ append-nil c.loop-step.text.items)
