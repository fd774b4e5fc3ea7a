use Rattle.std.proofs.Common.{◌≡◌, ◌-◌, ◌++◌}
use Rattle.workloads.specs.Stress.{drawn_text}
use Rattle.workloads.proofs.stress.put_draws.Given as goal

abbrev pub invariant-loop-step : goal.invariant-loop-step
invariant-loop-step l = l.fn.text.items ++ drawn_text l.mutators l.steps l.fn.words ≡ l.text.items ++ drawn_text l.mutators (l.steps - l._step) l.words
