use Rattle.std.proofs.Common.{rules, of_calls}
use Rattle.shared_register.proofs.jobs.run_all.Goals as goal

pub returns : goal.returns
returns g c = λ i d lt. let k = c.for_each_mut.ensures i d lt in search (rules, of_calls)
