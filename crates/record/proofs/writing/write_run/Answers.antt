use Rattle.std.proofs.Common.{sym, subst}
use Rattle.heap_core.specs.Opening.{IsNew}
use Rattle.record.proofs.Runs.{script_recorded}
use Rattle.record.proofs.writing.write_run.Goals as goal

pub returns : goal.returns
returns g c = script_recorded c.put_run.result _ _ _ _ _ _ (subst (λ core. IsNew c.args.pages core) (sym c.new-recorder.ensures.core) c.in-Ok.ensures.1) c.new-recorder.ensures.bases c.put_run.ensures
