use Rattle.std.proofs.Common.{refl, inl, inr, ⊎_elim}
use Rattle.std.proofs.lemmas.Result.{err_from_is_err_and, IfErr-weaker}
use Rattle.programs.specs.Faults.{IsRefusal}
use Rattle.draw.proofs.Scripts.{one_put}
use Rattle.draw.proofs.script_printing.put_command.Goals as goal

pub returns-clause-ok : goal.returns-clause-ok
returns-clause-ok g c = one_put c.args.run.now.pages c.put_line.result _ _ _ _ _ _ _ _ c.in_ok-record.ensures.drawn c.put_line.ensures.ok

pub returns-clause-fault : goal.returns-clause-fault
returns-clause-fault g c = IfErr-weaker c.put_line.result IsRefusal _ (λ fault refused. inr refused) c.put_line.ensures.fault

pub returns-in_err-record-clause-fault : goal.returns-in_err-record-clause-fault
returns-in_err-record-clause-fault g c =
    let p = err_from_is_err_and c.from_residual.result c.from_residual.ensures.1 in
    rw (p.1, p.2) (⊎_elim (λ bad. inl (bad, refl)) (λ refused. inr refused) c.in_err-record.ensures.fault)
