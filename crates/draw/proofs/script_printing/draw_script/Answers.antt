use Rattle.std.proofs.Common.{inr, sym, subst}
use Rattle.std.proofs.lemmas.Result.{err_from_is_err_and}
use Rattle.heap_core.specs.Opening.{IsNew}
use Rattle.draw.proofs.Scripts.{script_drawn}
use Rattle.draw.proofs.script_printing.draw_script.Goals as goal

pub returns-in_err-put_head : goal.returns-in_err-put_head
returns-in_err-put_head g c =
    let p = err_from_is_err_and c.from_residual.result c.from_residual.ensures.1 in
    rw (p.1, p.2) (inr c.in_err-put_head.ensures.fault)

pub returns : goal.returns
returns g c =
    script_drawn c.args.pages c.line_count.result _ _ _ _ _ _ _ _ c.line_count.ensures (subst (λ core. IsNew c.args.pages core) (sym c.new-3.ensures.core) c.in-Ok.ensures.1) c.new-3.ensures.bases
    c.in-Ok-new.ensures c.in_ok-put_head.ensures.ok c.put_commands.result c.put_commands.ensures.ok c.put_commands.ensures.fault
