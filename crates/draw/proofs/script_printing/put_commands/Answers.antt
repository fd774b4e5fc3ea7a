use Rattle.std.proofs.Common.{◌≡◌, ◌∙◌, rules, arith, length, refl}
use Rattle.std.proofs.lemmas.Result.{err_from_is_err_and}
use Rattle.draw.proofs.Scripts.{drawn_none, drawn_one, drawn_all, stopped}
use Rattle.draw.proofs.script_printing.put_commands.Goals as goal

pub loop-rest-init : goal.loop-rest-init
loop-rest-init g c = record {
  utf8 = c.utf8.script;
  pages = refl;
  few = omega arith;
  drawn = drawn_none _ _ _ _ _;
}

pub loop-rest-preserved : goal.loop-rest-preserved
loop-rest-preserved g c =
    let is = c.loop-rest.invariant in
    record {
      utf8 = search rules;
      pages = c.put_command.ensures.pages ∙ is.pages;
      few = omega (arith, is.few, c.first_line.ensures.shorter);
      drawn = drawn_one _ _ _ _ _ _ _ _ _ _ _ _ _ _ _ is.drawn c.first_line.ensures.lines (rw is.pages at c.in_ok-put_command.ensures.ok);
    }

pub returns-clause-ok : goal.returns-clause-ok
returns-clause-ok g c =
    let is = c.loop-rest.invariant in
    let none : length c.loop-rest.rest.now ≡ 0 = search rules in
    drawn_all _ _ _ _ _ _ _ _ _ _ is.drawn none

pub returns-in_err-put_command-clause-fault : goal.returns-in_err-put_command-clause-fault
returns-in_err-put_command-clause-fault g c =
    let is = c.loop-rest.invariant in
    let p = err_from_is_err_and c.from_residual.result c.from_residual.ensures.1 in
    rw (p.1, p.2) (stopped _ _ _ _ _ _ _ _ c.first_line.result.1.now _ _ _ _ _ is.drawn c.first_line.ensures.lines c.in_err-put_command.ensures.fault)
