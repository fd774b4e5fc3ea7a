use Rattle.std.proofs.Common.{◌≡◌, rules, length}
use Rattle.record.proofs.Runs.{recorded_none, recorded_one, recorded_all}
use Rattle.record.proofs.writing.put_run.Goals as goal

pub loop-rest-init : goal.loop-rest-init
loop-rest-init g c = record {
  utf8 = c.utf8.script;
  recorded = recorded_none _ _ _;
}

pub loop-rest-preserved : goal.loop-rest-preserved
loop-rest-preserved g c =
    let is = c.loop-rest.invariant in
    record {
      utf8 = search rules;
      recorded = recorded_one _ _ _ _ _ _ _ _ _ _ is.recorded c.first_line.ensures.lines c.in_ok-put_command.ensures;
    }

pub returns : goal.returns
returns g c =
    let is = c.loop-rest.invariant in
    let none : length c.loop-rest.rest.now ≡ 0 = search rules in
    recorded_all _ _ _ _ _ _ is.recorded none
