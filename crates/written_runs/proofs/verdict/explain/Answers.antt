use Rattle.std.proofs.Common.{◌≡◌, length, arith, rules}
use Rattle.written_runs.proofs.Judged.{starts, goes_on, ended, stopped, explained, blamed, traced}
use Rattle.written_runs.proofs.verdict.explain.Goals as goal

pub loop-rest-init : goal.loop-rest-init
loop-rest-init c = (search rules, starts _ _ _ _ c.in_ok-replayer.ensures.opens c.in_ok-replayer.ensures.begins)

pub loop-rest-preserved : goal.loop-rest-preserved
loop-rest-preserved c = (search rules, goes_on _ _ _ _ _ _ _ _ _ _ c.loop-rest.invariant.1 c.first_line.ensures.lines c.first_line.ensures.shorter (rw c.in_default.is at c.in_ok-said.ensures.found) c.in_ok-said.ensures.begins _ c.told_by-told.ensures.told)

pub returns-in-Some-clause-verdict : goal.returns-in-Some-clause-verdict
returns-in-Some-clause-verdict c =
    let said = rw c.in-Some.is at c.in_ok-said.ensures.found in
    stopped _ _ _ _ c.first_line.result.1.now _ _ _ _ c.loop-rest.invariant.1 c.first_line.ensures.lines _ said.verdict

pub returns-in-Some-clause-expected : goal.returns-in-Some-clause-expected
returns-in-Some-clause-expected c =
    let said = rw c.in-Some.is at c.in_ok-said.ensures.found in
    explained _ _ _ _ c.first_line.result.1.now _ _ _ _ c.loop-rest.invariant.1 c.first_line.ensures.lines _ _ said.verdict said.expected

pub returns-in-Some-clause-wrong : goal.returns-in-Some-clause-wrong
returns-in-Some-clause-wrong c =
    let said = rw c.in-Some.is at c.in_ok-said.ensures.found in
    blamed _ _ _ _ c.first_line.result.1.now _ _ _ _ c.loop-rest.invariant.1 c.first_line.ensures.lines _ _ _ said.verdict said.wrong

pub returns-in-Some-clause-path : goal.returns-in-Some-clause-path
returns-in-Some-clause-path c =
    let said = rw c.in-Some.is at c.in_ok-said.ensures.found in
    traced _ _ _ _ c.first_line.result.1.now _ _ _ _ c.loop-rest.invariant.1 c.first_line.ensures.lines _ _ _ _ said.verdict said.path

pub returns-clause-verdict : goal.returns-clause-verdict
returns-clause-verdict c =
    let none : length c.loop-rest.rest.now ≡ 0 = search rules in
    let some = c.if-told-eq0.false in
    rw c.unexplained-2.ensures.verdict (ended _ _ _ _ _ _ _ c.loop-rest.invariant.1 none (omega (arith, some)))
