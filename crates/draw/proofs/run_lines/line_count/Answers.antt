use Rattle.std.proofs.Common.{◌≡◌, rules, arith, length, ap}
use Rattle.scripts.specs.Lines.{lines_of}
use Rattle.draw.proofs.Traces.{empty_of}
use Rattle.draw.proofs.run_lines.line_count.Goals as goal

pub loop-rest-preserved : goal.loop-rest-preserved
loop-rest-preserved c =
    let is = c.loop-rest.invariant in
    let next = ap length c.first_line.ensures.lines in
    record {
      utf8 = search rules;
      counted = omega (arith, is.counted, next);
      few = omega (arith, is.few, c.first_line.ensures.shorter);
    }

pub returns : goal.returns
returns c =
    let is = c.loop-rest.invariant in
    let none : length c.loop-rest.rest.now ≡ 0 = search rules in
    let all = ap (λ r. length (lines_of r)) (empty_of c.loop-rest.rest.now none) in
    omega (arith, is.counted, all)
