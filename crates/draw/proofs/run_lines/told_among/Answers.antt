use Rattle.std.proofs.Common.{◌≡◌, ◌∙◌, rules, arith, length, take, ◌∷◌, [], ap, length-append}
use Rattle.scripts.specs.Lines.{lines_of}
use Rattle.written_runs.specs.Told.{told_lines}
use Rattle.draw.proofs.Traces.{all_passed, no_line_behind, passed_one, told_next}
use Rattle.draw.proofs.run_lines.told_among.Goals as goal

pub loop-rest-preserved : goal.loop-rest-preserved
loop-rest-preserved c =
    let is = c.loop-rest.invariant in
    let next = ap length (told_next c.args.text.now c.loop-rest.rest.now c.first_line.result.0.now c.first_line.result.1.now c.loop-rest.number is.past c.first_line.ensures.lines) in
    record {
      utf8 = search rules;
      past = passed_one _ _ _ _ _ is.past c.first_line.ensures.lines;
      counted = omega (arith, is.counted, c.told_by-told.ensures.told, next, length-append (told_lines (take c.loop-rest.number (lines_of c.args.text.now))) (told_lines (c.first_line.result.0.now ∷ [])));
      most = omega arith;
      few = omega (arith, is.few, c.told_by-told.ensures.few);
    }

pub returns-clause-told : goal.returns-clause-told
returns-clause-told c =
    let is = c.loop-rest.invariant in
    let none : length c.loop-rest.rest.now ≡ 0 = search rules in
    is.counted ∙ ap (λ ls. length (told_lines ls)) (all_passed (lines_of c.args.text.now) _ _ (no_line_behind _ c.loop-rest.rest.now _ is.past none) is.most)
