use Rattle.std.proofs.Common.{◌≡◌, ◌∙◌, rules, arith, length, subst}
use Rattle.scripts.specs.Lines.{lines_of}
use Rattle.written_runs.specs.Told.{told_lines}
use Rattle.draw.specs.RunTrace.{PutsRecords}
use Rattle.draw.proofs.Traces.{all_passed, all_dropped, no_line_behind, passed_none, passed_one, told_next, puts_more, puts_none}
use Rattle.draw.proofs.run_records.put_records.Goals as goal

pub loop-alloc-init : goal.loop-alloc-init
loop-alloc-init g c = record {
  utf8 = c.utf8.text;
  past = passed_none _;
  puts = puts_none _ _;
  most = omega arith;
}

pub loop-alloc-preserved : goal.loop-alloc-preserved
loop-alloc-preserved g c =
    let is = c.loop-alloc.invariant in
    let next = told_next c.args.text.now c.loop-alloc.rest.now c.first_line.result.0.now c.first_line.result.1.now c.loop-alloc.number is.past c.first_line.ensures.lines in
    record {
      utf8 = search rules;
      past = passed_one _ _ _ _ _ is.past c.first_line.ensures.lines;
      puts = rw next (puts_more _ _ _ _ _ _ _ _ is.puts c.in_ok-put_record.ensures);
      most = omega arith;
    }

pub returns-clause-records : goal.returns-clause-records
returns-clause-records g c =
    let is = c.loop-alloc.invariant in
    let none : length c.loop-alloc.rest.now ≡ 0 = search rules in
    let all = all_passed (lines_of c.args.text.now) _ _ (no_line_behind _ c.loop-alloc.rest.now _ is.past none) is.most in
    subst (λ ls. PutsRecords c.args.tracer.now (told_lines ls) c.loop-alloc.tracer (g.W.Sink.written c.args.out.now) (g.W.Sink.written c.loop-alloc.out)) all is.puts

pub returns-clause-rest : goal.returns-clause-rest
returns-clause-rest g c =
    let is = c.loop-alloc.invariant in
    let none : length c.loop-alloc.rest.now ≡ 0 = search rules in
    is.past.behind ∙ all_dropped (lines_of c.args.text.now) _ _ (no_line_behind _ c.loop-alloc.rest.now _ is.past none) is.most
