use Rattle.workloads.proofs.Printing.{on_err, line_front, lines_front, mutator_on}
use Rattle.std.proofs.Common.{◌∙◌}
use Rattle.workloads.proofs.replies.print_mutators.Goals as goal

pub returns-in_err-print_reply-clause-err : goal.returns-in_err-print_reply-clause-err
returns-in_err-print_reply-clause-err g c =
    on_err _ (line_front c.args.pages c.args.mutators.now c.loop-i.i c.in-Some.slot _ _ _ c.loop-i-test.true c.in-Some.ensures.0 c.loop-i.invariant.wrote c.in_err-print_reply.ensures.err)

pub returns-in_err-print_lines-clause-err : goal.returns-in_err-print_lines-clause-err
returns-in_err-print_lines-clause-err g c =
    on_err _ (lines_front c.args.pages c.args.mutators.now c.loop-i.i c.in-Some.slot c.index-mutators-i.result _ _ _ _ c.loop-i-test.true c.in-Some.ensures.0 c.index-mutators-i.is
    c.loop-i.invariant.wrote c.in_ok-print_reply.ensures.ok c.in_err-print_lines.ensures.err)

pub loop-i-preserved : goal.loop-i-preserved
loop-i-preserved g c = record {
  wrote = mutator_on c.args.pages c.args.mutators.now c.loop-i.i c.in-Some.slot c.index-mutators-i.result _ _ _ _ c.loop-i-test.true c.in-Some.ensures.0 c.index-mutators-i.is
      c.loop-i.invariant.wrote c.in_ok-print_reply.ensures.ok c.in_ok-print_lines.ensures.ok;
  faults = c.in_ok-print_lines.ensures.none ∙ c.in_ok-print_reply.ensures.none ∙ c.loop-i.invariant.faults;
}
