use Rattle.thread_records.proofs.Refusing.{no_line}
use Rattle.thread_records.proofs.lines.line_of.Goals as goal

pub returns-then-not-step-clause-refused : goal.returns-then-not-step-clause-refused
returns-then-not-step-clause-refused c same origin =
    no_line c.args.replayer.now c.args.entry.now c.hint_of-hint.result c.hint_of-hint.ensures (c.step.ensures.no c.if-not-step.true (λ slot into words kind asked done. origin))
