use Rattle.written_runs.proofs.Unwritten.{line_read, not_parted, no_command, too_long, no_answer, no_hint}
use Rattle.written_runs.proofs.line.read_line.Goals as goal

pub returns-in_default : goal.returns-in_default
returns-in_default c = not_parted _ _ c.in_default.ensures

pub returns-then-text-gt-LINE_BYTES : goal.returns-then-text-gt-LINE_BYTES
returns-then-text-gt-LINE_BYTES c = too_long _ _ _ _ c.in-Some.ensures c.if-text-gt-LINE_BYTES.true

pub returns-in_default-command : goal.returns-in_default-command
returns-in_default-command c = no_command _ _ _ _ c.in-Some.ensures c.in_default-command.ensures

pub returns-in_default-reply_at : goal.returns-in_default-reply_at
returns-in_default-reply_at c = no_answer _ _ _ _ c.in-Some.ensures c.in_default-reply_at.ensures

pub returns-in_default-2 : goal.returns-in_default-2
returns-in_default-2 c = no_hint _ _ _ _ _ _ _ c.in-Some.ensures c.in-Some-reply_at.ensures (rw c.in_default-2.is at c.in_ok-behind.ensures)

pub returns : goal.returns
returns c = line_read _ _ c.in-Some.text _ _ _ _ _ c.in-Some.ensures c.in-Some-command.ensures c.in-Some-reply_at.ensures (rw c.in-Some-2.is at c.in_ok-behind.ensures)
