use Rattle.std.specs.Prelude.{Ok, Err}
use Rattle.scripts.specs.declared.errors.ScriptError.TheVariants.{Memory as MemoryRefused}
use Rattle.workloads.proofs.Served.{unread, no_room, printed}
use Rattle.thread_records.proofs.Explained.{explained}
use Rattle.command_line.proofs.Ending.{told, unrecorded}
use Rattle.command_line.proofs.recording.run_recorded.Goals as goal

pub returns-in-Err-clause-does : goal.returns-in-Err-clause-does
returns-in-Err-clause-does g c = record {
  ended = Err c.in-Err.error;
  follows = told c.in-Err.error c.of.result c.of.ensures;
  kept = λ bytes tells. unread c.args.setting.now.pages bytes (g.I.Source.remaining c.read.new.reader) (g.O.Sink.written c.args.output.now) c.in-Err.error (c.in-Err.ensures.reads bytes tells);
}

pub returns-in-Err-run_written-clause-does : goal.returns-in-Err-run_written-clause-does
returns-in-Err-run_written-clause-does g c = record {
  ended = Err MemoryRefused;
  follows = unrecorded c.unrecorded.result c.unrecorded.ensures;
  kept = λ bytes tells. no_room c.args.setting.now.pages bytes (g.I.Source.remaining c.read.new.reader) (g.O.Sink.written c.args.output.now) c.in-Ok.workload (c.in-Ok.ensures.reads bytes tells);
}

pub returns-in-Err-print_replies-clause-does : goal.returns-in-Err-print_replies-clause-does
returns-in-Err-print_replies-clause-does g c = record {
  ended = Err c.in-Err-print_replies.error;
  follows = told c.in-Err-print_replies.error c.of-in-Err-print_replies.result c.of-in-Err-print_replies.ensures;
  kept = λ bytes tells. printed c.args.setting.now.pages bytes (g.I.Source.remaining c.read.new.reader) (g.O.Sink.written c.args.output.now) (g.O.Sink.written c.print_replies.new.writer) c.in-Ok.workload c.in-Ok-run_written.run'.0 (Err c.in-Err-print_replies.error)
      (c.in-Ok.ensures.reads bytes tells) (explained _ _ _ _ c.in-Ok-run_written.ensures) c.in-Err-print_replies.ensures.ok c.in-Err-print_replies.ensures.err c.in-Err-print_replies.ensures.write;
}

pub returns-clause-does : goal.returns-clause-does
returns-clause-does g c = record {
  ended = Ok c.in_default.field-0;
  follows = c.write_lines.ensures;
  kept = λ bytes tells. printed c.args.setting.now.pages bytes (g.I.Source.remaining c.read.new.reader) (g.O.Sink.written c.args.output.now) (g.O.Sink.written c.print_replies.new.writer) c.in-Ok.workload c.in-Ok-run_written.run'.0 (Ok c.in_default.field-0)
      (c.in-Ok.ensures.reads bytes tells) (explained _ _ _ _ c.in-Ok-run_written.ensures) c.in_default.ensures.ok c.in_default.ensures.err c.in_default.ensures.write;
}
