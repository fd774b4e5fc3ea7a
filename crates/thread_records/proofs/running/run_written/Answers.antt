use Rattle.std.proofs.Common.{sym, subst, map, List}
use Rattle.shared.specs.Journals.{made_of}
use Rattle.shared.specs.declared.journal.Entry.{Entry}
use Rattle.workloads.specs.OneHistory.{Explains}
use Rattle.thread_records.proofs.running.run_written.Goals as goal

pub returns : goal.returns
returns g c = record {
  entries = c.as_slice.result.now;
  explains = subst (λ (es : List Entry). Explains c.args.setting.now.pages (map made_of es) c.args.workload.now c.in-Ok.replies) (sym c.as_slice.ensures) c.in-Ok.ensures;
  last = c.in_ok-lines.ensures.lines.0;
  written = c.in_ok-lines.ensures.lines.1;
}
