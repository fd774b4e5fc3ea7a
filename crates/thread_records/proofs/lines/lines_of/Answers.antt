use Rattle.std.proofs.Common.{[], ◌∙◌, length, refl}
use Rattle.std.specs.Prelude.{map, string_bytes}
use Rattle.std.proofs.lemmas.Option.{slice_get_read}
use Rattle.heap_spec.specs.Runs.{opening_start}
use Rattle.thread_records.proofs.Growing.{no_lines, one_more}
use Rattle.thread_records.proofs.lines.lines_of.Goals as goal

pub loop-entry-init : goal.loop-entry-init
loop-entry-init c =
    ([], no_lines string_bytes (opening_start c.args.pages) c.new-lines.result.items c.new-lines.ensures.items, c.in-Ok.ensures.opens, c.in-Ok.ensures.origin)

pub loop-entry-preserved : goal.loop-entry-preserved
loop-entry-preserved c =
    let so = c.loop-entry.invariant in
    let one = c.in-Ok-line_of.ensures.line (opening_start c.args.pages) so.0 so.2 in (
      one.0,
      one_more string_bytes (opening_start c.args.pages) c.args.entries.now c.loop-entry.entry-index c.entry-item.result c.loop-entry.lines.items c.push.new.self.items c.in-Ok-line_of.line so.0 one.0
          c.loop-entry-test.true c.entry-item.is c.in-Ok-push.ensures.items so.1 one.1,
      one.2,
      c.in-Ok-line_of.ensures.origin ∙ so.3,
    )

pub returns-in-Err-clause-refused : goal.returns-in-Err-clause-refused
returns-in-Err-clause-refused c same =
    let so = c.loop-entry.invariant in
    record {
      before = c.loop-entry.entry-index;
      entry = c.entry-item.result;
      lines = map string_bytes c.loop-entry.lines.items;
      run = so.0;
      is_entry = slice_get_read c.args.entries.now (length c.args.entries.now) c.loop-entry.entry-index c.entry-item.result refl c.loop-entry-test.true c.entry-item.is;
      written = so.1;
      none = c.in-Err.ensures.refused same so.3 (opening_start c.args.pages) so.0 so.2;
    }
