use Rattle.std.proofs.Common.{◌≡◌, ◌≤◌, refl, ◌∙◌, Ok, Err, arith, lit≤}
use Rattle.scripts.specs.declared.limits.TheConstants.{LAST_LINE}
use Rattle.scripts.specs.declared.line.LineRead.TheVariants.{Line, Last, End, TooLong}
use Rattle.scripts.proofs.Serving.{found_is}
use Rattle.workloads.proofs.ReadLines.{starts, end_reads, too_long_reads, read_fails, line_taken, line_fails, last_reads, last_number_reads, turn_is}
use Rattle.workloads.proofs.reading.read_lines.Goals as goal

pub loop-number-init : goal.loop-number-init
loop-number-init g c = record { read = starts _ _ c.requires.new; faults = refl }

pub returns-in-Err-clause-reads : goal.returns-in-Err-clause-reads
returns-in-Err-clause-reads g c input tells =
    read_fails c.loop-number.number c.loop-number.workload input c.args.buffer.now c.loop-number.buffer c.next_line.new.buffer c.next_line.new.line.items
    (g.R.Source.remaining c.args.reader.now) (g.R.Source.remaining c.loop-number.reader) (g.R.Source.remaining c.next_line.new.source) c.requires.empty tells c.loop-number.invariant.read c.in-Err.ensures.plain
    c.in-Err.ensures.short c.in-Err.ensures.err.0 c.in-Err.ensures.err.1

pub returns-in-End-clause-reads : goal.returns-in-End-clause-reads
returns-in-End-clause-reads g c input tells =
    end_reads c.loop-number.number c.loop-number.workload input c.args.buffer.now c.loop-number.buffer c.next_line.new.buffer c.next_line.new.line.items
    (g.R.Source.remaining c.args.reader.now) (g.R.Source.remaining c.loop-number.reader) (g.R.Source.remaining c.next_line.new.source) c.requires.empty tells c.loop-number.invariant.read c.in-Ok.ensures.plain
    (found_is _ End _ _ _ c.in-End.is c.in-Ok.ensures.ok)

pub returns-in-TooLong-clause-reads : goal.returns-in-TooLong-clause-reads
returns-in-TooLong-clause-reads g c input tells =
    let few : c.loop-number.number ≤ LAST_LINE = let h = c.loop-number-test.true in omega (arith, h) in
    too_long_reads c.loop-number.number c.loop-number.workload input c.args.buffer.now c.loop-number.buffer c.next_line.new.buffer c.next_line.new.line.items
    (g.R.Source.remaining c.args.reader.now) (g.R.Source.remaining c.loop-number.reader) (g.R.Source.remaining c.next_line.new.source) c.requires.empty tells c.loop-number.invariant.read c.in-Ok.ensures.plain
    few (found_is _ TooLong _ _ _ c.in-TooLong.is c.in-Ok.ensures.ok)

pub returns-in-Last-clause-reads : goal.returns-in-Last-clause-reads
returns-in-Last-clause-reads g c input tells =
    last_reads c.loop-number.number c.loop-number.workload input c.args.buffer.now c.loop-number.buffer c.next_line.new.buffer c.next_line.new.line.items
    (g.R.Source.remaining c.args.reader.now) (g.R.Source.remaining c.loop-number.reader) (g.R.Source.remaining c.next_line.new.source) c.requires.empty tells c.loop-number.invariant.read c.in-Ok.ensures.plain
    c.take_line.new.self c.take_line.result c.loop-number-test.true (found_is _ Last _ _ _ c.in-Last.is c.in-Ok.ensures.ok)
    (turn_is c.loop-number.number c.as_slice.result.now c.next_line.new.line.items c.loop-number.workload c.take_line.new.self c.take_line.result c.as_slice.ensures.value c.take_line.ensures.turn)

pub returns-in-Err-take_line-clause-reads : goal.returns-in-Err-take_line-clause-reads
returns-in-Err-take_line-clause-reads g c input tells =
    line_fails c.loop-number.number c.loop-number.workload input c.args.buffer.now c.loop-number.buffer c.next_line.new.buffer c.next_line.new.line.items
    (g.R.Source.remaining c.args.reader.now) (g.R.Source.remaining c.loop-number.reader) (g.R.Source.remaining c.next_line.new.source) c.requires.empty tells c.loop-number.invariant.read c.in-Ok.ensures.plain
    c.take_line-in-loop-number.new.self c.in-Err-take_line.fault c.loop-number-test.true (found_is _ Line _ _ _ c.in-Line.is c.in-Ok.ensures.ok)
    (turn_is c.loop-number.number c.as_slice-in-loop-number.result.now c.next_line.new.line.items c.loop-number.workload c.take_line-in-loop-number.new.self (Err c.in-Err-take_line.fault) c.as_slice-in-loop-number.ensures.value c.in-Err-take_line.ensures.turn)

pub loop-number-preserved : goal.loop-number-preserved
loop-number-preserved g c = record {
  read = line_taken c.loop-number.number c.loop-number.workload c.args.buffer.now c.loop-number.buffer c.next_line.new.buffer c.next_line.new.line.items
      (g.R.Source.remaining c.args.reader.now) (g.R.Source.remaining c.loop-number.reader) (g.R.Source.remaining c.next_line.new.source) c.loop-number.invariant.read c.in-Ok.ensures.plain
      c.take_line-in-loop-number.new.self c.in-Ok-take_line.field-0 c.loop-number-test.true (found_is _ Line _ _ _ c.in-Line.is c.in-Ok.ensures.ok)
      (turn_is c.loop-number.number c.as_slice-in-loop-number.result.now c.next_line.new.line.items c.loop-number.workload c.take_line-in-loop-number.new.self (Ok c.in-Ok-take_line.field-0) c.as_slice-in-loop-number.ensures.value c.in-Ok-take_line.ensures.turn);
  faults = c.in-Ok.ensures.none ∙ c.loop-number.invariant.faults;
}

pub returns-in-Err-next_line-clause-reads : goal.returns-in-Err-next_line-clause-reads
returns-in-Err-next_line-clause-reads g c input tells =
    read_fails c.loop-number.number c.loop-number.workload input c.args.buffer.now c.loop-number.buffer c.next_line-2.new.buffer c.next_line-2.new.line.items
    (g.R.Source.remaining c.args.reader.now) (g.R.Source.remaining c.loop-number.reader) (g.R.Source.remaining c.next_line-2.new.source) c.requires.empty tells c.loop-number.invariant.read c.in-Err-next_line.ensures.plain
    c.in-Err-next_line.ensures.short c.in-Err-next_line.ensures.err.0 c.in-Err-next_line.ensures.err.1

pub returns-in-End-after-clause-reads : goal.returns-in-End-after-clause-reads
returns-in-End-after-clause-reads g c input tells =
    end_reads c.loop-number.number c.loop-number.workload input c.args.buffer.now c.loop-number.buffer c.next_line-2.new.buffer c.next_line-2.new.line.items
    (g.R.Source.remaining c.args.reader.now) (g.R.Source.remaining c.loop-number.reader) (g.R.Source.remaining c.next_line-2.new.source) c.requires.empty tells c.loop-number.invariant.read c.in-Ok-next_line.ensures.plain
    (found_is _ End _ _ _ c.in-End-after.is c.in-Ok-next_line.ensures.ok)

pub returns-in_default-clause-reads : goal.returns-in_default-clause-reads
returns-in_default-clause-reads g c input tells =
    let same : c.loop-number.number ≡ LAST_LINE = let h = c.loop-number.auto.number-end (lit≤ tt) in let k = c.loop-number-test.false in omega (arith, h, k) in
    last_number_reads c.loop-number.number c.loop-number.workload input c.args.buffer.now c.loop-number.buffer c.next_line-2.new.buffer c.next_line-2.new.line.items
    (g.R.Source.remaining c.args.reader.now) (g.R.Source.remaining c.loop-number.reader) (g.R.Source.remaining c.next_line-2.new.source) c.requires.empty tells c.loop-number.invariant.read c.in-Ok-next_line.ensures.plain
    same c.in-Ok-next_line.after c.in-Ok-next_line.ensures.ok c.in_default.not-End
