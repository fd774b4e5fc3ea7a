use Rattle.std.proofs.Common.{◌≡◌, ◌≤◌, refl, ◌∙◌, Ok, Err, arith, lit≤}
use Rattle.scripts.specs.declared.limits.TheConstants.{LAST_LINE}
use Rattle.scripts.specs.declared.line.LineRead.TheVariants.{Line, Last, End, TooLong}
use Rattle.scripts.specs.Reading.{left_of}
use Rattle.scripts.proofs.Serving.{starts, end_serves, too_long_serves, read_serves, line_on, fault_serves, last_serves, last_number_serves, found_is, turn_is, up_to_last}
use Rattle.scripts.proofs.script.run_lines.Goals as goal

pub loop-number-init : goal.loop-number-init
loop-number-init g c = record { ran = starts c.args.pages _ _ _ c.requires.new; reader = refl; writer = refl }

pub returns-in-Err-clause-serves : goal.returns-in-Err-clause-serves
returns-in-Err-clause-serves g c input tells =
    let few : c.loop-number.number ≤ LAST_LINE = let h = c.loop-number-test.true in omega (arith, h) in
    read_serves c.args.pages c.loop-number.number c.loop-number.core input c.args.buffer.now c.loop-number.buffer c.next_line.new.buffer c.next_line.new.line.items
    (g.R.Source.remaining c.args.reader.now) (g.R.Source.remaining c.loop-number.reader) (g.R.Source.remaining c.next_line.new.source) (g.W.Sink.written c.args.writer.now) (g.W.Sink.written c.loop-number.writer)
    c.in-Err.ensures.short few c.requires.empty tells c.loop-number.invariant.ran c.in-Err.ensures.plain c.in-Err.ensures.err.0 c.in-Err.ensures.err.1

pub returns-in-End-clause-serves : goal.returns-in-End-clause-serves
returns-in-End-clause-serves g c input tells =
    let few : c.loop-number.number ≤ LAST_LINE = let h = c.loop-number-test.true in omega (arith, h) in
    let found = found_is c.in-Ok.found End c.next_line.new.line.items (left_of c.loop-number.buffer (g.R.Source.remaining c.loop-number.reader)) (left_of c.next_line.new.buffer (g.R.Source.remaining c.next_line.new.source)) c.in-End.is c.in-Ok.ensures.ok in
    end_serves c.args.pages c.loop-number.number c.loop-number.core input c.args.buffer.now c.loop-number.buffer c.next_line.new.buffer
    (g.R.Source.remaining c.args.reader.now) (g.R.Source.remaining c.loop-number.reader) (g.R.Source.remaining c.next_line.new.source) (g.W.Sink.written c.args.writer.now) (g.W.Sink.written c.loop-number.writer)
    tt few c.requires.empty tells c.loop-number.invariant.ran found.0 found.1

pub returns-in-TooLong-clause-serves : goal.returns-in-TooLong-clause-serves
returns-in-TooLong-clause-serves g c input tells =
    let few : c.loop-number.number ≤ LAST_LINE = let h = c.loop-number-test.true in omega (arith, h) in
    too_long_serves c.args.pages c.loop-number.number c.loop-number.core input c.args.buffer.now c.loop-number.buffer c.next_line.new.buffer c.next_line.new.line.items
    (g.R.Source.remaining c.args.reader.now) (g.R.Source.remaining c.loop-number.reader) (g.R.Source.remaining c.next_line.new.source) (g.W.Sink.written c.args.writer.now) (g.W.Sink.written c.loop-number.writer)
    few c.requires.empty tells c.loop-number.invariant.ran c.in-Ok.ensures.plain (found_is c.in-Ok.found TooLong c.next_line.new.line.items (left_of c.loop-number.buffer (g.R.Source.remaining c.loop-number.reader)) (left_of c.next_line.new.buffer (g.R.Source.remaining c.next_line.new.source))
    c.in-TooLong.is c.in-Ok.ensures.ok)

pub returns-in-Last-clause-serves : goal.returns-in-Last-clause-serves
returns-in-Last-clause-serves g c input tells =
    last_serves c.args.pages c.loop-number.number c.loop-number.core c.answer_line.new.core input c.args.buffer.now c.loop-number.buffer c.next_line.new.buffer c.next_line.new.line.items
    (g.R.Source.remaining c.args.reader.now) (g.R.Source.remaining c.loop-number.reader) (g.R.Source.remaining c.next_line.new.source) (g.W.Sink.written c.args.writer.now) (g.W.Sink.written c.loop-number.writer) (g.W.Sink.written c.answer_line.new.sink)
    c.answer_line.result c.loop-number-test.true c.requires.empty tells c.loop-number.invariant.ran c.in-Ok.ensures.plain (found_is c.in-Ok.found Last c.next_line.new.line.items (left_of c.loop-number.buffer (g.R.Source.remaining c.loop-number.reader)) (left_of c.next_line.new.buffer (g.R.Source.remaining c.next_line.new.source))
    c.in-Last.is c.in-Ok.ensures.ok)
    (turn_is c.args.pages c.loop-number.number c.as_slice.result.now c.next_line.new.line.items c.loop-number.core c.answer_line.new.core
    (g.W.Sink.written c.loop-number.writer) (g.W.Sink.written c.answer_line.new.sink) c.answer_line.result c.as_slice.ensures.value c.answer_line.ensures.turn)

pub returns-in-Err-answer_line-clause-serves : goal.returns-in-Err-answer_line-clause-serves
returns-in-Err-answer_line-clause-serves g c input tells =
    fault_serves c.args.pages c.loop-number.number c.loop-number.core c.answer_line-in-loop-number.new.core input c.args.buffer.now c.loop-number.buffer c.next_line.new.buffer c.next_line.new.line.items
    (g.R.Source.remaining c.args.reader.now) (g.R.Source.remaining c.loop-number.reader) (g.R.Source.remaining c.next_line.new.source) (g.W.Sink.written c.args.writer.now) (g.W.Sink.written c.loop-number.writer) (g.W.Sink.written c.answer_line-in-loop-number.new.sink)
    c.in-Err-answer_line.fault c.loop-number-test.true c.requires.empty tells c.loop-number.invariant.ran c.in-Ok.ensures.plain (found_is c.in-Ok.found Line c.next_line.new.line.items _ _ c.in-Line.is c.in-Ok.ensures.ok)
    (turn_is c.args.pages c.loop-number.number c.as_slice-in-loop-number.result.now c.next_line.new.line.items c.loop-number.core c.answer_line-in-loop-number.new.core
    (g.W.Sink.written c.loop-number.writer) (g.W.Sink.written c.answer_line-in-loop-number.new.sink) (Err c.in-Err-answer_line.fault) c.as_slice-in-loop-number.ensures.value c.in-Err-answer_line.ensures.turn)

pub loop-number-preserved : goal.loop-number-preserved
loop-number-preserved g c = record {
  ran = line_on c.args.pages c.loop-number.number c.loop-number.core c.answer_line-in-loop-number.new.core c.next_line.new.line.items _ _ _ _ _ _
      c.loop-number.invariant.ran c.in-Ok.ensures.plain (found_is c.in-Ok.found Line c.next_line.new.line.items _ _ c.in-Line.is c.in-Ok.ensures.ok) (turn_is c.args.pages c.loop-number.number c.as_slice-in-loop-number.result.now c.next_line.new.line.items c.loop-number.core c.answer_line-in-loop-number.new.core
      (g.W.Sink.written c.loop-number.writer) (g.W.Sink.written c.answer_line-in-loop-number.new.sink) (Ok tt) c.as_slice-in-loop-number.ensures.value c.in-Ok-answer_line.ensures.turn);
  reader = c.in-Ok.ensures.none ∙ c.loop-number.invariant.reader;
  writer = omega (arith, c.loop-number.invariant.writer, c.in-Ok-answer_line.ensures.faults);
}

pub returns-in-Err-next_line-clause-serves : goal.returns-in-Err-next_line-clause-serves
returns-in-Err-next_line-clause-serves g c input tells =
    let few : c.loop-number.number ≤ LAST_LINE = let h = c.loop-number.auto.number-end (lit≤ tt) in omega (arith, h) in
    read_serves c.args.pages c.loop-number.number c.loop-number.core input c.args.buffer.now c.loop-number.buffer c.next_line-2.new.buffer c.next_line-2.new.line.items
    (g.R.Source.remaining c.args.reader.now) (g.R.Source.remaining c.loop-number.reader) (g.R.Source.remaining c.next_line-2.new.source) (g.W.Sink.written c.args.writer.now) (g.W.Sink.written c.loop-number.writer)
    c.in-Err-next_line.ensures.short few c.requires.empty tells c.loop-number.invariant.ran c.in-Err-next_line.ensures.plain c.in-Err-next_line.ensures.err.0 c.in-Err-next_line.ensures.err.1

pub returns-in-End-after-clause-serves : goal.returns-in-End-after-clause-serves
returns-in-End-after-clause-serves g c input tells =
    let few : c.loop-number.number ≤ LAST_LINE = let h = c.loop-number.auto.number-end (lit≤ tt) in omega (arith, h) in
    let found = found_is c.in-Ok-next_line.after End c.next_line-2.new.line.items (left_of c.loop-number.buffer (g.R.Source.remaining c.loop-number.reader)) (left_of c.next_line-2.new.buffer (g.R.Source.remaining c.next_line-2.new.source)) c.in-End-after.is c.in-Ok-next_line.ensures.ok in
    end_serves c.args.pages c.loop-number.number c.loop-number.core input c.args.buffer.now c.loop-number.buffer c.next_line-2.new.buffer
    (g.R.Source.remaining c.args.reader.now) (g.R.Source.remaining c.loop-number.reader) (g.R.Source.remaining c.next_line-2.new.source) (g.W.Sink.written c.args.writer.now) (g.W.Sink.written c.loop-number.writer)
    tt few c.requires.empty tells c.loop-number.invariant.ran found.0 found.1

pub returns-in_default : goal.returns-in_default
returns-in_default g c = record {
  serves = λ input tells.
      let same : c.loop-number.number ≡ LAST_LINE = let h = c.loop-number.auto.number-end (lit≤ tt) in let k = c.loop-number-test.false in omega (arith, h, k) in
      last_number_serves c.args.pages c.loop-number.core input c.args.buffer.now c.loop-number.buffer c.next_line-2.new.buffer c.next_line-2.new.line.items
      (g.R.Source.remaining c.args.reader.now) (g.R.Source.remaining c.loop-number.reader) (g.R.Source.remaining c.next_line-2.new.source) (g.W.Sink.written c.args.writer.now) (g.W.Sink.written c.loop-number.writer)
      c.in-Ok-next_line.after c.requires.empty tells (up_to_last c.args.pages c.loop-number.number c.loop-number.core _ _ _ _ same c.loop-number.invariant.ran) c.in-Ok-next_line.ensures.plain c.in-Ok-next_line.ensures.ok c.in_default.not-End;
  reader = omega (arith, c.loop-number.invariant.reader, c.in-Ok-next_line.ensures.none);
  writer = omega (arith, c.loop-number.invariant.writer);
}
