use Rattle.std.proofs.Common.{◌≡◌, ◌-◌}
use Rattle.std.specs.Io.KnownBytes.{Consumes}
use Rattle.arrayvec.specs.ArrayVec.{array_vec_len}
use Rattle.scripts.specs.declared.limits.TheConstants.{LINE_BYTES}
use Rattle.scripts.specs.Lines.{IsShort}
use Rattle.scripts.specs.Reading.{left_of, IsPlainLine}
use Rattle.scripts.proofs.line.next_line.Given as goal

abbrev pub invariant-loop-byte : goal.invariant-loop-byte
invariant-loop-byte g l = record {
  read : Consumes (left_of l.fn.buffer (g.R.Source.remaining l.fn.source)) (left_of l.buffer (g.R.Source.remaining l.source)) l.line.items;
  plain : IsPlainLine l.line.items;
  short : IsShort l.line.items;
  faults : g.R.Source.faults l.source ≡ g.R.Source.faults l.fn.source;
}

abbrev pub decreases-loop-byte : goal.decreases-loop-byte
decreases-loop-byte g l = LINE_BYTES - array_vec_len l.line
