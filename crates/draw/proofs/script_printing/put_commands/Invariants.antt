use Rattle.std.proofs.Common.{◌≡◌, ◌+◌, ◌≤◌, length}
use denote.Text.{Utf8}
use denote.Shadow.{shadow}
use Rattle.draw.proofs.Scripts.{IsDrawnTo}
use Rattle.draw.proofs.script_printing.put_commands.Given as goal

-- the lines before the rest are drawn
abbrev pub invariant-loop-rest : goal.invariant-loop-rest
invariant-loop-rest g l = record {
  utf8 : shadow (Utf8 l.rest);
  pages : l.run.pages ≡ l.initial.run.pages;
  few : l.number + length l.rest ≤ length l.script;
  drawn : IsDrawnTo l.initial.run.pages l.initial.run.recorder l.initial.run.tracer l.script l.rest l.number l.run.recorder l.run.tracer (g.W.Sink.written l.initial.out) (g.W.Sink.written l.out);
}

abbrev pub decreases-loop-rest : goal.decreases-loop-rest
decreases-loop-rest g l = length l.rest
