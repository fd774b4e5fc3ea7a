use Rattle.std.proofs.Common.{◌≡◌}
use Rattle.std.specs.Io.KnownBytes.{Keeps}
use Rattle.scripts.proofs.std_io.StdSink.write.Given as goal

abbrev pub invariant-loop : goal.invariant-loop
invariant-loop g l = record {
  bytes : Keeps (g.T.Write.contents l.initial.self.inner) (g.T.Write.contents l.self.inner);
  faults : l.self.faults.n ≡ l.initial.self.faults.n;
}
