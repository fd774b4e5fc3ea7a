use Rattle.std.proofs.Common.{◌≡◌}
use Rattle.std.specs.Io.KnownBytes.{Keeps}
use Rattle.scripts.proofs.std_io.StdSource.read.Given as goal

abbrev pub invariant-loop : goal.invariant-loop
invariant-loop g l = record {
  bytes : Keeps (g.T.Read.remaining l.initial.self.inner) (g.T.Read.remaining l.self.inner);
  faults : l.self.faults.n ≡ l.initial.self.faults.n;
}
