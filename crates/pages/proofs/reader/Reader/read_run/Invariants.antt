use Rattle.std.specs.Prelude.{◌≡◌, ◌+◌}
use Rattle.pages.proofs.reader.Reader.read_run.Given as goal

abbrev pub invariant-loop : goal.invariant-loop
invariant-loop l = (l.self.words ≡ l.initial.self.words) × (l.self.moments ≡ l.initial.self.moments) × (l.self.reads ≡ l.initial.self.reads + l.counter)
