use Rattle.std.proofs.Common.{◌≡◌, take}
use Rattle.std.specs.Prelude.{map}
use Rattle.tracing.specs.Entries.{shown}
use Rattle.tracing.proofs.knowledge.entries.Given as goal

-- the entries so far are there
abbrev pub invariant-loop-entry : goal.invariant-loop-entry
invariant-loop-entry l = l.entries.items ≡ map shown (take l.entry-index l.entry-items)
