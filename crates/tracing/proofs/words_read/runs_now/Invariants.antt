use Rattle.std.proofs.Common.{◌≡◌, take}
use Rattle.tracing.specs.Looked.{runs_of}
use Rattle.tracing.proofs.words_read.runs_now.Given as goal

-- the runs of the entries so far are there
abbrev pub invariant-loop-entry : goal.invariant-loop-entry
invariant-loop-entry l = l.runs.items ≡ runs_of l.core l.now (take l.entry-index l.entries)
