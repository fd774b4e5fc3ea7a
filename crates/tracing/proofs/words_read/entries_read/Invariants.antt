use Rattle.std.proofs.Common.{◌≡◌, ◌++◌, take}
use Rattle.std.specs.Prelude.{map}
use Rattle.tracing.specs.Looked.{fresh}
use Rattle.tracing.specs.Sets.{listed}
use Rattle.tracing.proofs.words_read.entries_read.Given as goal

-- the entries that were there, and those of the objects so far
abbrev pub invariant-loop-place : goal.invariant-loop-place
invariant-loop-place l = l.entries.items ≡ (listed l.old.current ++ l.old.entries.items) ++ map fresh (take l.place-index l.marked)
