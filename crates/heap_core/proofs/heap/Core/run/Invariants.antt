use Rattle.std.proofs.Common.{take}
use Rattle.heap_core.specs.Acts.{AreActs}
use Rattle.heap_core.specs.Following.{told_of}
use Rattle.heap_core.proofs.heap.Core.run.Given as goal

abbrev pub invariant-loop-i : goal.invariant-loop-i
invariant-loop-i l = AreActs l.initial.self (told_of (take l.i l.events) (take l.i l.out)) l.self
