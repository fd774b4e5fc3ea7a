use Rattle.std.proofs.Common.{take}
use Rattle.plain_heap.specs.Reached.{AreApart}
use Rattle.plain_heap.proofs.Stays.{IsKept}
use Rattle.plain_heap.proofs.parting.keep_flagged.Given as goal

-- so far
abbrev pub invariant-loop-index : goal.invariant-loop-index
invariant-loop-index l = IsKept l.fn.objects.items l.flags l.index l.stay l.objects.items × (AreApart l.fn.objects.items → AreApart (take l.stay l.objects.items))
