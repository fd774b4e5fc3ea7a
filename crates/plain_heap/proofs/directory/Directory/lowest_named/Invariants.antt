use Rattle.std.proofs.Common.{◌≡◌, take, length}
use Rattle.plain_heap.specs.Claims.{AreUnset}
use Rattle.plain_heap.specs.Wrongs.{TellsLowest, IsBelow, IsNamedAt}
use Rattle.plain_heap.proofs.directory.Directory.lowest_named.Given as goal

-- so far
abbrev pub invariant-loop-index : goal.invariant-loop-index
invariant-loop-index l = TellsLowest (IsBelow (IsNamedAt l.self.objects.items l.marks l.bases) l.index) l.lowest × AreUnset l.self.objects.items (take l.index l.bases) l.stays.items × (length l.stays.items ≡ length l.fn.stays.items)
