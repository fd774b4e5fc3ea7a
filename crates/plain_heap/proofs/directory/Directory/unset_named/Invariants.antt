use Rattle.std.proofs.Common.{◌≡◌, take, length}
use Rattle.plain_heap.specs.Claims.{AreUnset}
use Rattle.plain_heap.proofs.directory.Directory.unset_named.Given as goal

-- so far
abbrev pub invariant-loop-base : goal.invariant-loop-base
invariant-loop-base l = AreUnset l.self.objects.items (take l.base-index l.bases) l.flags.items × (length l.flags.items ≡ length l.fn.flags.items)
