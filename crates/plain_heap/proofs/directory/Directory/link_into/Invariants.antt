use Rattle.std.specs.Prelude.{All, take}
use Rattle.plain_heap.specs.Keepers.{HasNoLink}
use Rattle.plain_heap.proofs.directory.Directory.link_into.Given as goal

-- so far
abbrev pub invariant-loop-next : goal.invariant-loop-next
invariant-loop-next l = All (HasNoLink l.self.origin l.words l.self.objects.items l.own l.object) (take l.next l.order)
