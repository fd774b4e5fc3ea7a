use Rattle.std.proofs.Common.{ℕ, ◌<◌, ◌+◌, ◌*◌}
use Rattle.std.specs.Prelude.{All}
use Rattle.words.specs.declared.limits.TheConstants.{WORD_BYTES}
use Rattle.heap_spec.specs.Layout.{PointsInto}
use Rattle.plain_heap.proofs.directory.Directory.is_fresh.Given as goal

-- so far
abbrev pub invariant-loop-index : goal.invariant-loop-index
invariant-loop-index l = (i : ℕ) → i < l.index → All (λ f. PointsInto (l.object.base + WORD_BYTES * i) f.base f.length → ⊥) l.self.objects.items
