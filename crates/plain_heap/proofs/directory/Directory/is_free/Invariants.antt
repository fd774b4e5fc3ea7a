use Rattle.std.proofs.Common.{ℕ, ◌<◌}
use Rattle.std.specs.Prelude.{All}
use Rattle.heap_spec.specs.Layout.{PointsInto}
use Rattle.plain_heap.specs.Places.{word_start}
use Rattle.plain_heap.proofs.directory.Directory.is_free.Given as goal

-- so far
abbrev pub invariant-loop-word : goal.invariant-loop-word
invariant-loop-word l = (g : ℕ) → g < l.word → All (λ e. PointsInto (word_start l.page g) e.base e.length → ⊥) l.self.objects.items
