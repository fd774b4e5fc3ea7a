use Rattle.std.proofs.Common.{ℕ, ◌<◌, ◌+◌, ◌*◌}
use Rattle.words.specs.declared.limits.TheConstants.{WORD_BYTES}
use Rattle.words.specs.Layout.{page_start}
use Rattle.plain_heap.specs.Places.{IsNoBase}
use Rattle.plain_heap.proofs.directory.Directory.free_cell.Given as goal

-- none so far
abbrev pub invariant-loop-cell : goal.invariant-loop-cell
invariant-loop-cell l = (cell : ℕ) → cell < l.cell → IsNoBase l.self.objects.items (page_start l.page + WORD_BYTES * (l.length * cell)) → ⊥
