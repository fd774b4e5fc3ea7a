use Rattle.std.proofs.Common.{ℕ, ◌+◌, ◌*◌, ◌/◌, ◌<◌, refl, below_more, arith}
use Rattle.words.specs.declared.limits.TheConstants.{WORD_BYTES, PAGE_WORDS}
use Rattle.words.specs.Layout.{page_start}
use Rattle.plain_heap.specs.Places.{IsNoBase}
use Rattle.plain_heap.proofs.Placing.{cell_below, cell_fits}
use Rattle.plain_heap.proofs.directory.Directory.free_cell.Goals as goal

pub returns-then-not-has_base-clause-some : goal.returns-then-not-has_base-clause-some
returns-then-not-has_base-clause-some c =
    rw c.page_start.ensures (c.loop-cell.cell, cell_fits _ _ c.requires.some c.loop-cell-test.true, refl, rw c.page_start.ensures at c.has_base.ensures.no c.if-not-has_base.true)

pub loop-cell-preserved : goal.loop-cell-preserved
loop-cell-preserved c = below_more (λ (cell : ℕ). IsNoBase c.args.self.now.objects.items (page_start c.args.page + WORD_BYTES * (c.args.length * cell)) → ⊥) _ c.loop-cell.invariant
    (rw c.page_start.ensures at c.has_base.ensures.yes c.if-not-has_base.false)

pub returns-clause-none : goal.returns-clause-none
returns-clause-none c cell fits = let h : cell < PAGE_WORDS / c.args.length = cell_below c.args.length cell c.requires.some fits in c.loop-cell.invariant cell (omega arith)
