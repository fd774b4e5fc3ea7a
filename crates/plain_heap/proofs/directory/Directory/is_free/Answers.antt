use Rattle.std.proofs.Common.{ℕ, below_more}
use Rattle.std.specs.Prelude.{All}
use Rattle.heap_spec.specs.Layout.{PointsInto}
use Rattle.plain_heap.specs.declared.extent.Extent.{Extent}
use Rattle.plain_heap.specs.Places.{word_start}
use Rattle.plain_heap.proofs.InDirectory.{evens}
use Rattle.plain_heap.proofs.PageWords.{all_on, not_on}
use Rattle.plain_heap.proofs.directory.Directory.is_free.Goals as goal

pub loop-word-preserved : goal.loop-word-preserved
loop-word-preserved c = below_more (λ (g : ℕ). All (λ (e : Extent). PointsInto (word_start c.args.page g) e.base e.length → ⊥) c.args.self.now.objects.items) _ c.loop-word.invariant
    (rw c.word_start.ensures at c.has_word.ensures.no c.if-has_word.false)

pub returns-then-has_word-clause-no : goal.returns-then-has_word-clause-no
returns-then-has_word-clause-no c _ free = not_on _ c.args.self.now.owned.some (evens c.args.self.now) (λ e. ⊥) c.args.page c.loop-word.word c.loop-word-test.true (rw c.word_start.ensures at c.has_word.ensures.yes c.if-has_word.true) free

pub returns-clause-yes : goal.returns-clause-yes
returns-clause-yes c _ = all_on _ c.args.self.now.owned.some (evens c.args.self.now) (λ e. ⊥) c.args.page _ c.loop-word-test.false c.loop-word.invariant
