use Rattle.std.proofs.Common.{ℕ, ◌+◌, ◌*◌, below_more, arith}
use Rattle.std.specs.Prelude.{All}
use Rattle.words.specs.declared.limits.TheConstants.{WORD_BYTES}
use Rattle.heap_spec.specs.Layout.{PointsInto}
use Rattle.plain_heap.specs.declared.extent.Extent.{Extent}
use Rattle.plain_heap.proofs.InDirectory.{evens}
use Rattle.plain_heap.proofs.Bare.{fresh_by, not_fresh}
use Rattle.plain_heap.proofs.directory.Directory.is_fresh.Goals as goal

pub loop-index-preserved : goal.loop-index-preserved
loop-index-preserved c = below_more (λ (i : ℕ). All (λ (f : Extent). PointsInto (c.args.object.now.base + WORD_BYTES * i) f.base f.length → ⊥) c.args.self.now.objects.items) _ c.loop-index.invariant
    (c.has_word.ensures.no c.if-has_word.false)

pub returns-then-has_word-clause-no : goal.returns-then-has_word-clause-no
returns-then-has_word-clause-no c _ = not_fresh _ (evens c.args.self.now) c.args.object.now c.requires.aligned c.loop-index.index (omega (arith, c.loop-index-test.true)) (c.has_word.ensures.yes c.if-has_word.true)

pub returns-clause-yes : goal.returns-clause-yes
returns-clause-yes c _ = fresh_by _ (evens c.args.self.now) c.args.object.now c.requires.aligned (λ i lt. c.loop-index.invariant i (omega arith))
