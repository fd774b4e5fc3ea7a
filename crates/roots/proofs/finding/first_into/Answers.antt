use Rattle.std.proofs.Common.{ℕ, take, sym}
use Rattle.std.proofs.lemmas.List.{take_all}
use Rattle.std.proofs.lemmas.List.Elements.{All-more, All-same}
use Rattle.std.proofs.lemmas.Option.{slice_get-get_or}
use Rattle.heap_spec.specs.Layout.{PointsInto}
use Rattle.roots.proofs.finding.first_into.Goals as goal

pub returns-then-points_into-clause-some : goal.returns-then-points_into-clause-some
returns-then-points_into-clause-some c = (_, slice_get-get_or c.args.words.now c.loop-index.index 0 c.loop-index-test.true, c.points_into.ensures.yes c.if-points_into.true)

pub loop-index-preserved : goal.loop-index-preserved
loop-index-preserved c =
    All-more (λ (w : ℕ). PointsInto w c.args.base c.args.length → ⊥) c.args.words.now c.loop-index.index 0 c.loop-index-test.true c.loop-index.invariant
    (c.points_into.ensures.no c.if-points_into.false)

pub returns-clause-none : goal.returns-clause-none
returns-clause-none c =
    All-same (λ (w : ℕ). PointsInto w c.args.base c.args.length → ⊥) c.args.words.now (take c.loop-index.index c.args.words.now)
    (sym (take_all c.loop-index.index c.args.words.now c.loop-index-test.false)) c.loop-index.invariant
