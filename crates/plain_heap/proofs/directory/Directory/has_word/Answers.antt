use Rattle.std.proofs.Common.{sym}
use Rattle.std.proofs.lemmas.List.Elements.{All-contains}
use Rattle.heap_spec.specs.Layout.{PointsInto}
use Rattle.plain_heap.specs.declared.extent.Extent.{Extent}
use Rattle.plain_heap.proofs.Leaving.{holds_yes, holds_no}
use Rattle.plain_heap.proofs.Collects.{in_row}
use Rattle.plain_heap.proofs.directory.Directory.has_word.Goals as goal

pub returns-in_default-clause-test : goal.returns-in_default-clause-test
returns-in_default-clause-test c = sym (holds_no _ _ c.in_default.ensures.none)

pub returns-clause-test : goal.returns-clause-test
returns-clause-test c = let x = c.in-Some.ensures.some in sym (holds_yes _ x.0 _ (in_row _ _ x.0 x.1) x.2)

pub returns-clause-yes : goal.returns-clause-yes
returns-clause-yes c _ none = let x = c.in-Some.ensures.some in All-contains (λ (e : Extent). PointsInto c.args.address e.base e.length → ⊥) _ x.0 none (in_row _ _ x.0 x.1) x.2
