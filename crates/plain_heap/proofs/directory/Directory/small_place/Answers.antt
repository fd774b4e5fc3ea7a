use Rattle.std.proofs.Common.{ℕ, below_more, arith}
use Rattle.plain_heap.specs.Places.{IsPlaceOn}
use Rattle.plain_heap.proofs.directory.Directory.small_place.Goals as goal

pub loop-page-preserved : goal.loop-page-preserved
loop-page-preserved c a = below_more (λ (page : ℕ). IsPlaceOn c.args.self.now.objects.items page c.args.length c.args.kind a → ⊥) _ (c.loop-page.invariant a) (c.in_default.ensures.none a)

pub returns-clause-none : goal.returns-clause-none
returns-clause-none c a p = let h = p.in_heap in c.loop-page.invariant a p.page (omega (arith, h)) p.on
