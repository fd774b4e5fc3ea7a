use Rattle.std.proofs.Common.{◌∙◌, subst, sym}
use Rattle.std.proofs.lemmas.List.{take_more}
use Rattle.plain_heap.specs.Claims.{AreUnset}
use Rattle.plain_heap.proofs.Lowest.{below_one}
use Rattle.plain_heap.proofs.directory.Directory.lowest_named.Goals as goal

pub loop-index-preserved : goal.loop-index-preserved
loop-index-preserved c = (
  below_one _ _ _ _ _ c.loop-index.invariant.0 c.named_at.ensures c.lower-lowest.ensures,
  subst (λ l. AreUnset c.args.self.now.objects.items l c.unset_one.new.flags.items) (sym (take_more c.args.bases.now c.loop-index.index _ c.loop-index-test.true)) (c.unset_one.ensures.unset _ c.loop-index.invariant.1),
  c.unset_one.ensures.size ∙ c.loop-index.invariant.2,
)
