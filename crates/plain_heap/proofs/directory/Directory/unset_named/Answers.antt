use Rattle.std.proofs.Common.{◌∙◌, sym, subst}
use Rattle.std.proofs.lemmas.List.{take_more}
use Rattle.plain_heap.specs.Claims.{AreUnset}
use Rattle.plain_heap.proofs.directory.Directory.unset_named.Goals as goal

pub loop-base-preserved : goal.loop-base-preserved
loop-base-preserved c = (
  subst (λ l. AreUnset c.args.self.now.objects.items l c.unset_one.new.flags.items) (sym (take_more c.args.bases.now c.loop-base.base-index _ c.loop-base-test.true)) (c.unset_one.ensures.unset _ c.loop-base.invariant.0),
  c.unset_one.ensures.size ∙ c.loop-base.invariant.1,
)
