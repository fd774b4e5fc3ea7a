use Rattle.std.proofs.lemmas.Option.{slice_get-get_or}
use Rattle.plain_heap.proofs.Owning.{own_none, own_more, own_all}
use Rattle.plain_heap.proofs.owners.write_owners.Goals as goal

pub loop-index-init : goal.loop-index-init
loop-index-init c = own_none _ _ c.requires.apart _ c.requires.within _

pub loop-index-preserved : goal.loop-index-preserved
loop-index-preserved c =
    own_more _ _ c.requires.apart _ c.requires.within _ _ c.word_index-start.result (slice_get-get_or c.args.objects.now c.loop-index.index _ c.loop-index-test.true) c.word_index-start.ensures _ _ c.loop-index.invariant
    c.fill.ensures.filled c.fill.ensures.others

pub returns : goal.returns
returns c = own_all _ _ c.requires.apart _ c.requires.within _ _ c.loop-index-test.false c.loop-index.auto.owners c.loop-index.invariant
