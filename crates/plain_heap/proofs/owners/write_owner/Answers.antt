use Rattle.std.proofs.Common.{refl, arith}
use Rattle.std.proofs.lemmas.Option.{slice_get-get_or}
use Rattle.plain_heap.proofs.Owning.{own_past, own_last, own_all}
use Rattle.plain_heap.proofs.owners.write_owner.Goals as goal

pub returns-then-index-objects : goal.returns-then-index-objects
returns-then-index-objects c = own_all _ _ c.requires.apart _ c.requires.within _ _ (omega arith) refl (own_past _ _ c.requires.apart _ c.requires.within _ _ c.if-index-objects.true c.requires.others)

pub returns : goal.returns
returns c = own_all _ _ c.requires.apart _ c.requires.within _ _ (omega arith) c.fill.auto.row
    (own_last _ _ c.requires.apart _ c.requires.within _ _ c.word_index-start.result (slice_get-get_or c.args.objects.now c.args.index _ c.if-index-objects.false) c.word_index-start.ensures _ _ c.requires.others
    c.fill.ensures.filled c.fill.ensures.others)
