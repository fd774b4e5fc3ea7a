use Rattle.std.proofs.Common.{◌<◌, length, arith}
use Rattle.std.proofs.lemmas.Option.{slice_get_within}
use Rattle.plain_heap.proofs.Lowest.{flagged_more}
use Rattle.plain_heap.proofs.directory.Directory.mark_flagged.Goals as goal

pub loop-index-init : goal.loop-index-init
loop-index-init c = λ i e lt at. absurd (let none : i < 0 = lt in omega arith)

pub loop-index-preserved : goal.loop-index-preserved
loop-index-preserved c =
    let room = c.requires in let n = c.len-index-end.ensures in let less = c.loop-index-test.true in
    flagged_more _ _ _ c.loop-index.index _ _ _ (omega arith) c.object.ensures c.is_flagged.ensures.yes c.is_flagged.ensures.no c.loop-index.invariant

pub returns-clause-marked : goal.returns-clause-marked
returns-clause-marked c = λ i e at. let lt : i < length c.args.self.now.objects.items = slice_get_within c.args.self.now.objects.items i e at in let n = c.len-index-end.ensures in let past = c.loop-index-test.false in c.loop-index.invariant i e (omega arith) at
