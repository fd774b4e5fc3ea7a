use Rattle.std.proofs.Common.{◌∙◌, arith}
use Rattle.plain_heap.proofs.Flagging.{marked_more, marked_past, marked_all}
use Rattle.plain_heap.proofs.directory.Directory.flag_marked.Goals as goal
use Rattle.plain_heap.proofs.directory.Directory.flag_marked.Goals.{then-marks-index, else-marks-index}

pub loop-index-preserved : goal.loop-index-preserved
loop-index-preserved c = elim c.if-marks-index.branch [
  | then-marks-index w ↦ marked_more _ _ _ _ c.loop-index.index _ _ _ c.loop-index.invariant w.object.ensures w.if-marks-index.true (w.flags-is ∙ w.set_flag.ensures)
  | else-marks-index w ↦ marked_past _ _ _ _ c.loop-index.index _ _ c.loop-index.invariant w.if-marks-index.false w.flags-is
]

pub returns : goal.returns
returns c = marked_all _ _ _ _ _ _ (let n = c.len-index-end.ensures in let past = c.loop-index-test.false in omega arith) c.loop-index.invariant
