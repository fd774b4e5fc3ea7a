use Rattle.std.proofs.Common.{arith}
use Rattle.mark_bits.proofs.Claiming.{looks}
use Rattle.mark_bits.proofs.table.MarkTable.is_set.Goals as goal

pub load-found-requires : goal.load-found-requires
load-found-requires c =
    let table = c.args.self.now in
    let bit = c.if-bit-word_count.false in let count = c.word_count.ensures in
    (c.requires.of.table, omega arith, looks table.table.shared.key.marks.value _ _ _ _ _ c.args.me.now.part)
