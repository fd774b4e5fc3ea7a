use Rattle.mark_bits.proofs.Passing.{splits}
use Rattle.mark_bits.proofs.table.MarkTable.split.Goals as goal

pub split_seat-seat-requires : goal.split_seat-seat-requires
split_seat-seat-requires c =
    let table = c.args.self.now in
    (c.requires.of.table, table.some, splits table.table.shared.key.marks.value _ _ _)
