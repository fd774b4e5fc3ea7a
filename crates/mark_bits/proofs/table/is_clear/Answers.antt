use Rattle.std.proofs.Common.{◌%◌, ◌<◌, arith}
use Rattle.mark_bits.proofs.Words.{masked-clear}
use Rattle.mark_bits.proofs.table.is_clear.Goals as goal

pub returns : goal.returns
returns c =
    let within : c.args.bit % 64 < 64 = omega arith in
    masked-clear c.args.word (c.args.bit % 64) within
