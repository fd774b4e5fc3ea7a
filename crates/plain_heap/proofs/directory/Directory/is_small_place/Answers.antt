use Rattle.std.proofs.Common.{arith}
use Rattle.plain_heap.proofs.directory.Directory.is_small_place.Goals as goal

pub returns-in_default-clause-no : goal.returns-in_default-clause-no
returns-in_default-clause-no c refused p =
    let is = p.on.is_cell in let fits = p.on.in_page in let some = c.requires.some.0 in c.in_default.ensures.none p.page p.in_heap (omega arith) (omega arith)
