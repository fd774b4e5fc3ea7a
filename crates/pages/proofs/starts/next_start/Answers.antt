use Rattle.std.proofs.Common.{arith}
use Rattle.pages.proofs.RunStarts.{start_found, start_nowhere}
use Rattle.pages.proofs.starts.next_start.Goals as goal

pub returns-then-first-n : goal.returns-then-first-n
returns-then-first-n c = start_found _ _ _ _ _ c.as_words.ensures.bits c.first_start-first.ensures c.as_words.ensures.size c.requires.some (omega (arith, c.if-first-n.true, c.len-2.ensures))

pub returns-else-first-n : goal.returns-else-first-n
returns-else-first-n c = start_nowhere _ _ _ _ _ c.as_words.ensures.bits c.first_start-first.ensures (omega (arith, c.if-first-n.false, c.len-2.ensures))
