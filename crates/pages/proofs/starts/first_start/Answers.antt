use Rattle.pages.proofs.RunStarts.{sought_found, sought_more}
use Rattle.pages.proofs.starts.first_start.Goals as goal

pub returns-in-Some : goal.returns-in-Some
returns-in-Some c = sought_found _ _ _ _ _ _ _ c.requires.some c.max-within.ensures c.loop-from.invariant c.next_pair-j.ensures c.starts_at.ensures _ c.in-Some.ensures

pub loop-from-preserved : goal.loop-from-preserved
loop-from-preserved c = sought_more _ _ _ _ _ _ _ c.requires.some c.max-within.ensures c.loop-from.invariant c.next_pair-j.ensures c.starts_at.ensures c.in_default.ensures
