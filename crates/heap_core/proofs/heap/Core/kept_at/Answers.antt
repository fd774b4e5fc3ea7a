use Rattle.heap_core.proofs.Lookups.{kept_if_found, nothing_if_none}
use Rattle.heap_core.proofs.heap.Core.kept_at.Goals as goal

pub returns-clause-some : goal.returns-clause-some
returns-clause-some c = rw (← c.self.view_is) (kept_if_found _ _ _ c.find.ensures.lawful c.find.ensures.found)

pub returns-clause-none : goal.returns-clause-none
returns-clause-none c = rw (← c.self.view_is) (nothing_if_none _ _ _ c.find.ensures.lawful c.find.ensures.found)
