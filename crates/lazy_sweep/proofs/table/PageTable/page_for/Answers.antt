use Rattle.lazy_sweep.proofs.ExactRows.{if_none_map, none_available}
use Rattle.lazy_sweep.proofs.table.PageTable.page_for.Goals as goal

pub returns-in_default-clause-none : goal.returns-in_default-clause-none
returns-in_default-clause-none c = if_none_map _ (none_available _ _ _ _ _ c.requires.rows.exact c.first.ensures.listed c.in_default.ensures.page) c.pending_for.ensures.none
