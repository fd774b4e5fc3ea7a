use Rattle.std.proofs.Common.{◌≡◌, vec_len}
use Rattle.lazy_sweep.proofs.AvailableRows.{AllClear}
use Rattle.lazy_sweep.proofs.available_pages.AvailablePages.new.Given as goal

abbrev pub invariant-loop : goal.invariant-loop
invariant-loop l = (vec_len l.rows ≡ l.counter) × AllClear l.rows.items l.counter l.pages
