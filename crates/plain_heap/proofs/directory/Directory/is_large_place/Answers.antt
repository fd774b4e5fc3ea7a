use Rattle.std.proofs.Common.{◌∙◌, arith}
use Rattle.plain_heap.proofs.Cells.{free_from}
use Rattle.plain_heap.proofs.directory.Directory.is_large_place.Goals as goal

pub returns-in_default-clause-no : goal.returns-in_default-clause-no
returns-in_default-clause-no c refused p = let is = p.is_start in let fits = p.in_heap in let some = c.requires.some in c.in_default.ensures.none p.first (omega arith) (omega arith) (omega arith)

pub returns-clause-yes : goal.returns-clause-yes
returns-clause-yes c done = record {
  first = c.in-Some.first;
  in_heap = let low = c.in-Some.ensures.some.0 in let few = c.if-count-pages.false in omega arith;
  is_start = c.if-address-page_start.false ∙ c.page_start.ensures;
  free = c.is_free_run.ensures.yes done;
}

pub returns-clause-no : goal.returns-clause-no
returns-clause-no c refused p = c.is_free_run.ensures.no refused (free_from _ _ _ c.in-Some.first _ (c.if-address-page_start.false ∙ c.page_start.ensures) p)
