use Rattle.pages.proofs.Runs.{page_found}
use Rattle.pages.proofs.pool.find_page.Goals as goal

pub returns : goal.returns
returns c = page_found _ _ _ c.requires c.next.ensures
