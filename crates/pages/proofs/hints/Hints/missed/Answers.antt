use Rattle.pages.proofs.Searches.{hints_missed}
use Rattle.pages.proofs.hints.Hints.missed.Goals as goal

pub returns : goal.returns
returns c row are size none = hints_missed _ _ _ _ are size none
