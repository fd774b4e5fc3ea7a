use Rattle.block_map.proofs.Padding.{found_below}
use Rattle.block_map.proofs.map.BlockMap.used.Goals as goal

pub returns-clause-below : goal.returns-clause-below
returns-clause-below c = rw (← c.self.view_is) (λ w f is. found_below _ _ w f c.used.ensures.past is)
