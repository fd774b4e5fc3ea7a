use Rattle.object_space.proofs.Searching.{finds_place}
use Rattle.lazy_sweep.proofs.Swept.{sweeps_more}
use Rattle.object_space.proofs.space.ObjectSpace.place_small.Goals as goal

pub returns-in_default : goal.returns-in_default
returns-in_default c = finds_place _ _ _ _ _ _ _ c.swept_page.ensures.sweeps c.take_page.ensures.some c.take_page.ensures.gains c.take_page.ensures.none

pub returns : goal.returns
returns c = record { ready = c.link_page.new.self; sweeps = sweeps_more _ _ _ _ c.swept_page.ensures.sweeps (c.link_page.ensures.sweeps _); room = c.take_cell.ensures.room; gains = c.take_cell.ensures.gains }
