use Rattle.std.proofs.Common.{sym, subst, inr}
use Rattle.block_map.specs.Listed.{AreListed}
use Rattle.block_map.proofs.Listed.{listed_set}
use Rattle.block_map.proofs.map.BlockMap.cut.Goals as goal

pub returns-clause-listed : goal.returns-clause-listed
returns-clause-listed c = subst (AreListed c.new-block.new.memory) (sym c.put_page.ensures)
    (listed_set _ _ _ c.args.page _ c.self.invariant (rw (← c.self.view_is) at c.requires.inside) (rw (← c.self.view_is) at c.requires.listed) c.new-block.ensures.memory (inr c.new-block.ensures.listed))
