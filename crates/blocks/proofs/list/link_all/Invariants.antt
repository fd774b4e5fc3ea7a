use Rattle.std.proofs.Common.{◌≤◌, false, replicate}
use Rattle.blocks.specs.Lists.{link_of, ChangesFree, IsLinkedFrom}
use Rattle.blocks.proofs.list.link_all.Given as goal

abbrev pub invariant-loop-cell : goal.invariant-loop-cell
invariant-loop-cell l = (l.cell ≤ l.cells) × IsLinkedFrom (link_of l.memory l.page l.class) (replicate l.cells false) l.cell l.next × ChangesFree l.initial.memory l.memory l.page l.class (replicate l.cells false)

abbrev pub decreases-loop-cell : goal.decreases-loop-cell
decreases-loop-cell l = l.cell
