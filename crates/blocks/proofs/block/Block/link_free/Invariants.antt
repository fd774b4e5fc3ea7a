use Rattle.std.proofs.Common.{◌*◌, ◌/◌, ◌≤◌}
use Rattle.words.specs.declared.limits.TheConstants.{GRANULE_WORDS}
use Rattle.blocks.specs.Begins.{first_cell_from}
use Rattle.blocks.specs.Lists.{link_of, ChangesFree, IsLinkedFrom}
use Rattle.blocks.proofs.block.Block.link_free.Given as goal

abbrev pub invariant-loop-j : goal.invariant-loop-j
invariant-loop-j l = (l.j ≤ 4) × IsLinkedFrom (link_of l.memory l.page l.self.class) l.self.taken (first_cell_from (l.self.class / GRANULE_WORDS) (64 * l.j)) l.first
    × ChangesFree l.initial.memory l.memory l.page l.self.class l.self.taken

abbrev pub decreases-loop-j : goal.decreases-loop-j
decreases-loop-j l = l.j
