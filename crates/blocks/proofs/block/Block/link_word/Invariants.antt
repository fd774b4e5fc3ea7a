use Rattle.std.proofs.Common.{ℕ, ◌+◌, ◌*◌, ◌/◌}
use Rattle.words.specs.declared.limits.TheConstants.{GRANULE_WORDS}
use Rattle.blocks.specs.Begins.{first_cell_from}
use Rattle.blocks.specs.Lists.{link_of, ChangesFree, IsLinkedFrom}
use Rattle.blocks.proofs.Tops.{IsLowRest}
use Rattle.blocks.proofs.block.Block.link_word.Given as goal

abbrev pub invariant-loop-rest : goal.invariant-loop-rest
invariant-loop-rest l = ChangesFree l.initial.memory l.memory l.page l.self.class l.self.taken × (to : ℕ) × IsLowRest l.free l.rest to
    × IsLinkedFrom (link_of l.memory l.page l.self.class) l.self.taken (first_cell_from (l.self.class / GRANULE_WORDS) (64 * l.j + to)) l.next

abbrev pub decreases-loop-rest : goal.decreases-loop-rest
decreases-loop-rest l = l.rest
