use Rattle.std.proofs.Common.{◌*◌, ◌/◌}
use Rattle.words.specs.declared.limits.TheConstants.{GRANULE_WORDS}
use Rattle.blocks.proofs.Begins.{AreTakenBelow}
use Rattle.blocks.proofs.block.Block.is_full.Given as goal

abbrev pub invariant-loop-j : goal.invariant-loop-j
invariant-loop-j l = AreTakenBelow l.self.taken (l.self.class / GRANULE_WORDS) (64 * l.j)
