use Rattle.std.proofs.Common.{◌≡◌, length, take}
use Rattle.blocks.specs.Lists.{link_of, IsListed, Pops}
use Rattle.blocks.proofs.block.Block.take_many.Given as goal

-- the cells that are written down so far were taken from the list
abbrev pub invariant-loop-index : goal.invariant-loop-index
invariant-loop-index l = record {
  class : l.self.class ≡ l.initial.self.class;
  kind : l.self.kind ≡ l.initial.self.kind;
  size : length l.cells ≡ length l.initial.cells;
  pops : Pops (link_of l.memory l.page l.initial.self.class) l.initial.self.taken l.initial.self.first (take l.index l.cells) l.self.taken l.self.first;
  listed : IsListed l.memory l.page l.self;
}
