use Rattle.std.proofs.Common.{◌≡◌, set, refl, subst, inr}
use Rattle.blocks.specs.Cells.{Cells}
use Rattle.blocks.specs.Lists.{ChangesPage}
use Rattle.blocks.proofs.Lists.{changes_none}
use Rattle.block_map.specs.Listed.{IsListedOn}
use Rattle.block_map.specs.States.{cut}
use Rattle.block_map.proofs.Linking.{laid_linked, listed_linked, same_linked}
use Rattle.block_map.proofs.map.BlockMap.link.Goals as goal
use Rattle.block_map.proofs.map.BlockMap.link.Goals.{then-not-is_listed, else-not-is_listed}

-- the block then
record Then (c : goal.Joined-not-is_listed) : Type 0 where
  block : Cells
  became : c.if-not-is_listed.self-inside.pages ≡ set c.self.inside.pages c.args.page (cut block)
  first : block ≡ record c.block_mut-block.result.now { first = block.first }
  changes : ChangesPage c.args.memory.now c.if-not-is_listed.memory c.args.page
  listed : IsListedOn c.if-not-is_listed.memory c.args.page (cut block)

after : (c : goal.Joined-not-is_listed) → Then c
after c = elim c.if-not-is_listed.branch [
  | then-not-is_listed w ↦ record {
    block = w.link.new.self;
    became = rw w.self-inside-is refl;
    first = w.link.ensures.block;
    changes = rw w.memory-is w.link.ensures.changes;
    listed = rw w.memory-is (inr w.link.ensures.listed);
  }
  | else-not-is_listed w ↦ record {
    block = c.block_mut-block.result.now;
    became = rw w.self-inside-is refl;
    first = refl;
    changes = rw w.memory-is (changes_none _ _);
    listed = rw w.memory-is (subst (IsListedOn _ c.args.page) c.block_mut-block.ensures.block ((rw (← c.self.view_is) at c.requires.listed).each c.args.page (rw (← c.self.view_is) at c.requires.inside)));
  }
]

pub invariant_of-self : goal.invariant_of-self
invariant_of-self c =
    let t = after c in
    laid_linked _ _ c.args.page _ _ c.self.invariant (rw (← c.self.view_is) at c.requires.inside) c.block_mut-block.ensures.block t.became t.first

pub returns-clause-same : goal.returns-clause-same
returns-clause-same c =
    let t = after c in
    rw (← c.self.view_is) (same_linked _ _ c.args.page _ _ c.self.invariant (rw (← c.self.view_is) at c.requires.inside) c.block_mut-block.ensures.block t.became t.first)

pub returns-clause-listed : goal.returns-clause-listed
returns-clause-listed c =
    let t = after c in
    listed_linked _ _ c.args.page _ _ c.self.invariant (rw (← c.self.view_is) at c.requires.inside) c.block_mut-block.ensures.block t.became t.first _ _ (rw (← c.self.view_is) at c.requires.listed) t.changes t.listed
