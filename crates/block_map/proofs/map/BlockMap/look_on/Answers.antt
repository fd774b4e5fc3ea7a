use Rattle.std.proofs.Common.{ap, ◌∙◌}
use Rattle.block_map.specs.Shown.{shown}
use Rattle.block_map.proofs.Finding.{on_head}
use Rattle.block_map.proofs.map.BlockMap.look_on.Goals as goal

pub returns-in-Head : goal.returns-in-Head
returns-in-Head c =
    on_head _ _ _ _ _ _ c.requires.on (c.page.ensures.state ∙ ap shown c.in-Head.is) c.large_at.ensures
