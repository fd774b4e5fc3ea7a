-- What the pages of a map end as where the block of one is lent.
use Rattle.std.specs.Prelude.{ℕ, List, slice_set}
use Rattle.std.specs.Borrow.{Lends, MutBor, Fml}
use Rattle.blocks.specs.Cells.{Cells}
use Rattle.blocks.specs.contracts.block.Block.{the_row as block_row}
use Rattle.block_map.specs.States.{PageState, cut}
use Rattle.block_map.specs.contracts.page_list.PageList.{the_row as pages_row}

-- once the borrow r ends, the page is cut as was last written through r
abbrev pub LendsBlockOf : MutBor (List PageState) → ℕ → MutBor Cells → Fml
LendsBlockOf pages page r = Lends pages_row block_row pages r (λ w. slice_set pages.now page (cut w))
