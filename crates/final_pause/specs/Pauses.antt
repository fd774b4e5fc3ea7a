-- What the helpers of a pause share.
use Rattle.std.specs.Prelude.{ℕ, List}
use Rattle.mark_bits.specs.declared.table.MarkTable.{MarkTable}
use Rattle.block_map.specs.States.{PageState}
use Rattle.marker.specs.Marking.{Marking}
use Rattle.final_pause.specs.declared.share.Pause.{Pause}

-- The table from which they claim, the marker as it was when they were dealt their shares, the states of the pages, the words of the
-- memory, the root words, and how many helpers there are.
pub record PauseView : Type 0 where
  pub table : MarkTable
  pub marker : Marking
  pub map : List PageState
  pub memory : List ℕ
  pub roots : List ℕ
  pub helpers : ℕ

-- the same of a pause, whose parts are lent
abbrev pub pause_view : Pause → PauseView
pause_view p = record { table = p.table.now; marker = p.marker.now; map = p.map.now; memory = p.memory.now; roots = p.roots.now; helpers = p.helpers }
