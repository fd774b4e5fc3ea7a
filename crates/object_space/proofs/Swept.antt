-- What a page table is to the space, and the space to the table.
use Rattle.std.proofs.Common.{ℕ, List}
use Rattle.block_map.specs.Listed.{AreListed}
use Rattle.lazy_sweep.specs.Sound.{store_with, IsSound}
use Rattle.lazy_sweep.specs.declared.table.PageTable.{PageTable}
use Rattle.object_space.specs.Store.{IsWholeSpace}

module _ (words : List ℕ) (t : PageTable) where
  pub sound_of : IsWholeSpace (store_with words t) t.ready t.waiting → IsSound t
  sound_of whole = record {
    agree = whole.sound.agree;
    used = whole.sound.used;
    rows = record { exact = whole.exact; awaited = whole.awaited; size = whole.pending.size; cut = whole.pending.cut };
  }

  pub whole_of : IsSound t → AreListed words t.map → IsWholeSpace (store_with words t) t.ready t.waiting
  whole_of sound listed = record {
    sound = record { agree = sound.agree; used = sound.used };
    listed = listed;
    exact = sound.rows.exact;
    awaited = sound.rows.awaited;
    pending = record { size = sound.rows.size; cut = sound.rows.cut };
  }
