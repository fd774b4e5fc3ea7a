-- What is true of each core, whatever calls made it.
use Rattle.heap_core.specs.CoreContents.{CoreContents, IsTraced}
use Rattle.heap_core.specs.Held.{IsSoundCore}

-- Its collector is traced, and it stands for a sound heap.
pub record IsLegalCore (c : CoreContents) : Type 0 where
  pub traced : IsTraced c.store c.cycle
  pub sound : IsSoundCore c
