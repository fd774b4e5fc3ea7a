-- C's struct of shares.
use Rattle.std.specs.Prelude.{Option}
use base.Fml.{Fml}
use denote.RawPtr.{Ptr}
use Rattle.std.specs.Global.{Global}
use Rattle.mpheap_c.specs.contracts.crew.Place.{the_row as place_row}
use Rattle.mpheap_c.specs.Handle.{owns_at}

-- nothing while it is closed, and else the place behind its pointer, with the right to free it
abbrev pub place_owns : Global → Ptr → Option place_row.Denot → Fml
place_owns = owns_at place_row
