-- C's struct of shares after its handle or its place was lent.
use Rattle.std.specs.Prelude.{Some}
use base.Fml.{Fml}
use denote.Ref.{MutBor}
use denote.Follow.{follows}
use Rattle.mpheap_c.specs.contracts.crew.Place.{the_row as place_row}
use Rattle.mpheap_c.specs.declared.handle.Handle.{Handle}
use Rattle.mpheap_c.specs.contracts.handle.Handle.{the_row as handle_row}
use Rattle.mpheap_c.specs.declared.crew.Crew.{Crew}
use Rattle.mpheap_c.specs.contracts.crew.Crew.{the_row as crew_row}

-- the struct that is this handle
abbrev pub of_handle : Handle place_row.Denot → Crew
of_handle w = record { at = w.at; alloc = w.alloc; place = w.value }

-- once the borrow r ends, the struct behind h is the handle that was last written through r
abbrev pub crew_follows_handle : MutBor Crew → MutBor (Handle place_row.Denot) → Fml
crew_follows_handle h r = follows crew_row (handle_row place_row) h.ghost_name r.ghost_name of_handle

-- the struct with this place
abbrev pub with_place : Crew → place_row.Denot → Crew
with_place h w = record { at = h.at; alloc = h.alloc; place = Some w }

-- once the borrow r ends, the struct behind h has the place that was last written through r
abbrev pub crew_follows : MutBor Crew → MutBor place_row.Denot → Fml
crew_follows h r = follows crew_row place_row h.ghost_name r.ghost_name (with_place h.now)
