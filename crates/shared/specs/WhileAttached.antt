-- Which calls of a mutator there are between its attach and its detach.
use Rattle.std.specs.Prelude.{◌≢◌}
use Rattle.heap_spec.specs.declared.call.Call.{Call}
use Rattle.heap_spec.specs.declared.call.Call.TheVariants.{Detach}

-- any call of a mutator but its last
abbrev pub IsNoDetach : Call → Type 0
IsNoDetach call = call ≢ Detach
