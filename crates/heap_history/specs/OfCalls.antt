-- What is asked of calls of mutators alone.
use Rattle.heap_spec.specs.declared.call.Call.{Call}
use Rattle.heap_spec.specs.declared.event.Event.{Event}
use Rattle.heap_spec.specs.declared.event.Event.TheVariants.{Attach, Mutator, Begin, BeginPartial, Roots, Mark, Retrace, Finish, Sweep, Collect, Number}

-- this is so of the event's call, if it is one of a mutator
abbrev pub IfCall : (Call → Type 0) → Event → Type 0
IfCall P Attach = Unit {0}
IfCall P (Mutator slot call) = P call
IfCall P Begin = Unit {0}
IfCall P BeginPartial = Unit {0}
IfCall P Roots = Unit {0}
IfCall P (Mark n) = Unit {0}
IfCall P Retrace = Unit {0}
IfCall P Finish = Unit {0}
IfCall P Sweep = Unit {0}
IfCall P Collect = Unit {0}
IfCall P Number = Unit {0}
