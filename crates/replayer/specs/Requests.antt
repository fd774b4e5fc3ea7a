-- What a request asks for, as an event.
use Rattle.heap_spec.specs.declared.call.Call.TheVariants.{Alloc}
use Rattle.heap_spec.specs.declared.event.Event.{Event}
use Rattle.heap_spec.specs.declared.event.Event.TheVariants.{Mutator}
use Rattle.replayer.specs.declared.request.Request.{Request}

-- the call of the request's mutator
abbrev pub asks : Request → Event
asks r = Mutator r.slot (Alloc r.into r.words r.kind)
