-- What each event of the heap is to a history.
use Rattle.history.specs.declared.object.Rank.{Rank}
use Rattle.history.specs.declared.object.Rank.TheVariants.{First, Plain, Counted, Last}
use Rattle.heap_spec.specs.declared.call.Call.{Call}
use Rattle.heap_spec.specs.declared.call.Call.TheVariants.{Detach}
use Rattle.heap_spec.specs.declared.event.Event.{Event}
use Rattle.heap_spec.specs.declared.event.Event.TheVariants.{Attach, Mutator, Begin, BeginPartial, Roots, Mark, Retrace, Finish, Sweep, Collect, Number}

-- a mutator's calls end with its detach
abbrev pub rank_of_call : Call → Rank
rank_of_call Detach = Last
rank_of_call _ = Plain

-- a slot's events begin with its attach, and collections are counted
abbrev pub rank_of : Event → Rank
rank_of Attach = First
rank_of (Mutator slot call) = rank_of_call call
rank_of Begin = Plain
rank_of BeginPartial = Plain
rank_of Roots = Plain
rank_of (Mark n) = Plain
rank_of Retrace = Plain
rank_of Finish = Counted
rank_of Sweep = Plain
rank_of Collect = Counted
rank_of Number = Plain
