use Rattle.std.proofs.lemmas.Option.{IfSome_then}
use Rattle.plain_heap.proofs.Answering.{none_then}
use Rattle.plain_heap.proofs.Objects.{reads_object, reads_nothing}
use Rattle.plain_heap.proofs.plain.PlainHeap.found.Goals as goal

pub returns-clause-some : goal.returns-clause-some
returns-clause-some c = rw (← c.self.view_is)
    (IfSome_then c.object_at.result c.object_at.ensures.some (λ e here s h. reads_object _ c.self.invariant.0 s h e here.0 _ here.1))

pub returns-clause-none : goal.returns-clause-none
returns-clause-none c = rw (← c.self.view_is)
    (none_then c.object_at.result c.object_at.ensures.none (λ none s h. reads_nothing _ c.self.invariant.0 s h _ none))
