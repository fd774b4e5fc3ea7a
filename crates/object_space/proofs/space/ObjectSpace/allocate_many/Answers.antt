use Rattle.std.proofs.Common.{arith}
use Rattle.std.proofs.lemmas.List.{length-take-le}
use Rattle.words.specs.declared.class.Placement.TheVariants.{Small}
use Rattle.object_space.specs.Many.{AllocatesEach}
use Rattle.object_space.proofs.Many.{each_after}
use Rattle.object_space.proofs.space.ObjectSpace.allocate_many.Goals as goal

pub returns-in_default-clause-allocates : goal.returns-in_default-clause-allocates
returns-in_default-clause-allocates c marks = AllocatesEach.none

pub returns-then-bases-eq0-clause-allocates : goal.returns-then-bases-eq0-clause-allocates
returns-then-bases-eq0-clause-allocates c marks = AllocatesEach.none

pub returns-in_default-ready_page-clause-allocates : goal.returns-in_default-ready_page-clause-allocates
returns-in_default-ready_page-clause-allocates c marks = rw c.in_default-ready_page.ensures.none.1 AllocatesEach.none

pub returns-clause-allocates : goal.returns-clause-allocates
returns-clause-allocates c marks = rw c.in-Small.is
    (each_after marks (Small c.in-Small.class) c.args.kind _ _ _ _ (c.ready_page.ensures.sweeps marks) c.ready_page.ensures.leaves (c.take_linked.ensures.allocates marks)
    (let few = c.take_linked.ensures.few in let size = c.take_linked.ensures.size in let ne = c.if-bases-eq0.false in let some = c.take_linked.ensures.some (omega arith) in
    let count = length-take-le c.take_linked.result c.take_linked.new.bases few in omega arith))
