use Rattle.marker.proofs.Objects.{objects_marked}
use Rattle.object_space.proofs.Forgetting.{forgets_lazily, objects_forgotten, carried_lazily}
use Rattle.object_space.proofs.space.ObjectSpace.finish.Goals as goal

pub forget_lazily-requires-clause-objects : goal.forget_lazily-requires-clause-objects
forget_lazily-requires-clause-objects c = objects_marked _ c.args.marker.now c.close.new.marker c.requires.objects c.close.ensures.traces.objects

pub returns-clause-forgets : goal.returns-clause-forgets
returns-clause-forgets c = forgets_lazily _ _ _ c.close.new.marker _ _ c.forget_lazily.ensures c.close.ensures.closure

pub returns-clause-cells : goal.returns-clause-cells
returns-clause-cells c = c.forget_lazily.ensures.cells

pub returns-clause-pending : goal.returns-clause-pending
returns-clause-pending c = c.forget_lazily.ensures.pending

pub returns-clause-objects : goal.returns-clause-objects
returns-clause-objects c = objects_forgotten _ _ c.close.new.marker _ c.forget_lazily.ensures (objects_marked _ c.args.marker.now c.close.new.marker c.requires.objects c.close.ensures.traces.objects)

pub returns-clause-carries : goal.returns-clause-carries
returns-clause-carries c t = carried_lazily _ _ c.close.new.marker _ c.laws.ensures.lawful.map c.forget_lazily.ensures (c.close.ensures.traces.carries t)
