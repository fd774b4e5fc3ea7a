use Rattle.object_space.proofs.Forgetting.{sweeps_unreached, objects_swept, carried_swept}
use Rattle.object_space.proofs.space.ObjectSpace.collect.Goals as goal

pub returns-clause-forgets : goal.returns-clause-forgets
returns-clause-forgets c = sweeps_unreached _ _ _ _ _ _ _ c.finish-count.ensures.forgets c.sweep_all.ensures.sweeps

pub returns-clause-objects : goal.returns-clause-objects
returns-clause-objects c = objects_swept _ _ c.finish-count.new.marker c.sweep_all.ensures.sweeps c.finish-count.ensures.objects

pub returns-clause-carries : goal.returns-clause-carries
returns-clause-carries c t = carried_swept _ _ c.finish-count.new.marker c.sweep_all.ensures.sweeps (c.finish-count.ensures.carries t)
