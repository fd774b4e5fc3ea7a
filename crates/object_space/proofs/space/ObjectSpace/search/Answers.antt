use Rattle.std.proofs.Common.{arith}
use Rattle.object_space.proofs.Searching.{allocates_after, no_place_after}
use Rattle.lazy_sweep.proofs.Swept.{sweeps_none}
use Rattle.object_space.proofs.space.ObjectSpace.search.Goals as goal

pub loop-kind-init : goal.loop-kind-init
loop-kind-init c = record { sweeps = sweeps_none _ _ c.laws.ensures.lawful.map; none = c.in_default.ensures.none }

pub loop-kind-preserved : goal.loop-kind-preserved
loop-kind-preserved c = no_place_after _ _ _ _ _ _ c.loop-kind.invariant.sweeps (no_place_after _ _ _ _ _ _ c.sweep.ensures.sweeps c.in_default-place.ensures)

pub loop-kind-smaller : goal.loop-kind-smaller
loop-kind-smaller c =
    let fewer = c.sweep.ensures.fewer c.loop-kind-test.true in let less = c.in_default-place.ensures.sweeps.number in omega arith

pub returns-in-Some-place : goal.returns-in-Some-place
returns-in-Some-place c = allocates_after _ _ _ _ _ _ _ c.in_default.ensures.sweeps
    (allocates_after _ _ _ _ _ _ _ c.loop-kind.invariant.sweeps (allocates_after _ _ _ _ _ _ _ c.sweep.ensures.sweeps c.in-Some-place.ensures))
