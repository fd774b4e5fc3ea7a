use Rattle.std.proofs.Common.{refl}
use Rattle.history.proofs.logged.Logged.quiet_by.Goals as goal

pub invariant_of-self : goal.invariant_of-self
invariant_of-self g c =
    let was = c.self.invariant.1 in (
      c.self.invariant.0,
      record {
        state = was.state;
        reached = was.reached;
        stood_for = c.requires.keeps _ _ _ (record { shown = _; shows = refl; left = _; met = c.work.ensures; leaves = refl }) was.state was.stood_for;
      },
      c.self.invariant.2,
    )

pub returns-clause-gives : goal.returns-clause-gives
returns-clause-gives g c = rw (← c.self.view_is) (record { shown = _; shows = refl; left = _; met = c.work.ensures; leaves = refl })

pub returns-clause-keeps : goal.returns-clause-keeps
returns-clause-keeps g c = rw (← c.self.view_is) (c.requires.keeps _ _ _ (record { shown = _; shows = refl; left = _; met = c.work.ensures; leaves = refl }))
