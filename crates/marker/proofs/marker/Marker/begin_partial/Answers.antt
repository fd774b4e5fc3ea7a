use Rattle.std.proofs.Common.{length, refl}
use Rattle.marker.proofs.Mutating.{partial_traced, partial_carried}
use Rattle.marker.proofs.marker.Marker.begin_partial.Goals as goal

pub returns-clause-invariant : goal.returns-clause-invariant
returns-clause-invariant c found words map t =
    partial_traced (length c.args.self.now.dirty) found words c.args.self.now _ map refl
    (rw (← c.self.view_is) (record { marks = refl; dirty_len = c.add.ensures.size; each = c.add.ensures.each; dirty = c.add.ensures.old; carried = c.add.ensures.more; none = c.clear_all.ensures; current = refl; stack = refl })) t

pub returns-clause-carried : goal.returns-clause-carried
returns-clause-carried c found words t =
    partial_carried found words c.args.self.now _
    (rw (← c.self.view_is) (record { marks = refl; dirty_len = c.add.ensures.size; each = c.add.ensures.each; dirty = c.add.ensures.old; carried = c.add.ensures.more; none = c.clear_all.ensures; current = refl; stack = refl })) t
