use Rattle.std.proofs.Common.{set, false, ap, ◌∙◌}
use Rattle.words.specs.Layout.{granule}
use Rattle.marker.specs.Marking.{Marking}
use Rattle.marker.proofs.Mutating.{freed_keeps}
use Rattle.marker.proofs.marker.Marker.freed.Goals as goal

pub returns-clause-keeps : goal.returns-clause-keeps
returns-clause-keeps c pages found after words words' f is map object removed same t =
    freed_keeps pages found after words words' f c.args.base c.args.self.now _
    (record {
      marks = c.clear.ensures ∙ ap (λ n. set c.self.inside.marks n false) c.granule_of.ensures ∙ ap (λ (m : Marking). set m.marks (granule c.args.base) false) c.self.view_is;
      dirty = ap (λ (m : Marking). m.dirty) c.self.view_is;
      carried = ap (λ (m : Marking). m.carried) c.self.view_is;
      current = ap (λ (m : Marking). m.current) c.self.view_is;
      stack = ap (λ (m : Marking). m.stack) c.self.view_is;
    })
    is map (ap found is ∙ object) removed same t
