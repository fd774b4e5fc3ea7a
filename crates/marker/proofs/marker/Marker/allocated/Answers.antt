use Rattle.std.proofs.Common.{set, true, ap, ◌∙◌}
use Rattle.words.specs.Layout.{granule}
use Rattle.marker.specs.Marking.{Marking}
use Rattle.marker.proofs.Mutating.{alloc_keeps, alloc_carried}
use Rattle.marker.proofs.marker.Marker.allocated.Goals as goal

pub returns-clause-keeps : goal.returns-clause-keeps
returns-clause-keeps c pages found after words words' f is map object added same zero t =
    alloc_keeps pages found after words words' f c.args.base c.args.self.now _ c.requires.inside
    (record {
      marks = c.set.ensures ∙ ap (λ n. set c.self.inside.marks n true) c.granule_of.ensures ∙ ap (λ (m : Marking). set m.marks (granule c.args.base) true) c.self.view_is;
      dirty = ap (λ (m : Marking). m.dirty) c.self.view_is;
      carried = ap (λ (m : Marking). m.carried) c.self.view_is;
      current = ap (λ (m : Marking). m.current) c.self.view_is;
      stack = ap (λ (m : Marking). m.stack) c.self.view_is;
    })
    is map (ap after is ∙ object) added same zero t

pub returns-clause-carries : goal.returns-clause-carries
returns-clause-carries c pages found after words words' f is map object added same zero t =
    alloc_carried pages found after words words' f c.args.base c.args.self.now _ c.requires.inside
    (record {
      marks = c.set.ensures ∙ ap (λ n. set c.self.inside.marks n true) c.granule_of.ensures ∙ ap (λ (m : Marking). set m.marks (granule c.args.base) true) c.self.view_is;
      dirty = ap (λ (m : Marking). m.dirty) c.self.view_is;
      carried = ap (λ (m : Marking). m.carried) c.self.view_is;
      current = ap (λ (m : Marking). m.current) c.self.view_is;
      stack = ap (λ (m : Marking). m.stack) c.self.view_is;
    })
    is map (ap after is ∙ object) added same zero t
