use Rattle.std.proofs.Common.{◌∙◌, ap, set, true}
use Rattle.words.specs.Layout.{page_of}
use Rattle.marker.specs.Marking.{Marking}
use Rattle.marker.proofs.Mutating.{store_carried}
use Rattle.marker.proofs.marker.Marker.written.Goals as goal

pub returns-clause-carries : goal.returns-clause-carries
returns-clause-carries c found words w t =
    store_carried found words c.args.address w c.args.self.now _
    (record {
      marks = ap (λ (m : Marking). m.marks) c.self.view_is;
      dirty = c.set.ensures ∙ ap (λ n. set c.self.inside.dirty n true) c.page_of.ensures ∙ ap (λ (m : Marking). set m.dirty (page_of c.args.address) true) c.self.view_is;
      carried = ap (λ (m : Marking). m.carried) c.self.view_is;
      current = ap (λ (m : Marking). m.current) c.self.view_is;
      stack = ap (λ (m : Marking). m.stack) c.self.view_is;
    }) c.requires.inside t
