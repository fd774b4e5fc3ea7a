use Rattle.std.proofs.Common.{sym, ap, ◌∙◌, length, length-set}
use Rattle.marker.proofs.Keeping.{page_kept}
use Rattle.marker.proofs.Mutating.{same_less}
use Rattle.test_marking.proofs.Marked.{recut}
use Rattle.test_marking.proofs.heap.Heap.cut.Goals as goal

pub invariant_of-self : goal.invariant_of-self
invariant_of-self c =
    recut c.self.inside.map c.cut.new.self c.self.inside.memory c.cut.new.memory c.self.inside.marker (ap length c.cut.ensures.states ∙ length-set c.self.inside.map c.args.page _) (λ w. c.cut.ensures.same.same w) (same_less _ _ c.cut.ensures.same)
    (λ f i e lt. page_kept (length c.self.inside.map) c.self.inside.map c.self.inside.memory c.cut.new.memory c.args.page c.len.ensures.lawful.map c.if-not-is_free.ensures c.cut.ensures.memory f i (sym (c.cut.ensures.same.same f.base) ∙ e) lt)
    c.cut.ensures.listed c.self.invariant
