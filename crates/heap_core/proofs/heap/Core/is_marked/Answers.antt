use Rattle.std.proofs.Common.{◌<◌, length, sym, subst}
use Rattle.words.specs.Layout.{granule}
use Rattle.marker.specs.Marking.{IsConsistent}
use Rattle.heap_core.specs.CoreContents.{CoreContents}
use Rattle.heap_core.proofs.Lookups.{markable_at}
use Rattle.heap_core.proofs.heap.Core.is_marked.Goals as goal

pub is_marked-requires-clause-low : goal.is_marked-requires-clause-low
is_marked-requires-clause-low c =
    let consistent = subst (λ (v : CoreContents). IsConsistent v.cycle.marker) c.self.view_is c.laws-2.ensures in
    (markable_at c.args.self.now c.args.base c.in-Some.found c.laws.ensures consistent (sym c.in-Some.ensures.found) c.if-found-base.false).0

pub is_marked-requires-clause-inside : goal.is_marked-requires-clause-inside
is_marked-requires-clause-inside c =
    let consistent = subst (λ (v : CoreContents). IsConsistent v.cycle.marker) c.self.view_is c.laws-2.ensures in
    let has = markable_at c.args.self.now c.args.base c.in-Some.found c.laws.ensures consistent (sym c.in-Some.ensures.found) c.if-found-base.false in
    subst (λ (v : CoreContents). granule c.args.base < length v.cycle.marker.marks) (sym c.self.view_is) has.1
