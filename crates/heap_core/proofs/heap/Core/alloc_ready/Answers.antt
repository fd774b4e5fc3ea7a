use Rattle.std.proofs.Common.{◌<◌, sym, ap, ◌∙◌, subst, arith}
use Rattle.object_space.specs.Store.{Store}
use Rattle.heap_core.specs.CoreContents.{Cycle}
use Rattle.heap_core.specs.Many.{begun}
use Rattle.heap_core.proofs.Many.{leads_none, leads_set, register_there}
use Rattle.heap_core.proofs.heap.Core.alloc_ready.Goals as goal

pub returns-in_default-clause-grants : goal.returns-in_default-clause-grants
returns-in_default-clause-grants c = begun

pub returns-in_default-placement-clause-grants : goal.returns-in_default-placement-clause-grants
returns-in_default-placement-clause-grants c = begun

pub returns-then-self-clause-grants : goal.returns-then-self-clause-grants
returns-then-self-clause-grants c = begun

pub invariant_of-self : goal.invariant_of-self
invariant_of-self c =
    let y : Cycle = record { marker = c.self.inside.marker; is_marking = c.self.inside.is_marking; needs_full = c.self.inside.needs_full; count = c.self.inside.count; reads = c.self.inside.reads } in
    (leads_set c.self.inside.roots y c.self.inside.links c.args.slot c.args.request.now.into c.args.request.now.words c.args.request.now.kind c.in-Some.placement c.in-Ok.field-0.now c.in-Ok.ensures.ok (sym c.placement.ensures.placement ∙ c.in-Some.is) c.if-self.false
    (register_there c.self.inside.roots c.self.inside.objects y c.self.inside.links c.args.slot c.args.request.now.into c.in-Ok.field-0.now c.self.invariant c.in-Ok.ensures.ok (subst (λ n. n < 16) c.index-index.ensures.value c.index-index.ensures.range))
    c.self.inside.objects c.allocate_many-count.new.self c.self.invariant c.allocate_many-count.new.bases c.allocate_many-count.result c.allocate_many-count.ensures.few (c.allocate_many-count.ensures.allocates y.marker.marks)
    c.set_word.new.self c.if-count-gt0.true c.set_word.ensures).1

pub invariant_of-self-else-count-gt0 : goal.invariant_of-self-else-count-gt0
invariant_of-self-else-count-gt0 c =
    let y : Cycle = record { marker = c.self.inside.marker; is_marking = c.self.inside.is_marking; needs_full = c.self.inside.needs_full; count = c.self.inside.count; reads = c.self.inside.reads } in
    (leads_none c.self.inside.roots y c.self.inside.links c.args.slot c.args.request.now.into c.args.request.now.words c.args.request.now.kind c.in-Some.placement c.in-Ok.field-0.now c.in-Ok.ensures.ok (sym c.placement.ensures.placement ∙ c.in-Some.is) c.if-self.false
    (register_there c.self.inside.roots c.self.inside.objects y c.self.inside.links c.args.slot c.args.request.now.into c.in-Ok.field-0.now c.self.invariant c.in-Ok.ensures.ok (subst (λ n. n < 16) c.index-index.ensures.value c.index-index.ensures.range))
    c.self.inside.objects c.allocate_many-count.new.self c.self.invariant c.allocate_many-count.new.bases c.allocate_many-count.result c.allocate_many-count.ensures.few (c.allocate_many-count.ensures.allocates y.marker.marks)
    (let low = c.if-count-gt0.false in omega arith)).1

pub returns-then-count-gt0-clause-grants : goal.returns-then-count-gt0-clause-grants
returns-then-count-gt0-clause-grants c =
    let y : Cycle = record { marker = c.self.inside.marker; is_marking = c.self.inside.is_marking; needs_full = c.self.inside.needs_full; count = c.self.inside.count; reads = c.self.inside.reads } in
    rw (← c.self.view_is) (leads_set c.self.inside.roots y c.self.inside.links c.args.slot c.args.request.now.into c.args.request.now.words c.args.request.now.kind c.in-Some.placement c.in-Ok.field-0.now c.in-Ok.ensures.ok (sym c.placement.ensures.placement ∙ c.in-Some.is) c.if-self.false
    (register_there c.self.inside.roots c.self.inside.objects y c.self.inside.links c.args.slot c.args.request.now.into c.in-Ok.field-0.now c.self.invariant c.in-Ok.ensures.ok (subst (λ n. n < 16) c.index-index.ensures.value c.index-index.ensures.range))
    c.self.inside.objects c.allocate_many-count.new.self c.self.invariant c.allocate_many-count.new.bases c.allocate_many-count.result c.allocate_many-count.ensures.few (c.allocate_many-count.ensures.allocates y.marker.marks)
    c.set_word.new.self c.if-count-gt0.true c.set_word.ensures).0

pub returns-else-count-gt0-clause-grants : goal.returns-else-count-gt0-clause-grants
returns-else-count-gt0-clause-grants c =
    let y : Cycle = record { marker = c.self.inside.marker; is_marking = c.self.inside.is_marking; needs_full = c.self.inside.needs_full; count = c.self.inside.count; reads = c.self.inside.reads } in
    rw (← c.self.view_is) (leads_none c.self.inside.roots y c.self.inside.links c.args.slot c.args.request.now.into c.args.request.now.words c.args.request.now.kind c.in-Some.placement c.in-Ok.field-0.now c.in-Ok.ensures.ok (sym c.placement.ensures.placement ∙ c.in-Some.is) c.if-self.false
    (register_there c.self.inside.roots c.self.inside.objects y c.self.inside.links c.args.slot c.args.request.now.into c.in-Ok.field-0.now c.self.invariant c.in-Ok.ensures.ok (subst (λ n. n < 16) c.index-index.ensures.value c.index-index.ensures.range))
    c.self.inside.objects c.allocate_many-count.new.self c.self.invariant c.allocate_many-count.new.bases c.allocate_many-count.result c.allocate_many-count.ensures.few (c.allocate_many-count.ensures.allocates y.marker.marks)
    (let low = c.if-count-gt0.false in omega arith)).0

pub returns-else-count-gt0-clause-same : goal.returns-else-count-gt0-clause-same
returns-else-count-gt0-clause-same c _ =
    let y : Cycle = record { marker = c.self.inside.marker; is_marking = c.self.inside.is_marking; needs_full = c.self.inside.needs_full; count = c.self.inside.count; reads = c.self.inside.reads } in
    rw (← c.self.view_is) (ap (λ (t : Store). record { roots = c.self.inside.roots; store = t; cycle = y; links = c.self.inside.links }) (leads_none c.self.inside.roots y c.self.inside.links c.args.slot c.args.request.now.into c.args.request.now.words c.args.request.now.kind c.in-Some.placement c.in-Ok.field-0.now c.in-Ok.ensures.ok (sym c.placement.ensures.placement ∙ c.in-Some.is) c.if-self.false
    (register_there c.self.inside.roots c.self.inside.objects y c.self.inside.links c.args.slot c.args.request.now.into c.in-Ok.field-0.now c.self.invariant c.in-Ok.ensures.ok (subst (λ n. n < 16) c.index-index.ensures.value c.index-index.ensures.range))
    c.self.inside.objects c.allocate_many-count.new.self c.self.invariant c.allocate_many-count.new.bases c.allocate_many-count.result c.allocate_many-count.ensures.few (c.allocate_many-count.ensures.allocates y.marker.marks)
    (let low = c.if-count-gt0.false in omega arith)).2)
