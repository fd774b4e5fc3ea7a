use Rattle.std.proofs.Common.{◌<◌, ◌≤◌, ◌++◌, length, subst, arith}
use Rattle.plain_heap.specs.Aging.{MarksClosure}
use Rattle.plain_heap.proofs.Aging.{DiscoversClosure, closure_reached, discovered_reached}
use Rattle.plain_heap.proofs.InDirectory.{lies_at}
use Rattle.plain_heap.proofs.Lists.{listed_below, lists_more}
use Rattle.plain_heap.proofs.Reaching.{traced_roots, traced_then, traced_else, traced_order, traced_all}
use Rattle.plain_heap.proofs.listing.Listing.list_closure.Goals as goal
use Rattle.plain_heap.proofs.listing.Listing.list_closure.Goals.{then-next-len, else-next-len}

pub loop-next-init : goal.loop-next-init
loop-next-init c =
    let given = c.list_flagged.ensures in
    (given.bases, given.are, traced_roots _ _ _ _ _ c.clear.new.self _ c.clear.ensures.none c.clear.ensures.room (lists_more _ _ _ _ _ _ c.list_all.ensures given.lists))

pub object-object-requires : goal.object-object-requires
object-object-requires c =
    let lt : c.loop-next.next < length c.loop-next.self.order.items = let is = c.len.ensures in let less = c.if-next-len.true in omega (arith, c.loop-next.self.order.ok.0) in
    listed_below _ _ _ _ c.loop-next.invariant.2.ready lt c.index.ensures

pub links-requires : goal.links-requires
links-requires c = lies_at c.args.directory.now _ c.requires.words _ _ c.object-object.ensures

pub loop-next-preserved : goal.loop-next-preserved
loop-next-preserved c = elim c.if-next-len.branch [
  | then-next-len w ↦
      let lt : c.loop-next.next < length c.loop-next.self.order.items = let is = c.len.ensures in let less = w.if-next-len.true in omega (arith, c.loop-next.self.order.ok.0) in (
        c.loop-next.invariant.0,
        c.loop-next.invariant.1,
        traced_then _ (c.args.roots.now ++ c.loop-next.invariant.0) c.args.words.now c.args.directory.now.objects.items c.args.self.now c.loop-next.next w.index.result.now w.object-object.result c.loop-next.self w.list_all-then-next-len.new.self c.if-next-len.self w.self-is lt w.index.ensures
            w.object-object.ensures c.loop-next.invariant.2 (rw w.links.ensures at w.list_all-then-next-len.ensures),
      )
  | else-next-len w ↦
      let past : length c.loop-next.self.order.items ≤ c.loop-next.next = let is = c.len.ensures in let most = w.if-next-len.false in omega (arith, c.loop-next.self.order.ok.0) in
      (c.loop-next.invariant.0, c.loop-next.invariant.1, traced_else _ (c.args.roots.now ++ c.loop-next.invariant.0) c.args.words.now c.args.directory.now.objects.items c.args.self.now c.loop-next.next c.loop-next.self c.if-next-len.self w.self-is past c.loop-next.invariant.2)
]

pub returns-clause-marks : goal.returns-clause-marks
returns-clause-marks c = record {
  bases = c.loop-next.invariant.0;
  are = c.loop-next.invariant.1;
  marks_all = traced_all _ _ _ _ _ _ c.loop-next.self (let n = c.len-next-end.ensures in let past = c.loop-next-test.false in omega arith) c.loop-next.invariant.2;
}

pub returns-clause-reached : goal.returns-clause-reached
returns-clause-reached c none = closure_reached _ _ _ _ _ (subst (λ flags. MarksClosure c.args.directory.now.origin c.args.roots.now c.args.words.now c.args.directory.now.objects.items flags c.loop-next.self.marks.items) none (record {
  bases = c.loop-next.invariant.0;
  are = c.loop-next.invariant.1;
  marks_all = traced_all _ _ _ _ _ _ c.loop-next.self (let n = c.len-next-end.ensures in let past = c.loop-next-test.false in omega arith) c.loop-next.invariant.2;
}))

pub returns-clause-discovered : goal.returns-clause-discovered
returns-clause-discovered c none = discovered_reached _ _ _ _ _ (subst (λ flags. DiscoversClosure c.args.directory.now.origin c.args.roots.now c.args.words.now c.args.directory.now.objects.items flags c.loop-next.self.order.items) none
    (record { bases = c.loop-next.invariant.0; are = c.loop-next.invariant.1; discovered = traced_order _ _ _ _ _ _ _ c.loop-next.invariant.2 }))
