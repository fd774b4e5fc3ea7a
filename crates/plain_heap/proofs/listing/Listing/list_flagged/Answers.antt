use Rattle.std.proofs.Common.{[], ◌∷◌, refl}
use Rattle.plain_heap.proofs.InDirectory.{lies_at}
use Rattle.plain_heap.proofs.Lists.{lists_none}
use Rattle.plain_heap.proofs.Aging.{flagged_is, flagged_not, lists_flagged_none, lists_flagged_next}
use Rattle.plain_heap.proofs.listing.Listing.list_flagged.Goals as goal
use Rattle.plain_heap.proofs.listing.Listing.list_flagged.Goals.{then-is_flagged, else-is_flagged}

pub loop-index-init : goal.loop-index-init
loop-index-init c = lists_flagged_none _ _ _ _ c.requires

pub is_flagged-requires : goal.is_flagged-requires
is_flagged-requires c = (lies_at c.args.directory.now _ refl _ _ c.object-base.ensures).start

pub loop-index-preserved : goal.loop-index-preserved
loop-index-preserved c = elim c.if-is_flagged.branch [
  | then-is_flagged w ↦ rw w.self-is (lists_flagged_next _ _ _ _ _ _ c.loop-index.index _ c.object-base.ensures c.loop-index.invariant
      (record { bases = _ ∷ []; are = flagged_is _ _ _ (c.is_flagged.ensures.yes w.if-is_flagged.true); lists = w.list_one.ensures }))
  | else-is_flagged w ↦ rw w.self-is (lists_flagged_next _ _ _ _ _ _ c.loop-index.index _ c.object-base.ensures c.loop-index.invariant
      (record { bases = []; are = flagged_not _ _ _ (c.is_flagged.ensures.no w.if-is_flagged.false); lists = lists_none _ _ c.loop-index.invariant.lists.ready }))
]
