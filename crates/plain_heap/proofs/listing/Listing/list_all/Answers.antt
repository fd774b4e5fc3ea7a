use Rattle.std.proofs.Common.{subst}
use Rattle.std.proofs.lemmas.List.{take_all}
use Rattle.plain_heap.specs.Listing.{ListsAll}
use Rattle.plain_heap.proofs.Lists.{lists_none, lists_take}
use Rattle.plain_heap.proofs.listing.Listing.list_all.Goals as goal

pub loop-word-init : goal.loop-word-init
loop-word-init c = lists_none _ _ c.requires

pub loop-word-preserved : goal.loop-word-preserved
loop-word-preserved c = lists_take _ _ _ _ _ _ _ c.loop-word-test.true c.loop-word.invariant c.list_one.ensures

pub returns : goal.returns
returns c = subst (λ ws. ListsAll c.args.directory.now.objects.items ws c.args.self.now c.loop-word.self) (take_all _ _ c.loop-word-test.false) c.loop-word.invariant
