use Rattle.std.proofs.Common.{sym, subst, arith}
use Rattle.std.specs.Prelude.{All}
use Rattle.std.proofs.lemmas.List.Elements.{All-nil}
use Rattle.plain_heap.specs.Standing.{LiesIn}
use Rattle.plain_heap.proofs.Owning.{own_nothing}
use Rattle.plain_heap.proofs.directory.Directory.new.Goals as goal

pub invariant_of-result : goal.invariant_of-result
invariant_of-result c = record {
  starts = c.requires;
  lie = subst (All (LiesIn c.args.origin c.in_ok-owners.owners.items)) (sym c.in_ok-objects.ensures.items) (All-nil (LiesIn c.args.origin c.in_ok-owners.owners.items));
  owned = own_nothing _ _ _ c.in_ok-objects.ensures.items;
  few = rw c.in_ok-objects.ensures.items (omega arith);
  room = let long = c.in_ok-owners.ensures.len in let room = c.in_ok-objects.ensures.capacity in omega (arith, c.in_ok-owners.owners.ok.0);
}
