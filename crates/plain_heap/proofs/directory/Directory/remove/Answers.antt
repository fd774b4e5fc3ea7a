use Rattle.std.proofs.Common.{◌∙◌, length, sym, ap, arith}
use Rattle.std.proofs.lemmas.List.{with_items_is}
use Rattle.plain_heap.specs.Standing.{LiesIn}
use Rattle.plain_heap.proofs.InDirectory.{apart_of, apart_removed, all_removed}
use Rattle.plain_heap.proofs.Leaving.{lie_same}
use Rattle.plain_heap.proofs.Owning.{owners_as, own_removed}
use Rattle.plain_heap.proofs.directory.Directory.remove.Goals as goal

pub write_owner-requires-clause-apart : goal.write_owner-requires-clause-apart
write_owner-requires-clause-apart c = rw (c.deref.ensures.value, c.swap_remove-object.ensures.items) (apart_removed _ (apart_of c.args.self.now) c.args.index _ c.requires)

pub write_owner-requires-clause-within : goal.write_owner-requires-clause-within
write_owner-requires-clause-within c =
    rw (c.deref.ensures.value, c.deref_mut.ensures.value, c.swap_remove-object.ensures.items) (all_removed _ (apart_of c.args.self.now) c.args.index _ c.requires (LiesIn c.args.self.now.origin c.args.self.now.owners.items) c.args.self.now.lie)

pub write_owner-requires-clause-others : goal.write_owner-requires-clause-others
write_owner-requires-clause-others c = rw (c.deref.ensures.value, c.deref_mut.ensures.value, c.swap_remove-object.ensures.items) (own_removed _ _ _ _ _ c.args.self.now.owned)

pub invariant_of-self : goal.invariant_of-self
invariant_of-self c =
    let filed = c.write_owner.auto.owners ∙ ap length c.deref_mut.ensures.value in
    let is = with_items_is c.args.self.now.owners c.write_owner.new.owners (filed ∙ sym c.args.self.now.owners.ok.0) in
    let size = ap length is ∙ filed in
    record {
      starts = c.args.self.now.starts;
      lie = lie_same _ c.args.self.now.owners.items _ _ size
          (rw c.swap_remove-object.ensures.items (all_removed _ (apart_of c.args.self.now) c.args.index _ c.requires (LiesIn c.args.self.now.origin c.args.self.now.owners.items) c.args.self.now.lie));
      owned = owners_as _ _ _ _ _ c.deref.ensures.value (sym is) c.write_owner.ensures;
      few = let fewer = c.swap_remove-object.ensures.len in let few = c.args.self.now.few in omega (arith, c.swap_remove-object.new.self.ok.0, c.args.self.now.objects.ok.0);
      room = let room = c.args.self.now.room in let same = c.swap_remove-object.ensures.capacity in omega arith;
    }
