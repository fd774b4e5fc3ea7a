use Rattle.std.proofs.Common.{◌∙◌, length, sym, ap, arith}
use Rattle.std.proofs.lemmas.List.{with_items_is}
use Rattle.plain_heap.specs.Standing.{LiesIn}
use Rattle.plain_heap.proofs.InDirectory.{apart_of, all_parted, fewer_parted}
use Rattle.plain_heap.proofs.Leaving.{lie_same}
use Rattle.plain_heap.proofs.Owning.{owners_as}
use Rattle.plain_heap.proofs.directory.Directory.keep_flagged.Goals as goal

pub write_owners-requires-clause-apart : goal.write_owners-requires-clause-apart
write_owners-requires-clause-apart c = rw c.deref.ensures.value (c.keep_flagged-gone.ensures.apart (apart_of c.args.self.now))

pub write_owners-requires-clause-within : goal.write_owners-requires-clause-within
write_owners-requires-clause-within c =
    rw (c.deref.ensures.value, c.deref_mut.ensures.value) (all_parted _ _ _ _ c.keep_flagged-gone.ensures.parts (LiesIn c.args.self.now.origin c.args.self.now.owners.items) c.args.self.now.lie)

pub invariant_of-self : goal.invariant_of-self
invariant_of-self c =
    let filed = c.write_owners.auto.owners ∙ ap length c.deref_mut.ensures.value in
    let is = with_items_is c.args.self.now.owners c.write_owners.new.owners (filed ∙ sym c.args.self.now.owners.ok.0) in
    let size = ap length is ∙ filed in
    record {
      starts = c.args.self.now.starts;
      lie = lie_same _ c.args.self.now.owners.items _ _ size (all_parted _ _ _ _ c.keep_flagged-gone.ensures.parts (LiesIn c.args.self.now.origin c.args.self.now.owners.items) c.args.self.now.lie);
      owned = owners_as _ _ _ _ _ c.deref.ensures.value (sym is) c.write_owners.ensures;
      few = let fewer = fewer_parted _ _ _ _ c.keep_flagged-gone.ensures.parts in let few = c.args.self.now.few in omega arith;
      room = let room = c.args.self.now.room in let same = c.keep_flagged-gone.ensures.capacity in omega arith;
    }
