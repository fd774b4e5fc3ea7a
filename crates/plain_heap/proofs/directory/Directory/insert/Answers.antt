use Rattle.std.proofs.Common.{◌∙◌, length, sym, ap, arith}
use Rattle.std.proofs.lemmas.List.{length_push, with_items_is}
use Rattle.std.proofs.lemmas.List.Elements.{All-push}
use Rattle.plain_heap.specs.Standing.{LiesIn}
use Rattle.plain_heap.proofs.InDirectory.{apart_of, apart_pushed}
use Rattle.plain_heap.proofs.Leaving.{lie_same}
use Rattle.plain_heap.proofs.Owning.{owners_as, own_pushed}
use Rattle.plain_heap.proofs.directory.Directory.insert.Goals as goal

pub write_owner-requires-clause-apart : goal.write_owner-requires-clause-apart
write_owner-requires-clause-apart c = rw (c.deref.ensures.value, c.push_reserved.ensures.items) (apart_pushed _ (apart_of c.args.self.now) c.args.object c.requires.fresh)

pub write_owner-requires-clause-within : goal.write_owner-requires-clause-within
write_owner-requires-clause-within c = rw (c.deref.ensures.value, c.deref_mut.ensures.value, c.push_reserved.ensures.items) (All-push (LiesIn c.args.self.now.origin c.args.self.now.owners.items) _ c.args.object c.args.self.now.lie c.requires.inside)

pub write_owner-requires-clause-others : goal.write_owner-requires-clause-others
write_owner-requires-clause-others c = rw (c.deref.ensures.value, c.deref_mut.ensures.value, c.push_reserved.ensures.items, c.len-index.ensures) (own_pushed _ _ c.args.object _ c.args.self.now.owned)

pub invariant_of-self : goal.invariant_of-self
invariant_of-self c =
    let filed = c.write_owner.auto.owners ∙ ap length c.deref_mut.ensures.value in
    let is = with_items_is c.args.self.now.owners c.write_owner.new.owners (filed ∙ sym c.args.self.now.owners.ok.0) in
    record {
      starts = c.args.self.now.starts;
      lie = lie_same _ c.args.self.now.owners.items _ _ (ap length is ∙ filed)
          (rw c.push_reserved.ensures.items (All-push (LiesIn c.args.self.now.origin c.args.self.now.owners.items) _ c.args.object c.args.self.now.lie c.requires.inside));
      owned = owners_as _ _ _ _ _ c.deref.ensures.value (sym is) c.write_owner.ensures;
      few = let long = ap length c.push_reserved.ensures.items ∙ length_push _ _ in let size = ap length is ∙ filed in let less = c.requires.room in omega arith;
      room = let size = ap length is ∙ filed in let room = c.args.self.now.room in let more = c.push_reserved.ensures.capacity in omega arith;
    }
