use Rattle.std.proofs.Common.{sym, subst}
use Rattle.block_map.specs.Listed.{AreListed}
use Rattle.block_map.proofs.Unread.{listed_write}
use Rattle.object_space.proofs.space.ObjectSpace.write.Goals as goal

pub invariant_of-self : goal.invariant_of-self
invariant_of-self c =
    let object = rw (← c.self.view_is) at c.requires.object in
    record {
      sound = record { agree = c.self.invariant.sound.agree; used = c.self.invariant.sound.used };
      listed = subst (λ w. AreListed w c.self.inside.table.map) (sym c.write.ensures)
          (listed_write _ _ c.laws.ensures.laid c.args.address c.args.word object.0 (rw (← c.self.view_is) at c.requires.address) object.1 c.self.invariant.listed);
      exact = c.self.invariant.exact;
      awaited = c.self.invariant.awaited;
      pending = record { size = c.self.invariant.pending.size; cut = c.self.invariant.pending.cut };
    }
