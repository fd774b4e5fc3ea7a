use Rattle.std.proofs.Common.{◌<◌, length, sym, ap, subst, ◌∙◌}
use Rattle.std.proofs.lemmas.List.{nil_from_length}
use Rattle.mark_bits.proofs.Halves.{some_joined}
use Rattle.mark_bits.proofs.Passing.{joins}
use Rattle.mark_bits.proofs.table.MarkTable.join.Goals as goal

pub join_seat-requires : goal.join_seat-requires
join_seat-requires c =
    let table = c.args.self.now in
    (c.requires.me.table, c.requires.other.table, nil_from_length _ c.args.other.no_slot, table.some, joins table.table.shared.key.marks.value _ _ _ _ _ c.args.me.now.part)

pub invariant_of-me : goal.invariant_of-me
invariant_of-me c =
    let me = c.join_seat.ensures.2 in
    record {
      part = subst (λ m. 0 < m.0.right.0) (sym me) (some_joined c.args.me.now.seat.me.0 c.args.other.seat.me.0 c.args.me.now.part);
      no_slot = ap (λ m. length m.1) me ∙ c.args.me.now.no_slot;
    }
