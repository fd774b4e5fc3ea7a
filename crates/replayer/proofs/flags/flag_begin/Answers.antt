use Rattle.std.proofs.Common.{◌∙◌, ap, length, subst, sym}
use Rattle.std.proofs.lemmas.List.{with_items_is}
use Rattle.plain_heap.specs.Flags.{FlagsReached}
use Rattle.replayer.proofs.flags.flag_begin.Goals as goal

pub returns-clause-flags : goal.returns-clause-flags
returns-clause-flags c =
    let long = c.flag_reached.ensures.size ∙ ap length c.deref_mut.ensures.value in
    subst (FlagsReached c.args.heap.now) (sym (with_items_is c.args.flags.now c.flag_reached.new.flags (long ∙ sym c.args.flags.now.ok.0))) c.flag_reached.ensures.flags
