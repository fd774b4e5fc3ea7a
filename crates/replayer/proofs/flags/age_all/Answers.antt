use Rattle.std.proofs.Common.{◌∙◌, ap, length, subst, sym}
use Rattle.std.proofs.lemmas.List.{with_items_is}
use Rattle.plain_heap.specs.Aging.{FlagsAll}
use Rattle.replayer.proofs.flags.age_all.Goals as goal

pub returns-clause-flags : goal.returns-clause-flags
returns-clause-flags c =
    let long = c.flag_all.ensures.size ∙ ap length c.deref_mut.ensures.value in
    subst (FlagsAll c.args.heap.now) (sym (with_items_is c.args.aged.now c.flag_all.new.flags (long ∙ sym c.args.aged.now.ok.0))) c.flag_all.ensures.flags
