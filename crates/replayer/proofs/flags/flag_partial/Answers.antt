use Rattle.std.proofs.Common.{◌∙◌, ap, length, subst, sym, List, Bool}
use Rattle.std.proofs.lemmas.List.{with_items_is}
use Rattle.plain_heap.specs.Aging.{FlagsClosure}
use Rattle.replayer.proofs.flags.flag_partial.Goals as goal

pub returns-clause-flags : goal.returns-clause-flags
returns-clause-flags c =
    let long = c.flag_closure.ensures.size ∙ ap length c.deref_mut.ensures.value in
    let closed = subst (λ (a : List Bool). FlagsClosure c.args.heap.now a c.flag_closure.new.flags) c.deref.ensures.value c.flag_closure.ensures.flags in
    subst (FlagsClosure c.args.heap.now c.args.aged.now.items) (sym (with_items_is c.args.flags.now c.flag_closure.new.flags (long ∙ sym c.args.flags.now.ok.0))) closed
