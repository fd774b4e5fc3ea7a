use Rattle.std.proofs.Common.{◌∙◌, ap, length, subst, sym, List, Bool}
use Rattle.std.proofs.lemmas.List.{with_items_is}
use Rattle.plain_heap.specs.Aging.{FlagUnset}
use Rattle.replayer.proofs.flags.renew.Goals as goal

pub returns : goal.returns
returns c =
    let long = c.unflag.ensures.size ∙ ap length c.deref_mut.ensures.value in
    let unset = subst (λ (a : List Bool). FlagUnset c.args.heap.now c.args.base a c.unflag.new.flags) c.deref_mut.ensures.value c.unflag.ensures in
    subst (FlagUnset c.args.heap.now c.args.base c.args.aged.now.items) (sym (with_items_is c.args.aged.now c.unflag.new.flags (long ∙ sym c.args.aged.now.ok.0))) unset
