use Rattle.std.proofs.Common.{sym, ap, ◌∙◌}
use Rattle.std.proofs.lemmas.Option.{same_Some}
use Rattle.plain_heap.specs.declared.extent.Extent.{Extent}
use Rattle.plain_heap.proofs.Owning.{no_base, other_base}
use Rattle.plain_heap.proofs.directory.Directory.index_of.Goals as goal

pub returns-in_err-index-clause-none : goal.returns-in_err-index-clause-none
returns-in_err-index-clause-none c = rw c.from_residual.ensures (no_base _ _ _ c.args.self.now.owned _ c.in_err-index.ensures.none)

pub returns-then-object-base-clause-none : goal.returns-then-object-base-clause-none
returns-then-object-base-clause-none c =
    let here = c.in_ok-index.ensures.some in other_base _ _ _ c.args.self.now.owned _ c.in_ok-index.index here.0 here.1 here.2
    (λ is. c.if-object-base.true (ap (λ (x : Extent). x.base) (same_Some _ _ (sym c.object.ensures ∙ here.1)) ∙ is))
