use Rattle.links.proofs.Rows.{row_but}
use Rattle.links.specs.Rows.{IsRow, but_at}
use Rattle.std.proofs.Common.{◌≡◌, sym, subst, ap, ◌∙◌}
use Rattle.links.proofs.row.Links.unlink.Goals as goal

pub invariant_of-self : goal.invariant_of-self
invariant_of-self c =
    let e : c.as_slice.result.now ≡ c.self.inside.row.items = c.as_slice.ensures.value ∙ ap (λ r. r.items) c.take-row.ensures.value in
    subst IsRow (sym c.copy_but.ensures) (subst (λ r. IsRow (but_at r c.args.address)) (sym e) (row_but _ _ c.self.invariant))
