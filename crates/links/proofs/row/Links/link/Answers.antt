use Rattle.links.proofs.Rows.{row_with, room_but}
use Rattle.links.specs.Rows.{IsRow, HasRowRoom, but_at, with_link_at}
use Rattle.std.proofs.Common.{◌≡◌, ◌<◌, ◌++◌, [], ◌∷◌, length, sym, subst, ap, ◌∙◌, arith}
use Rattle.links.proofs.row.Links.link.Goals as goal

pub push-requires : goal.push-requires
push-requires c =
    let e : c.as_slice.result.now ≡ c.self.inside.row.items = c.as_slice.ensures.value ∙ ap (λ r. r.items) c.take-row.ensures.value in
    let is : c.copy_but.new.into.items ≡ but_at c.self.inside.row.items c.args.address = c.copy_but.ensures ∙ ap (λ r. but_at r c.args.address) e in
    (omega arith, subst (λ r. length r < 64) (sym is) (room_but _ _ c.self.invariant (subst (λ r. HasRowRoom r c.args.address) (sym c.self.view_is) c.requires.room)))

pub invariant_of-self : goal.invariant_of-self
invariant_of-self c =
    let e : c.as_slice.result.now ≡ c.self.inside.row.items = c.as_slice.ensures.value ∙ ap (λ r. r.items) c.take-row.ensures.value in
    let is : c.copy_but.new.into.items ≡ but_at c.self.inside.row.items c.args.address = c.copy_but.ensures ∙ ap (λ r. but_at r c.args.address) e in
    subst IsRow (sym (c.push.ensures.items ∙ ap (λ r. r ++ record { address = c.args.address; base = c.args.base } ∷ []) is))
    (row_with _ _ c.args.base c.self.invariant c.requires.aligned (subst (λ r. HasRowRoom r c.args.address) (sym c.self.view_is) c.requires.room))

pub returns : goal.returns
returns c =
    let e : c.as_slice.result.now ≡ c.self.inside.row.items = c.as_slice.ensures.value ∙ ap (λ r. r.items) c.take-row.ensures.value in
    let is : c.copy_but.new.into.items ≡ but_at c.self.inside.row.items c.args.address = c.copy_but.ensures ∙ ap (λ r. but_at r c.args.address) e in
    c.push.ensures.items ∙ ap (λ r. r ++ record { address = c.args.address; base = c.args.base } ∷ []) is ∙ ap (λ r. with_link_at r c.args.address c.args.base) c.self.view_is
