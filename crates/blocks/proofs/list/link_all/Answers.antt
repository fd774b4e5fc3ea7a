use Rattle.std.proofs.Common.{◌+◌, ◌-◌, ◌≡◌, true, false, replicate, ap, subst, sym, ◌∙◌, arith}
use Rattle.std.proofs.lemmas.List.{get_or-replicate, length-replicate}
use Rattle.pages.specs.Memory.{IsWordAddress}
use Rattle.blocks.specs.Lists.{link_of, IsLinkedFrom, Lists}
use Rattle.blocks.proofs.Lists.{cell_address, cell_more, first_of_free, free_more, free_none, free_page, linked_all, linked_none}
use Rattle.blocks.proofs.list.link_all.Goals as goal

pub loop-cell-init : goal.loop-cell-init
loop-cell-init c = (
  omega arith,
  linked_none _ (replicate c.args.cells false) c.args.cells (let size = length-replicate c.args.cells false in omega arith),
  free_none _ c.args.page c.args.class (replicate c.args.cells false),
)

pub write-requires : goal.write-requires
write-requires c =
    let few = c.loop-cell.invariant.0 in let some = c.loop-cell-test.true in let size = c.requires.cells in
    subst (IsWordAddress c.loop-cell.memory) (sym c.start_of.ensures)
    (cell_address _ c.args.page c.args.class _ c.requires.class (let has = c.requires.has in let same = c.loop-cell.invariant.2.size in omega arith) (omega (arith, few, some, size)))

pub loop-cell-preserved : goal.loop-cell-preserved
loop-cell-preserved c =
    let h = c.loop-cell.invariant in
    let few = h.0 in let some = c.loop-cell-test.true in
    let e : c.loop-cell.cell ≡ c.loop-cell.cell - 1 + 1 = omega arith in
    let more = cell_more _ _ c.args.page c.args.class (replicate c.args.cells false) (c.loop-cell.cell - 1) c.loop-cell.next _ _ c.requires.class (let has = c.requires.has in let same = h.2.size in omega arith)
    (length-replicate c.args.cells false ∙ c.requires.cells) (get_or-replicate c.args.cells (c.loop-cell.cell - 1) false true (omega arith))
    (subst (λ n. IsLinkedFrom (link_of c.loop-cell.memory c.args.page c.args.class) (replicate c.args.cells false) n c.loop-cell.next) e h.1) c.start_of.ensures c.from.ensures c.write.ensures in
    (omega arith, more.0, free_more _ _ _ c.args.page c.args.class (replicate c.args.cells false) h.2 more.1)

pub returns-clause-lists : goal.returns-clause-lists
returns-clause-lists c =
    let test = c.loop-cell-test.false in
    let e : c.loop-cell.cell ≡ 0 = omega arith in
    let all = subst (λ n. IsLinkedFrom (link_of c.loop-cell.memory c.args.page c.args.class) (replicate c.args.cells false) n c.loop-cell.next) e c.loop-cell.invariant.1 in
    subst (Lists (link_of c.loop-cell.memory c.args.page c.args.class) (replicate c.args.cells false))
    (first_of_free c.args.class c.loop-cell.next (replicate c.args.cells false) c.requires.class (ap (λ n. replicate n false) c.requires.cells) all.lowest)
    (linked_all _ (replicate c.args.cells false) c.loop-cell.next all)

pub returns-clause-page : goal.returns-clause-page
returns-clause-page c = free_page _ _ c.args.page c.args.class (replicate c.args.cells false) c.requires.class (length-replicate c.args.cells false ∙ c.requires.cells) c.loop-cell.invariant.2
