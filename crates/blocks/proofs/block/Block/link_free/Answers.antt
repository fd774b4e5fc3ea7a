use Rattle.std.proofs.Common.{◌≡◌, ◌-◌, ◌+◌, ◌*◌, ◌/◌, ◌∙◌, ap, subst, arith}
use Rattle.words.specs.declared.limits.TheConstants.{GRANULE_WORDS}
use Rattle.blocks.specs.Begins.{first_cell_from}
use Rattle.blocks.specs.Lists.{link_of, IsFirstOrEnd, IsLinkedFrom}
use Rattle.blocks.proofs.Begins.{granules_some}
use Rattle.blocks.proofs.FreeWords.{from_its_own, page_end}
use Rattle.blocks.proofs.Lists.{free_more, free_none, free_page, linked_all, linked_none}
use Rattle.blocks.proofs.block.Block.link_free.Goals as goal

pub loop-j-init : goal.loop-j-init
loop-j-init c =
    let cells = c.class-class.ensures.cells in (
      omega arith,
      linked_none _ c.args.self.now.taken (first_cell_from (c.args.self.now.class / GRANULE_WORDS) 256) (page_end c.args.self.now.class _ cells.class cells.size),
      free_none _ c.args.page c.args.self.now.class c.args.self.now.taken,
    )

pub link_word-first-requires-clause-has : goal.link_word-first-requires-clause-has
link_word-first-requires-clause-has c = let has = c.requires.has in let size = c.loop-j.invariant.2.size in omega arith

pub link_word-first-requires-clause-word : goal.link_word-first-requires-clause-word
link_word-first-requires-clause-word c = let some = c.loop-j-test.true in let few = c.loop-j.invariant.0 in omega arith

pub link_word-first-requires-clause-linked : goal.link_word-first-requires-clause-linked
link_word-first-requires-clause-linked c =
    let some = c.loop-j-test.true in
    let e : 64 * c.loop-j.j ≡ 64 * (c.loop-j.j - 1) + 64 = omega arith in
    subst (λ n. IsLinkedFrom (link_of c.loop-j.memory c.args.page c.args.self.now.class) c.args.self.now.taken (first_cell_from (c.args.self.now.class / GRANULE_WORDS) n) c.loop-j.first) e c.loop-j.invariant.1

pub loop-j-preserved : goal.loop-j-preserved
loop-j-preserved c = (
  let few = c.loop-j.invariant.0 in omega arith,
  c.link_word-first.ensures.linked,
  free_more _ _ _ c.args.page c.args.self.now.class c.args.self.now.taken c.loop-j.invariant.2 c.link_word-first.ensures.changes,
)

pub returns-clause-lists : goal.returns-clause-lists
returns-clause-lists c =
    let test = c.loop-j-test.false in
    let zero : 64 * c.loop-j.j ≡ 0 * (c.args.self.now.class / GRANULE_WORDS) = omega arith in
    let e = ap (first_cell_from (c.args.self.now.class / GRANULE_WORDS)) zero ∙ from_its_own (c.args.self.now.class / GRANULE_WORDS) (granules_some _ c.class-class.ensures.cells.class) 0 in
    linked_all _ c.args.self.now.taken c.loop-j.first (subst (λ n. IsLinkedFrom (link_of c.loop-j.memory c.args.page c.args.self.now.class) c.args.self.now.taken n c.loop-j.first) e c.loop-j.invariant.1)

pub returns-clause-first : goal.returns-clause-first
returns-clause-first c =
    let test = c.loop-j-test.false in
    let zero : 64 * c.loop-j.j ≡ 0 * (c.args.self.now.class / GRANULE_WORDS) = omega arith in
    let e = ap (first_cell_from (c.args.self.now.class / GRANULE_WORDS)) zero ∙ from_its_own (c.args.self.now.class / GRANULE_WORDS) (granules_some _ c.class-class.ensures.cells.class) 0 in
    subst (λ n. IsFirstOrEnd c.args.self.now.taken n c.loop-j.first) e c.loop-j.invariant.1.lowest

pub returns-clause-page : goal.returns-clause-page
returns-clause-page c = free_page _ _ c.args.page c.args.self.now.class c.args.self.now.taken c.class-class.ensures.cells.class c.class-class.ensures.cells.size c.loop-j.invariant.2
