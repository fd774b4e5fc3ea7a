use Rattle.std.proofs.Common.{◌≡◌, ◌<◌, true, length-set, set, refl, sym, ap, ◌∙◌, subst, arith}
use Rattle.pages.specs.Memory.{IsWordAddress, word_at}
use Rattle.blocks.specs.Begins.{begun}
use Rattle.blocks.specs.Lists.{link_of}
use Rattle.blocks.proofs.Begins.{begins_set, begun_few, begun_set, in_page, same_cells}
use Rattle.blocks.proofs.Lists.{cell_address, first_free, full_at_end, listed_apart, next_listed, next_small}
use Rattle.blocks.proofs.block.Block.take.Goals as goal

pub returns-then-cell-clause-none : goal.returns-then-cell-clause-none
returns-then-cell-clause-none c = (
  rw (← c.self.view_is)
      (full_at_end _ _ _ (begun_few c.self.inside.granules c.self.inside.class c.self.invariant.0) (rw (← c.self.view_is) at c.requires.listed) c.if-cell.true),
  refl,
)

pub read-requires : goal.read-requires
read-requires c =
    let free = first_free _ (begun c.self.inside.granules c.self.inside.class) c.self.inside.first (rw (← c.self.view_is) at c.requires.listed) c.if-cell.false in
    subst (IsWordAddress c.args.memory.now) (sym c.start_of.ensures)
    (cell_address _ c.args.page c.self.inside.class c.self.inside.first c.self.invariant.0 c.requires.has (in_page c.self.inside.granules _ c.self.inside.class c.self.inside.first refl free.inside))

pub overflow_cast-self : goal.overflow_cast-self
overflow_cast-self c =
    let small : link_of c.args.memory.now c.args.page c.self.inside.class c.self.inside.first < 65536 = next_small _ _ _ (begun_few c.self.inside.granules c.self.inside.class c.self.invariant.0) (rw (← c.self.view_is) at c.requires.listed) c.if-cell.false in
    let is : c.read.result ≡ link_of c.args.memory.now c.args.page c.self.inside.class c.self.inside.first = c.read.ensures ∙ ap (word_at c.args.memory.now) c.start_of.ensures in
    omega (arith, small, is)

pub granule_at-requires-clause-cell : goal.granule_at-requires-clause-cell
granule_at-requires-clause-cell c =
    let free = first_free _ (begun c.self.inside.granules c.self.inside.class) c.self.inside.first (rw (← c.self.view_is) at c.requires.listed) c.if-cell.false in
    in_page c.self.inside.granules _ c.self.inside.class c.self.inside.first refl free.inside

pub invariant_of-self : goal.invariant_of-self
invariant_of-self c =
    let free = first_free _ (begun c.self.inside.granules c.self.inside.class) c.self.inside.first (rw (← c.self.view_is) at c.requires.listed) c.if-cell.false in
    let lt = in_page c.self.inside.granules _ c.self.inside.class c.self.inside.first refl free.inside in
    (c.self.invariant.0, rw (c.set.ensures, c.granule_at.ensures.at) (begins_set c.self.inside.granules c.self.inside.class c.self.invariant.0 c.self.invariant.1 c.self.inside.first true lt), c.self.invariant.2)

pub returns-clause-free : goal.returns-clause-free
returns-clause-free c = rw (← c.self.view_is) (first_free _ (begun c.self.inside.granules c.self.inside.class) c.self.inside.first (rw (← c.self.view_is) at c.requires.listed) c.if-cell.false)

pub returns-clause-block : goal.returns-clause-block
returns-clause-block c =
    let free = first_free _ (begun c.self.inside.granules c.self.inside.class) c.self.inside.first (rw (← c.self.view_is) at c.requires.listed) c.if-cell.false in
    let lt = in_page c.self.inside.granules _ c.self.inside.class c.self.inside.first refl free.inside in
    let taken : begun c.set.new.self c.self.inside.class ≡ set (begun c.self.inside.granules c.self.inside.class) c.self.inside.first true =
    rw (c.set.ensures, c.granule_at.ensures.at) (begun_set c.self.inside.granules c.self.inside.class c.self.invariant.0 c.self.invariant.1 c.self.inside.first true lt) in
    let is : c.read.result ≡ link_of c.args.memory.now c.args.page c.self.inside.class c.self.inside.first = c.read.ensures ∙ ap (word_at c.args.memory.now) c.start_of.ensures in
    rw (← c.self.view_is) (same_cells c.self.inside.class c.self.inside.kind _ _ _ _ taken is)

pub returns-clause-listed : goal.returns-clause-listed
returns-clause-listed c =
    let free = first_free _ (begun c.self.inside.granules c.self.inside.class) c.self.inside.first (rw (← c.self.view_is) at c.requires.listed) c.if-cell.false in
    let lt = in_page c.self.inside.granules _ c.self.inside.class c.self.inside.first refl free.inside in
    let taken : begun c.set.new.self c.self.inside.class ≡ set (begun c.self.inside.granules c.self.inside.class) c.self.inside.first true =
    rw (c.set.ensures, c.granule_at.ensures.at) (begun_set c.self.inside.granules c.self.inside.class c.self.invariant.0 c.self.invariant.1 c.self.inside.first true lt) in
    let is : c.read.result ≡ link_of c.args.memory.now c.args.page c.self.inside.class c.self.inside.first = c.read.ensures ∙ ap (word_at c.args.memory.now) c.start_of.ensures in
    rw (taken, is) (next_listed _ _ _ (rw (← c.self.view_is) at c.requires.listed) c.if-cell.false)

pub returns-clause-linked : goal.returns-clause-linked
returns-clause-linked c e =
    let few = begun_few c.self.inside.granules c.self.inside.class c.self.invariant.0 in
    let more = next_listed _ _ _ (rw (← c.self.view_is) at c.requires.listed) c.if-cell.false in
    let is : c.read.result ≡ link_of c.args.memory.now c.args.page c.self.inside.class c.self.inside.first = c.read.ensures ∙ ap (word_at c.args.memory.now) c.start_of.ensures in
    listed_apart _ _ _ (let size = length-set (begun c.self.inside.granules c.self.inside.class) c.self.inside.first true in omega (arith, size, few)) more (sym is ∙ e)
