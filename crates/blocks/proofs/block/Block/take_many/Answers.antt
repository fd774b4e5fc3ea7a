use Rattle.std.proofs.Common.{◌/◌, refl, sym, subst, ap, ◌∙◌, length-set, arith}
use Rattle.words.specs.declared.limits.TheConstants.{PAGE_WORDS}
use Rattle.words.specs.Classes.{IsSizeClass}
use Rattle.blocks.specs.Cells.{Cells}
use Rattle.blocks.specs.Lists.{Pops}
use Rattle.blocks.proofs.Lists.{listed_not_none, pops_size, pops_written}
use Rattle.blocks.proofs.block.Block.take_many.Goals as goal

pub loop-index-init : goal.loop-index-init
loop-index-init c = record { class = refl; kind = refl; size = refl; pops = Pops.done; listed = c.requires.listed }

pub loop-index-preserved : goal.loop-index-preserved
loop-index-preserved c =
    let i = c.loop-index.invariant in
    let test = c.loop-index-test.true in
    let is = c.in-Some.ensures.block in
    let inside = i.size in
    record {
      class = ap (λ (x : Cells). x.class) is ∙ i.class;
      kind = ap (λ (x : Cells). x.kind) is ∙ i.kind;
      size = length-set c.loop-index.cells c.loop-index.index c.in-Some.cell ∙ i.size;
      pops = rw (is, i.class)
          (pops_written _ c.args.self.now.taken c.loop-index.self.taken c.args.self.now.first c.loop-index.self.first c.loop-index.index c.in-Some.cell c.loop-index.cells (omega arith) i.pops c.in-Some.ensures.first c.in-Some.ensures.free);
      listed = c.take.ensures.listed;
    }

pub returns-clause-linked : goal.returns-clause-linked
returns-clause-linked c =
    let i = c.loop-index.invariant in
    listed_not_none _ c.args.page c.loop-index.self (record { class = subst IsSizeClass (sym i.class) c.class-class.ensures.cells.class; size = pops_size i.pops ∙ c.class-class.ensures.cells.size ∙ ap (λ n. PAGE_WORDS / n) (sym i.class) }) i.listed
