use Rattle.std.proofs.Common.{◌≡◌, false, set, sym, ap, ◌∙◌, subst, inr, List, ℕ}
use Rattle.pages.specs.Memory.{with_word_at, IsWordAddress}
use Rattle.blocks.specs.Begins.{begun}
use Rattle.blocks.specs.Cells.{Cells}
use Rattle.blocks.specs.Lists.{ChangesPage}
use Rattle.blocks.proofs.Begins.{begun_set, in_page, length-begun, same_cells}
use Rattle.blocks.proofs.Lists.{cell_address, first_kept, first_put, link_changes, listed_if, put_listed}
use Rattle.blocks.proofs.block.Block.put.Goals as goal

pub write-requires : goal.write-requires
write-requires c =
    let lt = in_page c.self.inside.granules _ c.self.inside.class c.args.cell (ap (λ (x : Cells). x.taken) c.self.view_is) c.requires.taken.inside in
    subst (IsWordAddress c.args.memory.now) (sym c.start_of.ensures) (cell_address _ c.args.page c.self.inside.class c.args.cell c.self.invariant.0 c.requires.has lt)

pub returns-then-self-clause-block : goal.returns-then-self-clause-block
returns-then-self-clause-block c =
    let lt = in_page c.self.inside.granules _ c.self.inside.class c.args.cell (ap (λ (x : Cells). x.taken) c.self.view_is) c.requires.taken.inside in
    let taken : begun c.clear.new.self c.self.inside.class ≡ set (begun c.self.inside.granules c.self.inside.class) c.args.cell false =
    rw (c.clear.ensures, c.granule_at.ensures.at) (begun_set c.self.inside.granules c.self.inside.class c.self.invariant.0 c.self.invariant.1 c.args.cell false lt) in
    rw (← c.self.view_is) (same_cells c.self.inside.class c.self.inside.kind _ _ _ _ taken (first_put c.self.inside.first c.args.cell c.if-self.true))

pub returns-else-self-clause-block : goal.returns-else-self-clause-block
returns-else-self-clause-block c =
    let lt = in_page c.self.inside.granules _ c.self.inside.class c.args.cell (ap (λ (x : Cells). x.taken) c.self.view_is) c.requires.taken.inside in
    let taken : begun c.clear.new.self c.self.inside.class ≡ set (begun c.self.inside.granules c.self.inside.class) c.args.cell false =
    rw (c.clear.ensures, c.granule_at.ensures.at) (begun_set c.self.inside.granules c.self.inside.class c.self.invariant.0 c.self.invariant.1 c.args.cell false lt) in
    rw (← c.self.view_is) (same_cells c.self.inside.class c.self.inside.kind _ _ _ _ taken (first_kept c.self.inside.first c.args.cell c.if-self.false))

pub returns-then-self-clause-listed : goal.returns-then-self-clause-listed
returns-then-self-clause-listed c =
    let lt = in_page c.self.inside.granules _ c.self.inside.class c.args.cell (ap (λ (x : Cells). x.taken) c.self.view_is) c.requires.taken.inside in
    let taken : begun c.clear.new.self c.self.inside.class ≡ set (begun c.self.inside.granules c.self.inside.class) c.args.cell false =
    rw (c.clear.ensures, c.granule_at.ensures.at) (begun_set c.self.inside.granules c.self.inside.class c.self.invariant.0 c.self.invariant.1 c.args.cell false lt) in
    inr (put_listed _ _ c.args.page c.self.inside.class _ _ c.self.inside.first c.args.cell _ _ c.self.invariant.0 c.requires.has (length-begun c.self.inside.granules c.self.inside.class) (rw (← c.self.view_is) at c.requires.taken)
    (listed_if _ c.if-self.true (rw (← c.self.view_is) at c.requires.listed)) c.start_of.ensures c.from.ensures c.write.ensures taken)

pub returns-then-self-clause-changes : goal.returns-then-self-clause-changes
returns-then-self-clause-changes c =
    let lt = in_page c.self.inside.granules _ c.self.inside.class c.args.cell (ap (λ (x : Cells). x.taken) c.self.view_is) c.requires.taken.inside in
    let written = c.write.ensures ∙ ap (λ a. with_word_at c.args.memory.now a c.from.result) c.start_of.ensures in
    subst (λ (words : List ℕ). ChangesPage c.args.memory.now words c.args.page) (sym written) (link_changes _ c.args.page c.self.inside.class c.args.cell _ c.self.invariant.0 lt)

pub returns-else-self-clause-changes : goal.returns-else-self-clause-changes
returns-else-self-clause-changes c =
    let lt = in_page c.self.inside.granules _ c.self.inside.class c.args.cell (ap (λ (x : Cells). x.taken) c.self.view_is) c.requires.taken.inside in
    let written = c.write.ensures ∙ ap (λ a. with_word_at c.args.memory.now a c.from.result) c.start_of.ensures in
    subst (λ (words : List ℕ). ChangesPage c.args.memory.now words c.args.page) (sym written) (link_changes _ c.args.page c.self.inside.class c.args.cell _ c.self.invariant.0 lt)
