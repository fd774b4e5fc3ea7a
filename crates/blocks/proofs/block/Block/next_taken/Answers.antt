use Rattle.std.proofs.Common.{◌*◌, ◌/◌, ◌≡◌, ap, sym, ◌∙◌, subst, refl}
use Rattle.words.specs.declared.limits.TheConstants.{GRANULE_WORDS}
use Rattle.words.specs.Bits.{IsEmptyFrom, IsFirstFrom}
use Rattle.blocks.specs.Cells.{Cells}
use Rattle.blocks.proofs.Begins.{begun_first, begun_none}
use Rattle.blocks.proofs.block.Block.next_taken.Goals as goal

pub returns-in_default : goal.returns-in_default
returns-in_default c =
    let low : c.from.result * c.from-2.result ≡ c.args.from * (c.self.inside.class / GRANULE_WORDS) = rw (c.from.ensures, c.from-2.ensures, c.words.ensures.value) refl in
    rw (← c.self.view_is) (begun_none c.self.inside.granules c.self.inside.class c.self.invariant.0 c.self.invariant.1 c.args.from (subst (IsEmptyFrom c.self.inside.granules) low c.in_default.ensures))

pub returns : goal.returns
returns c =
    let low : c.from.result * c.from-2.result ≡ c.args.from * (c.self.inside.class / GRANULE_WORDS) = rw (c.from.ensures, c.from-2.ensures, c.words.ensures.value) refl in
    let number : c.cell_at.result ≡ c.in-Some.granule / (c.self.inside.class / GRANULE_WORDS) =
    c.cell_at.ensures ∙ ap (λ m. m / (c.args.self.now.class / GRANULE_WORDS)) c.from-3.ensures ∙ ap (λ (x : Cells). c.in-Some.granule / (x.class / GRANULE_WORDS)) (sym c.self.view_is) in
    subst (λ n. IsFirstFrom c.args.self.now.taken c.args.from n) (sym number)
    (rw (← c.self.view_is) (begun_first c.self.inside.granules c.self.inside.class c.self.invariant.0 c.self.invariant.1 c.args.from c.in-Some.granule (subst (λ m. IsFirstFrom c.self.inside.granules m c.in-Some.granule) low c.in-Some.ensures)))
