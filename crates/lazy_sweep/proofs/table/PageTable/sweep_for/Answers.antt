use Rattle.std.proofs.Common.{[], ◌∙◌, Bool, List, subst, sym, arith}
use Rattle.std.specs.Prelude.{◌<◌, count_by}
use Rattle.words.specs.Bits.{Has}
use Rattle.lazy_sweep.proofs.Swept.{count_less, some_more, some_page}
use Rattle.lazy_sweep.proofs.table.PageTable.sweep_for.Goals as goal

pub sweep_page-requires-clause-pages : goal.sweep_page-requires-clause-pages
sweep_page-requires-clause-pages c = c.requires.pages ∙ sym (c.loop-page.invariant.sweeps []).pages

pub loop-page-smaller : goal.loop-page-smaller
loop-page-smaller c =
    let was : Has c.loop-page.self.pending c.in-Some.page = (sym c.is_set.ensures ∙ c.if-not-is_set.false) in
    let less = count_less c.loop-page.self.pending c.in-Some.page was in
    let row = (c.sweep_page.ensures.sweeps.sweeps []).pending in
    subst (λ (r : List Bool). count_by (λ b. b) r < count_by (λ b. b) c.loop-page.self.pending) (sym row) (omega arith)

pub loop-page-preserved : goal.loop-page-preserved
loop-page-preserved c =
    some_more _ _ _ _ c.loop-page.invariant
    (some_page _ _ _ _ c.sweep_page.ensures.lawful.map ((sym c.is_set.ensures ∙ c.if-not-is_set.false)) c.sweep_page.ensures.sweeps)
