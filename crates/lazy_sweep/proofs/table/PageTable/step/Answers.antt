use Rattle.std.proofs.Common.{◌≡◌, ◌+◌, Bool, List, [], sym, subst}
use Rattle.std.specs.Prelude.{count_by}
use Rattle.words.specs.Bits.{Has}
use Rattle.lazy_sweep.proofs.Swept.{count_less, some_page}
use Rattle.lazy_sweep.proofs.table.PageTable.step.Goals as goal

pub returns-clause-sweeps : goal.returns-clause-sweeps
returns-clause-sweeps c =
    let was : Has c.args.self.now.pending c.in-Some.page = c.in-Some.ensures.member in
    some_page _ _ _ c.in-Some.page c.sweep_page.ensures.lawful.map was c.sweep_page.ensures.sweeps

pub returns-clause-page : goal.returns-clause-page
returns-clause-page c = λ _ words.
    let was : Has c.args.self.now.pending c.in-Some.page = c.in-Some.ensures.member in
    (c.in-Some.page, was, c.sweep_page.ensures.sweeps.sweeps words)

pub returns-clause-fewer : goal.returns-clause-fewer
returns-clause-fewer c = λ _.
    let was : Has c.args.self.now.pending c.in-Some.page = c.in-Some.ensures.member in
    subst (λ (row : List Bool). count_by (λ b. b) row + 1 ≡ count_by (λ b. b) c.args.self.now.pending) (sym (c.sweep_page.ensures.sweeps.sweeps []).pending) (count_less c.args.self.now.pending c.in-Some.page was)
