use Rattle.dirty_pages.proofs.Skips.{read_here, read_found}
use Rattle.dirty_pages.proofs.summary.SummedWords.first_bit.Goals as goal

pub returns-in-Some : goal.returns-in-Some
returns-in-Some c = rw (← c.self.view_is) (read_here c.self.inside.words.items c.args.low c.in-Some.i c.index.result.now (rw (← c.self.view_is) at c.requires.low) c.index.ensures c.in-Some.ensures)

pub returns : goal.returns
returns c = rw (← c.self.view_is)
    (read_found c.self.inside.words.items c.args.low c.in-Some-next.k c.index.result.now c.at.result (rw (← c.self.view_is) at c.requires.low) c.index.ensures c.in_default.ensures
    (rw (← c.self.view_is) at c.in-Some-next.ensures) (rw (← c.self.view_is) at c.at.ensures) c.at.type_inv)
