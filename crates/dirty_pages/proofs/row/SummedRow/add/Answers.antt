use Rattle.std.proofs.Common.{◌≡◌, ◌∙◌, length, sym, ap}
use Rattle.words.specs.Bits.{bits}
use Rattle.dirty_pages.proofs.Adding.{or_each, or_old, or_more}
use Rattle.dirty_pages.proofs.row.SummedRow.add.Goals as goal

pub returns-clause-each : goal.returns-clause-each
returns-clause-each c =
    let same : length (bits c.more.inside.words c.more.inside.len) ≡ length (bits c.self.inside.words c.self.inside.len) = ap length c.more.view_is ∙ c.requires ∙ ap length (sym c.self.view_is) in
    rw (← c.self.view_is, ← c.more.view_is) (or_each c.self.inside.words c.more.inside.words c.add_words.new.words c.self.inside.len c.more.inside.len same c.add_words.ensures)

pub returns-clause-old : goal.returns-clause-old
returns-clause-old c =
    let same : length (bits c.more.inside.words c.more.inside.len) ≡ length (bits c.self.inside.words c.self.inside.len) = ap length c.more.view_is ∙ c.requires ∙ ap length (sym c.self.view_is) in
    rw (← c.self.view_is) (or_old c.self.inside.words c.more.inside.words c.add_words.new.words c.self.inside.len c.more.inside.len same c.add_words.ensures)

pub returns-clause-more : goal.returns-clause-more
returns-clause-more c =
    let same : length (bits c.more.inside.words c.more.inside.len) ≡ length (bits c.self.inside.words c.self.inside.len) = ap length c.more.view_is ∙ c.requires ∙ ap length (sym c.self.view_is) in
    rw (← c.more.view_is) (or_more c.self.inside.words c.more.inside.words c.add_words.new.words c.self.inside.len c.more.inside.len same c.add_words.ensures)
