use Rattle.std.proofs.Common.{◌/◌, false, get_or, ap, ◌∙◌, arith}
use Rattle.words.proofs.Rows.{part_gone, part_kept}
use Rattle.words.proofs.granule_row.GranuleRow.keep.Goals as goal

pub returns-clause-kept : goal.returns-clause-kept
returns-clause-kept c k has =
    part_kept c.self.inside.words c.as_words-words.result.now c.args.other.now c.args.first (c.args.first / 64) k c.as_words-words.ensures.bits (let whole = c.requires.whole in omega arith) c.requires.inside has
    ∙ ap (λ r. get_or r k false) c.self.view_is

pub returns-clause-gone : goal.returns-clause-gone
returns-clause-gone c k not =
    part_gone c.self.inside.words c.as_words-words.result.now c.args.other.now c.args.first (c.args.first / 64) k c.as_words-words.ensures.bits (let whole = c.requires.whole in omega arith) c.requires.inside not
