use Rattle.std.proofs.Common.{◌-◌, length}
use Rattle.dirty_pages.proofs.Adding.{Ors}
use Rattle.dirty_pages.proofs.row.add_words.Given as goal

abbrev pub invariant-loop-j : goal.invariant-loop-j
invariant-loop-j l = Ors l.from l.fn.words l.more l.words

abbrev pub decreases-loop-j : goal.decreases-loop-j
decreases-loop-j l = length l.words - l.from
