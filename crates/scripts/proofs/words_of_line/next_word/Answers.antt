use Rattle.std.proofs.lemmas.Bool.{eq-eqb}
use Rattle.scripts.proofs.Splitting.{split_here, split_none}
use Rattle.scripts.proofs.words_of_line.next_word.Goals as goal

pub returns-then-line-i-eq32-clause-more : goal.returns-then-line-i-eq32-clause-more
returns-then-line-i-eq32-clause-more c = split_here c.args.line.now c.loop-i.i c.loop-i-test.true c.loop-i.invariant (eq-eqb _ _ c.if-line-i-eq32.true)

pub returns-clause-last : goal.returns-clause-last
returns-clause-last c = split_none c.args.line.now c.loop-i.i c.loop-i-test.false c.loop-i.invariant
