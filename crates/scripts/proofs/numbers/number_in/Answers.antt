use Rattle.std.proofs.Common.{arith}
use Rattle.scripts.proofs.Decimals.{one_number}
use Rattle.scripts.proofs.numbers.number_in.Goals as goal

pub returns-in_err-n : goal.returns-in_err-n
returns-in_err-n c = rw c.from_residual.ensures (λ m low high is. c.in_err-n.ensures m (omega (arith, high, c.ranges.most)) is)

pub returns-then-n-least : goal.returns-then-n-least
returns-then-n-least c m low high is =
    let same = one_number m c.in_ok-n.n c.args.word.now (omega (arith, high, c.ranges.most)) c.in_ok-n.ensures.1 is c.in_ok-n.ensures.0 in
    omega (arith, same, low, c.if-n-least.true)

pub returns-then-most-n : goal.returns-then-most-n
returns-then-most-n c m low high is =
    let same = one_number m c.in_ok-n.n c.args.word.now (omega (arith, high, c.ranges.most)) c.in_ok-n.ensures.1 is c.in_ok-n.ensures.0 in
    omega (arith, same, high, c.if-most-n.true)
