use Rattle.std.proofs.Common.{arith}
use Rattle.words.proofs.Scans.{first_in_word}
use Rattle.words.proofs.scan.first_in.Goals as goal

pub returns : goal.returns
returns c = first_in_word _ _ _ _ c.turned.ensures (omega arith) c.if-rest-eq0.false
