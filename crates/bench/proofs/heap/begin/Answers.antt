use Rattle.std.proofs.Common.{arith}
use Rattle.block_map.specs.FoundIn.{found_in}
use Rattle.marker.proofs.Objects.{blank_objects}
use Rattle.bench.proofs.heap.begin.Goals as goal

-- all pages are named, so no mark is past them
pub begin-requires-clause-unmarked : goal.begin-requires-clause-unmarked
begin-requires-clause-unmarked c k past inside = absurd (let marks = c.laws.ensures.marks in let pages = c.requires in let len = c.len.ensures.len in omega arith)

pub returns-clause-objects : goal.returns-clause-objects
returns-clause-objects c = blank_objects (found_in c.args.map.now) _ _ c.begin.ensures.blank

pub returns-clause-invariant : goal.returns-clause-invariant
returns-clause-invariant c words = c.begin.ensures.invariant (found_in c.args.map.now) words
