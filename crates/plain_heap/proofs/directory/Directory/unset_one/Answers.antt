use Rattle.plain_heap.proofs.InDirectory.{one_of}
use Rattle.plain_heap.proofs.Claiming.{unset_past, unset_more}
use Rattle.plain_heap.proofs.directory.Directory.unset_one.Goals as goal

pub returns-in_default-clause-unset : goal.returns-in_default-clause-unset
returns-in_default-clause-unset c bases unset = unset_past _ (one_of c.args.self.now) bases _ unset _ c.in_default.ensures.none

pub returns-clause-unset : goal.returns-clause-unset
returns-clause-unset c bases unset = let here = c.in-Some.ensures.some in unset_more _ (one_of c.args.self.now) bases _ unset c.in-Some.index _ here.0 here.1 here.2
