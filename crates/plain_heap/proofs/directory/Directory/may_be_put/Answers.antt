use Rattle.plain_heap.proofs.directory.Directory.may_be_put.Goals as goal

pub returns-clause-yes : goal.returns-clause-yes
returns-clause-yes c done = (c.is_in_heap.ensures.yes c.if-not-is_in_heap.false, c.is_fresh.ensures.yes done)
