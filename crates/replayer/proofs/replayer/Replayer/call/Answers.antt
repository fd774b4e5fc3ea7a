use Rattle.replayer.proofs.replayer.Replayer.call.Goals as goal

pub answered-requires : goal.answered-requires
answered-requires c g = c.in_default.not-Done g.4

pub answered-requires-in_default-call : goal.answered-requires-in_default-call
answered-requires-in_default-call c g = c.in_default-call.not-Alloc g.0 g.1 g.2 g.3

pub returns-in_default-clause-yes : goal.returns-in_default-clause-yes
returns-in_default-clause-yes c done = c.answered.ensures.yes done c.args.hint

pub returns-in_default-clause-no : goal.returns-in_default-clause-no
returns-in_default-clause-no c refused judges = c.answered.ensures.no refused c.args.hint

pub returns-in_default-call-clause-yes : goal.returns-in_default-call-clause-yes
returns-in_default-call-clause-yes c done = c.answered-in_default-call.ensures.yes done c.args.hint

pub returns-in_default-call-clause-no : goal.returns-in_default-call-clause-no
returns-in_default-call-clause-no c refused judges = c.answered-in_default-call.ensures.no refused c.args.hint
