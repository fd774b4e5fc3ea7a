use Rattle.replayer.proofs.replayer.Replayer.replay.Goals as goal

pub returns-in-Attach-clause-yes : goal.returns-in-Attach-clause-yes
returns-in-Attach-clause-yes c done = rw c.in-Attach.is (c.attach.ensures.yes done c.args.hint)

pub returns-in-Attach-clause-no : goal.returns-in-Attach-clause-no
returns-in-Attach-clause-no c refused judges = rw c.in-Attach.is (c.attach.ensures.no refused c.args.hint)

pub returns-in-Begin-clause-yes : goal.returns-in-Begin-clause-yes
returns-in-Begin-clause-yes c done = rw c.in-Begin.is (c.begin.ensures.yes done c.args.hint)

pub returns-in-Begin-clause-no : goal.returns-in-Begin-clause-no
returns-in-Begin-clause-no c refused judges = rw c.in-Begin.is (c.begin.ensures.no refused c.args.hint)

pub returns-in-BeginPartial-clause-yes : goal.returns-in-BeginPartial-clause-yes
returns-in-BeginPartial-clause-yes c done = rw c.in-BeginPartial.is (c.begin_partial.ensures.yes done c.args.hint)

pub returns-in-BeginPartial-clause-no : goal.returns-in-BeginPartial-clause-no
returns-in-BeginPartial-clause-no c refused judges = rw c.in-BeginPartial.is (c.begin_partial.ensures.no refused c.args.hint)

pub returns-in-Roots-clause-yes : goal.returns-in-Roots-clause-yes
returns-in-Roots-clause-yes c done = rw c.in-Roots.is (c.roots.ensures.yes done c.args.hint)

pub returns-in-Roots-clause-no : goal.returns-in-Roots-clause-no
returns-in-Roots-clause-no c refused judges = rw c.in-Roots.is (c.roots.ensures.no refused c.args.hint)

pub returns-in-Mark-clause-yes : goal.returns-in-Mark-clause-yes
returns-in-Mark-clause-yes c done = rw c.in-Mark.is (c.mark.ensures.yes done c.args.hint)

pub returns-in-Mark-clause-no : goal.returns-in-Mark-clause-no
returns-in-Mark-clause-no c refused judges = rw c.in-Mark.is (c.mark.ensures.no refused c.args.hint)

pub returns-in-Retrace-clause-yes : goal.returns-in-Retrace-clause-yes
returns-in-Retrace-clause-yes c done = rw c.in-Retrace.is (c.retrace.ensures.yes done c.args.hint)

pub returns-in-Retrace-clause-no : goal.returns-in-Retrace-clause-no
returns-in-Retrace-clause-no c refused judges = rw c.in-Retrace.is (c.retrace.ensures.no refused c.args.hint)

pub returns-in-Sweep-clause-yes : goal.returns-in-Sweep-clause-yes
returns-in-Sweep-clause-yes c done = rw c.in-Sweep.is (c.sweep.ensures.yes done c.args.hint)

pub returns-in-Sweep-clause-no : goal.returns-in-Sweep-clause-no
returns-in-Sweep-clause-no c refused judges = rw c.in-Sweep.is (c.sweep.ensures.no refused c.args.hint)

pub returns-in-Number-clause-yes : goal.returns-in-Number-clause-yes
returns-in-Number-clause-yes c done = rw c.in-Number.is (c.count.ensures.yes done c.args.hint)

pub returns-in-Number-clause-no : goal.returns-in-Number-clause-no
returns-in-Number-clause-no c refused judges = rw c.in-Number.is (c.count.ensures.no refused c.args.hint)
