use Rattle.std.proofs.Common.{rules, ◌<◌, arith}
use Rattle.final_pause.proofs.Gathering.{gathered_traces, gathered_roots, gathered_dirty}
use Rattle.final_pause.proofs.round.Round.gather.Goals as goal

pub take_back-requires-clause-carried : goal.take_back-requires-clause-carried
take_back-requires-clause-carried c = let pages = c.requires.round.ready.pages in let size = c.gather.ensures.carried_size in let laws = c.laws.ensures.carried in omega arith

pub returns-clause-traces : goal.returns-clause-traces
returns-clause-traces c =
    let ready = c.requires.round.ready in let some : 0 < c.from.result = search rules in let k = c.take_back.ensures in
    gathered_traces c.gather.new.first c.gather.new.dirty c.gather.new.carried c.take_back.new.self c.gather.ensures ready.map some ready.start ready.pages k.gathered k.known k.dirty k.carried_len k.each k.old k.more

pub returns-clause-roots : goal.returns-clause-roots
returns-clause-roots c =
    let ready = c.requires.round.ready in let some : 0 < c.from.result = search rules in let k = c.take_back.ensures in
    gathered_roots c.gather.new.first c.gather.new.dirty c.gather.new.carried c.take_back.new.self c.gather.ensures ready.map some ready.start ready.pages k.gathered k.known k.dirty k.carried_len k.each k.old k.more

pub returns-clause-dirty : goal.returns-clause-dirty
returns-clause-dirty c =
    let ready = c.requires.round.ready in let some : 0 < c.from.result = search rules in let k = c.take_back.ensures in
    gathered_dirty c.gather.new.first c.gather.new.dirty c.gather.new.carried c.take_back.new.self c.gather.ensures ready.map some ready.start ready.pages k.gathered k.known k.dirty k.carried_len k.each k.old k.more
