use Rattle.std.proofs.Common.{refl}
use Rattle.scripts.specs.Printing.{reply_line}
use Rattle.scripts.proofs.answer.answer_line.Goals as goal

pub returns-in-Err-clause-turn : goal.returns-in-Err-clause-turn
returns-in-Err-clause-turn g c =
    let e = c.in-Err.ensures.err in
    (reply_line c.args.pages c.act-reply.result, e.0, record { command = c.in-Some.command; reply = c.act-reply.result; is_line = c.in-Some.ensures; acts = c.act-reply.ensures.acts; core = c.laws.ensures; does = c.act-reply.ensures.line; prints = refl }, e.1)

pub returns-in-Ok-clause-turn : goal.returns-in-Ok-clause-turn
returns-in-Ok-clause-turn g c =
    (reply_line c.args.pages c.act-reply.result, record { command = c.in-Some.command; reply = c.act-reply.result; is_line = c.in-Some.ensures; acts = c.act-reply.ensures.acts; core = c.laws.ensures; does = c.act-reply.ensures.line; prints = refl }, c.in-Ok.ensures.ok)
