use Rattle.std.proofs.Common.{sym, ◌∙◌}
use Rattle.replayer.proofs.Replies.{expects_no_finish}
use Rattle.replayer.proofs.replayer.Replayer.finish_reply.Goals as goal

pub returns-clause-reply : goal.returns-clause-reply
returns-clause-reply c = expects_no_finish c.args.self.now (sym c.is_marking.ensures ∙ c.if-is_marking.false)
