use Rattle.replayer.proofs.Replies.{expects_collect}
use Rattle.replayer.proofs.replayer.Replayer.collect_reply.Goals as goal

pub returns-clause-reply : goal.returns-clause-reply
returns-clause-reply c = rw (← c.self.view_is) (expects_collect _ _ c.count_unreached.ensures.garbage)
