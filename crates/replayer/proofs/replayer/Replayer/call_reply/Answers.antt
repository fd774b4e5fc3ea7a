use Rattle.replayer.proofs.Replies.{expects_call}
use Rattle.replayer.proofs.replayer.Replayer.call_reply.Goals as goal

pub returns : goal.returns
returns c = rw (← c.self.view_is) (expects_call _ _ _ _ c.call_reply.ensures.may c.call_reply.ensures.only)
