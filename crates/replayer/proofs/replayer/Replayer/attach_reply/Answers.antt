use Rattle.replayer.proofs.Replies.{expects_attach}
use Rattle.replayer.proofs.replayer.Replayer.attach_reply.Goals as goal

pub returns : goal.returns
returns c = rw (← c.self.view_is) (expects_attach _ _ c.attach_reply.ensures.may c.attach_reply.ensures.only)
