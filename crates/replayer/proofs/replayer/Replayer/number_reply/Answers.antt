use Rattle.replayer.proofs.Replies.{expects_number}
use Rattle.replayer.proofs.replayer.Replayer.number_reply.Goals as goal

pub returns : goal.returns
returns c = expects_number c.args.self.now _ c.collections.ensures
