use Rattle.std.proofs.Common.{sym, ◌∙◌}
use Rattle.replayer.proofs.Replies.{expects_begin, expects_no_begin}
use Rattle.replayer.proofs.replayer.Replayer.begin_reply.Goals as goal

pub returns-then-is_marking : goal.returns-then-is_marking
returns-then-is_marking c = expects_no_begin c.args.self.now (sym c.is_marking.ensures ∙ c.if-is_marking.true)

pub returns : goal.returns
returns c = expects_begin c.args.self.now (sym c.is_marking.ensures ∙ c.if-is_marking.false)
