use Rattle.std.proofs.Common.{sym, ◌∙◌}
use Rattle.replayer.proofs.Replies.{expects_roots, expects_no_roots}
use Rattle.replayer.proofs.replayer.Replayer.roots_reply.Goals as goal

pub returns-then-is_marking : goal.returns-then-is_marking
returns-then-is_marking c = expects_roots c.args.self.now (sym c.is_marking.ensures ∙ c.if-is_marking.true)

pub returns : goal.returns
returns c = expects_no_roots c.args.self.now (sym c.is_marking.ensures ∙ c.if-is_marking.false)
