use Rattle.std.proofs.Common.{sym, ◌∙◌}
use Rattle.replayer.proofs.Replies.{expects_partial, expects_no_partial, expects_full_first}
use Rattle.replayer.proofs.replayer.Replayer.begin_partial_reply.Goals as goal

pub returns-then-is_marking : goal.returns-then-is_marking
returns-then-is_marking c = expects_no_partial c.args.self.now (sym c.is_marking.ensures ∙ c.if-is_marking.true)

pub returns-then-needs_full : goal.returns-then-needs_full
returns-then-needs_full c = expects_full_first c.args.self.now (sym c.is_marking.ensures ∙ c.if-is_marking.false) (sym c.needs_full.ensures ∙ c.if-needs_full.true)

pub returns : goal.returns
returns c = expects_partial c.args.self.now (sym c.is_marking.ensures ∙ c.if-is_marking.false) (sym c.needs_full.ensures ∙ c.if-needs_full.false)
