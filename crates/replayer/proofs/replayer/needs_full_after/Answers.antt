use Rattle.std.proofs.Common.{sym}
use Rattle.replayer.proofs.Aging.{not_free}
use Rattle.replayer.proofs.replayer.needs_full_after.Goals as goal

pub returns-in_default : goal.returns-in_default
returns-in_default c slot = sym (not_free slot c.args.call.now c.args.reply.now c.args.before c.in_default.not-Free)
