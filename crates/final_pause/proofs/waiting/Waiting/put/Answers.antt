use Rattle.final_pause.proofs.Waits.{puts}
use Rattle.final_pause.proofs.waiting.Waiting.put.Goals as goal

pub returns-clause-put : goal.returns-clause-put
returns-clause-put c = λ e. puts c.self.inside.ahead.items c.self.inside.stack.items c.push.new.self.items c.args.self.now c.args.unread c.self.view_is c.push.ensures.items
