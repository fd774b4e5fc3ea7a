use Rattle.final_pause.proofs.Waits.{moves}
use Rattle.final_pause.proofs.waiting.Waiting.move_one.Goals as goal

pub returns-in-Some : goal.returns-in-Some
returns-in-Some c = moves c.self.inside.ahead.items c.push.new.self.items c.self.inside.stack.items c.pop.new.self.items c.args.self.now c.in-Some.unread c.self.view_is c.in-Some.ensures.items c.push.ensures.items
