use Rattle.std.proofs.Common.{◌≡◌, ◌++◌, List, ap, ◌∙◌}
use Rattle.final_pause.specs.declared.waiting.Unread.{Unread}
use Rattle.final_pause.proofs.Waits.{takes_first, takes_second, taken_moved}
use Rattle.final_pause.proofs.waiting.Waiting.take.Goals as goal

pub returns-in-Some : goal.returns-in-Some
returns-in-Some c = takes_first c.self.inside.ahead.items c.pop.new.self.items c.self.inside.stack.items c.args.self.now c.in-Some.unread c.self.view_is c.in-Some.ensures.items

pub look_ahead-requires : goal.look_ahead-requires
look_ahead-requires c =
    let a : List Unread = c.pop.new.self.items in
    let is : a ++ c.self.inside.stack.items ≡ c.args.self.now = ap (λ l. l.items ++ c.self.inside.stack.items) c.in_default.ensures.empty ∙ c.self.view_is in
    let taken = takes_second a c.self.inside.stack.items c.pop-2.new.self.items c.args.self.now c.in_ok-unread.unread is c.in_ok-unread.ensures.items in
    λ b h. c.requires b (taken.only b h)

pub returns : goal.returns
returns c =
    let a : List Unread = c.pop.new.self.items in
    let is : a ++ c.self.inside.stack.items ≡ c.args.self.now = ap (λ l. l.items ++ c.self.inside.stack.items) c.in_default.ensures.empty ∙ c.self.view_is in
    let taken = takes_second a c.self.inside.stack.items c.pop-2.new.self.items c.args.self.now c.in_ok-unread.unread is c.in_ok-unread.ensures.items in
    taken_moved c.args.self.now _ c.look_ahead.new.self c.in_ok-unread.unread taken c.look_ahead.ensures
