use Rattle.std.proofs.Common.{List, Contains, subst}
use Rattle.std.proofs.lemmas.List.Elements.{Contains-get_or}
use Rattle.final_pause.specs.declared.waiting.Unread.{Unread}
use Rattle.final_pause.proofs.Waits.{stack_waits}
use Rattle.final_pause.proofs.waiting.Waiting.look.Goals as goal

pub loop-i-init : goal.loop-i-init
loop-i-init c o h = stack_waits c.self.inside.ahead.items c.self.inside.stack.items c.args.self.now o c.self.view_is (subst (λ (l : List Unread). Contains l o) c.as_slice-waiting.ensures.value h)

pub read-seen-requires : goal.read-seen-requires
read-seen-requires c = let l : List Unread = c.as_slice-waiting.result.now in
    c.requires _ (c.loop-i.invariant _ (Contains-get_or l c.loop-i.i (record { base = 0; len = 0 }) c.loop-i-test.true))
