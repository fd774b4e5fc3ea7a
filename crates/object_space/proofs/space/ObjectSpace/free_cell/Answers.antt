use Rattle.std.proofs.Common.{sym, ◌∙◌}
use Rattle.std.proofs.lemmas.Bool.{true≢false}
use Rattle.object_space.proofs.Freeing.{loses_kept, loses_last, whole_entered, whole_last, whole_more, whole_pending}
use Rattle.object_space.proofs.space.ObjectSpace.free_cell.Goals as goal

pub invariant_of-self : goal.invariant_of-self
invariant_of-self c = whole_last c.self.inside.memory c.self.inside.table c.self.invariant c.args.found (rw (← c.self.view_is) at c.requires.found) (rw (← c.self.view_is) at c.requires.lawful) (rw (← c.self.view_is) at c.requires.cut) c.put-left.new.self c.put-left.ensures.states c.put-left.ensures.removed c.put-left.new.memory c.put-left.ensures.memory c.put-left.ensures.listed c.put-left.result c.put-left.ensures.tells (rw c.if-left.true at c.put-left.ensures.tells.empty) c.free_block.new.self c.free_block.ensures.states c.free_block.ensures.uncut c.free_block.ensures.given c.free_block.ensures.row c.free_block.ensures.lawful c.free_block.ensures.left c.free_block.ensures.awaited

pub returns-then-left : goal.returns-then-left
returns-then-left c = rw (← c.self.view_is) (loses_last c.self.inside.memory c.self.inside.table c.self.invariant c.args.found (rw (← c.self.view_is) at c.requires.found) (rw (← c.self.view_is) at c.requires.lawful) (rw (← c.self.view_is) at c.requires.cut) c.put-left.new.self c.put-left.ensures.states c.put-left.ensures.removed c.put-left.new.memory c.put-left.ensures.memory c.put-left.ensures.listed c.put-left.result c.put-left.ensures.tells (rw c.if-left.true at c.put-left.ensures.tells.empty) c.free_block.new.self c.free_block.ensures.states c.free_block.ensures.uncut c.free_block.ensures.given c.free_block.ensures.row c.free_block.ensures.lawful)

pub invariant_of-self-then-is_pending : goal.invariant_of-self-then-is_pending
invariant_of-self-then-is_pending c = whole_pending c.self.inside.memory c.self.inside.table c.self.invariant c.args.found (rw (← c.self.view_is) at c.requires.found) (rw (← c.self.view_is) at c.requires.lawful) (rw (← c.self.view_is) at c.requires.cut) c.put-left.new.self c.put-left.ensures.states c.put-left.ensures.removed c.put-left.new.memory c.put-left.ensures.memory c.put-left.ensures.listed c.put-left.result c.put-left.ensures.tells (rw c.if-left.false at c.put-left.ensures.tells.empty) (sym c.is_pending.ensures ∙ c.if-is_pending.true)

pub returns-then-is_pending : goal.returns-then-is_pending
returns-then-is_pending c = rw (← c.self.view_is) (loses_kept c.self.inside.memory c.self.inside.table c.self.invariant c.args.found (rw (← c.self.view_is) at c.requires.found) (rw (← c.self.view_is) at c.requires.lawful) (rw (← c.self.view_is) at c.requires.cut) c.put-left.new.self c.put-left.ensures.states c.put-left.ensures.removed c.put-left.new.memory c.put-left.ensures.memory c.put-left.ensures.listed c.put-left.result c.put-left.ensures.tells (rw c.if-left.false at c.put-left.ensures.tells.empty))

pub invariant_of-self-then-left-2 : goal.invariant_of-self-then-left-2
invariant_of-self-then-left-2 c = whole_entered c.self.inside.memory c.self.inside.table c.self.invariant c.args.found (rw (← c.self.view_is) at c.requires.found) (rw (← c.self.view_is) at c.requires.lawful) (rw (← c.self.view_is) at c.requires.cut) c.put-left.new.self c.put-left.ensures.states c.put-left.ensures.removed c.put-left.new.memory c.put-left.ensures.memory c.put-left.ensures.listed c.put-left.result c.put-left.ensures.tells (rw c.if-left.false at c.put-left.ensures.tells.empty) _ (λ h. true≢false (sym h ∙ sym c.is_pending.ensures ∙ c.if-is_pending.false)) c.enter.ensures

pub invariant_of-self-else-left-2 : goal.invariant_of-self-else-left-2
invariant_of-self-else-left-2 c = whole_more c.self.inside.memory c.self.inside.table c.self.invariant c.args.found (rw (← c.self.view_is) at c.requires.found) (rw (← c.self.view_is) at c.requires.lawful) (rw (← c.self.view_is) at c.requires.cut) c.put-left.new.self c.put-left.ensures.states c.put-left.ensures.removed c.put-left.new.memory c.put-left.ensures.memory c.put-left.ensures.listed c.put-left.result c.put-left.ensures.tells (rw c.if-left.false at c.put-left.ensures.tells.empty) (λ h. true≢false (sym h ∙ sym c.is_pending.ensures ∙ c.if-is_pending.false)) (rw c.if-left-2.false at c.put-left.ensures.tells.full)

pub returns-then-left-2 : goal.returns-then-left-2
returns-then-left-2 c = rw (← c.self.view_is) (loses_kept c.self.inside.memory c.self.inside.table c.self.invariant c.args.found (rw (← c.self.view_is) at c.requires.found) (rw (← c.self.view_is) at c.requires.lawful) (rw (← c.self.view_is) at c.requires.cut) c.put-left.new.self c.put-left.ensures.states c.put-left.ensures.removed c.put-left.new.memory c.put-left.ensures.memory c.put-left.ensures.listed c.put-left.result c.put-left.ensures.tells (rw c.if-left.false at c.put-left.ensures.tells.empty))

pub returns-else-left-2 : goal.returns-else-left-2
returns-else-left-2 c = rw (← c.self.view_is) (loses_kept c.self.inside.memory c.self.inside.table c.self.invariant c.args.found (rw (← c.self.view_is) at c.requires.found) (rw (← c.self.view_is) at c.requires.lawful) (rw (← c.self.view_is) at c.requires.cut) c.put-left.new.self c.put-left.ensures.states c.put-left.ensures.removed c.put-left.new.memory c.put-left.ensures.memory c.put-left.ensures.listed c.put-left.result c.put-left.ensures.tells (rw c.if-left.false at c.put-left.ensures.tells.empty))
