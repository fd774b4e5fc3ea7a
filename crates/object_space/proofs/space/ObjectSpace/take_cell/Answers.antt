use Rattle.object_space.proofs.Allocations.{first_words}
use Rattle.object_space.proofs.AvailablePages.{available_inside}
use Rattle.object_space.proofs.Taking.{gains_taken, room_taken, whole_filled, whole_left}
use Rattle.object_space.proofs.space.ObjectSpace.take_cell.Goals as goal

pub zero-requires-clause-address : goal.zero-requires-clause-address
zero-requires-clause-address c =
    let t = c.in-Some.ensures in
    (first_words _ _ _ c.args.page c.in-Some.taken.object c.laws.ensures.laid (available_inside _ c.args.class c.args.kind c.args.page (rw (← c.self.view_is) at c.requires.cell)) t.free t.states t.added t.object t.listed).0

pub zero-requires-clause-inside : goal.zero-requires-clause-inside
zero-requires-clause-inside c =
    let t = c.in-Some.ensures in
    (first_words _ _ _ c.args.page c.in-Some.taken.object c.laws.ensures.laid (available_inside _ c.args.class c.args.kind c.args.page (rw (← c.self.view_is) at c.requires.cell)) t.free t.states t.added t.object t.listed).1

pub invariant_of-self : goal.invariant_of-self
invariant_of-self c =
    let t = c.in-Some.ensures in
    whole_filled c.self.inside.memory c.self.inside.table c.self.invariant c.laws.ensures.laid c.laws.ensures.lawful c.args.class c.args.kind c.args.page (rw (← c.self.view_is) at c.requires.cell) (rw (← c.self.view_is) at c.requires.swept) _ _ t.free t.states t.added t.object t.listed _ c.zero.ensures _ c.leave.ensures (rw c.if-taken.true at t.last)

pub invariant_of-self-else-taken : goal.invariant_of-self-else-taken
invariant_of-self-else-taken c =
    let t = c.in-Some.ensures in
    whole_left c.self.inside.memory c.self.inside.table c.self.invariant c.laws.ensures.laid c.laws.ensures.lawful c.args.class c.args.kind c.args.page (rw (← c.self.view_is) at c.requires.cell) (rw (← c.self.view_is) at c.requires.swept) _ _ t.free t.states t.added t.object t.listed _ c.zero.ensures (rw c.if-taken.false at t.last)

pub returns-then-taken-clause-room : goal.returns-then-taken-clause-room
returns-then-taken-clause-room c =
    let t = c.in-Some.ensures in
    rw (← c.self.view_is) (room_taken c.self.inside.memory c.self.inside.table c.self.invariant c.laws.ensures.laid c.laws.ensures.lawful c.args.class c.args.kind c.args.page (rw (← c.self.view_is) at c.requires.cell) (rw (← c.self.view_is) at c.requires.swept) _ _ t.free t.states t.added t.object t.listed _ c.zero.ensures)

pub returns-then-taken-clause-gains : goal.returns-then-taken-clause-gains
returns-then-taken-clause-gains c =
    let t = c.in-Some.ensures in
    rw (← c.self.view_is) (gains_taken c.self.inside.memory c.self.inside.table c.self.invariant c.laws.ensures.laid c.laws.ensures.lawful c.args.class c.args.kind c.args.page (rw (← c.self.view_is) at c.requires.cell) (rw (← c.self.view_is) at c.requires.swept) _ _ t.free t.states t.added t.object t.listed _ c.zero.ensures)

pub returns-else-taken-clause-room : goal.returns-else-taken-clause-room
returns-else-taken-clause-room c =
    let t = c.in-Some.ensures in
    rw (← c.self.view_is) (room_taken c.self.inside.memory c.self.inside.table c.self.invariant c.laws.ensures.laid c.laws.ensures.lawful c.args.class c.args.kind c.args.page (rw (← c.self.view_is) at c.requires.cell) (rw (← c.self.view_is) at c.requires.swept) _ _ t.free t.states t.added t.object t.listed _ c.zero.ensures)

pub returns-else-taken-clause-gains : goal.returns-else-taken-clause-gains
returns-else-taken-clause-gains c =
    let t = c.in-Some.ensures in
    rw (← c.self.view_is) (gains_taken c.self.inside.memory c.self.inside.table c.self.invariant c.laws.ensures.laid c.laws.ensures.lawful c.args.class c.args.kind c.args.page (rw (← c.self.view_is) at c.requires.cell) (rw (← c.self.view_is) at c.requires.swept) _ _ t.free t.states t.added t.object t.listed _ c.zero.ensures)
