use Rattle.std.proofs.Common.{◌-◌, true, set, sym, ap, subst, ◌∙◌, arith}
use Rattle.block_map.specs.States.{state_at, IsBlockFor, IsCut}
use Rattle.object_space.specs.Store.{Store, IsPendingRow}
use Rattle.object_space.proofs.Swept.{sound_of, whole_of}
use Rattle.object_space.specs.Forgets.{ForgetsOn}
use Rattle.object_space.proofs.Forgets.{counted, some_dead, none_dead}
use Rattle.object_space.proofs.space.ObjectSpace.forget_on.Goals as goal

pub make_pending-requires-clause-block : goal.make_pending-requires-clause-block
make_pending-requires-clause-block c = subst (λ st. IsBlockFor st c.class-class.result c.kind-kind.result) (sym c.in-Some.ensures) (sym c.class-class.ensures.class, sym c.kind-kind.ensures)

pub make_pending-requires-clause-rows : goal.make_pending-requires-clause-rows
make_pending-requires-clause-rows c = (sound_of c.self.inside.memory c.self.inside.table c.self.invariant).rows

pub invariant_of-self : goal.invariant_of-self
invariant_of-self c =
    whole_of c.self.inside.memory c.make_pending.new.self
    (record {
      agree = rw (c.make_pending.ensures.pool, c.make_pending.ensures.map) c.self.invariant.sound.agree;
      used = rw c.make_pending.ensures.map c.self.invariant.sound.used;
      rows = c.make_pending.ensures.rows;
    })
    (rw c.make_pending.ensures.map c.self.invariant.listed)

pub overflow_sub-unmarked : goal.overflow_sub-unmarked
overflow_sub-unmarked c =
    let count = (counted c.args.self.now c.args.marker.now c.args.page c.in-Some.block.now _ _ c.laws.ensures.laid c.laws.ensures.lawful c.requires.objects c.laws-2.ensures c.requires.pages c.requires.inside
    (sym (ap (λ (t : Store). state_at t.states c.args.page) c.self.view_is) ∙ c.in-Some.ensures) c.allocated.ensures.count c.marks_on.ensures).count in
    omega arith

pub returns-then-unmarked-gt0-clause-forgets : goal.returns-then-unmarked-gt0-clause-forgets
returns-then-unmarked-gt0-clause-forgets c =
    let is = sym (ap (λ (t : Store). state_at t.states c.args.page) c.self.view_is) ∙ c.in-Some.ensures in
    let size = (subst IsPendingRow c.self.view_is c.self.invariant.pending).size in let inside = c.requires.inside in
    rw (c.make_pending.ensures.pool, c.make_pending.ensures.map) (subst (ForgetsOn c.args.self.now c.args.marker.now.marks c.args.page (c.allocated.result - c.marks_on.result)) (ap (λ (t : Store). record t { pending = c.make_pending.new.self.pending }) (sym c.self.view_is))
    (some_dead c.args.self.now c.args.marker.now.marks c.args.page _ _ c.make_pending.new.self.pending
    (counted c.args.self.now c.args.marker.now c.args.page c.in-Some.block.now _ _ c.laws.ensures.laid c.laws.ensures.lawful c.requires.objects c.laws-2.ensures c.requires.pages c.requires.inside is c.allocated.ensures.count c.marks_on.ensures)
    c.if-unmarked-gt0.true (subst IsCut (sym is) tt) (omega arith) (c.make_pending.ensures.pending ∙ ap (λ (t : Store). set t.pending c.args.page true) c.self.view_is)))

pub returns-else-unmarked-gt0-clause-forgets : goal.returns-else-unmarked-gt0-clause-forgets
returns-else-unmarked-gt0-clause-forgets c =
    none_dead c.args.self.now c.args.marker.now.marks c.args.page _ _
    (counted c.args.self.now c.args.marker.now c.args.page c.in-Some.block.now _ _ c.laws.ensures.laid c.laws.ensures.lawful c.requires.objects c.laws-2.ensures c.requires.pages c.requires.inside
    (sym (ap (λ (t : Store). state_at t.states c.args.page) c.self.view_is) ∙ c.in-Some.ensures) c.allocated.ensures.count c.marks_on.ensures)
    (let none = c.if-unmarked-gt0.false in omega arith)
