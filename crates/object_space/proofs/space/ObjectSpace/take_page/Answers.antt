use Rattle.std.proofs.Common.{ap, subst}
use Rattle.words.specs.Classes.{IsSizeClass}
use Rattle.lazy_sweep.specs.Sound.{store_with}
use Rattle.object_space.proofs.Allocations.{no_room_small}
use Rattle.object_space.proofs.Taking.{gains_cut, never_full, room_cut, whole_cut}
use Rattle.object_space.proofs.space.ObjectSpace.take_page.Goals as goal

pub returns-in_default-clause-none : goal.returns-in_default-clause-none
returns-in_default-clause-none c =
    let none = c.in_default.ensures.none in
    rw (← c.self.view_is) (
      no_room_small _ _ _ c.self.invariant.sound c.laws.ensures.laid c.laws.ensures.lawful (subst IsSizeClass c.words-words.ensures.value c.words-words.ensures.listed)
          (rw (← c.self.view_is) at c.requires) none.0,
      ap (λ p. record (store_with c.self.inside.memory c.self.inside.table) { free = p }) none.1,
    )

pub unreachable-requires : goal.unreachable-requires
unreachable-requires c = never_full c.self.inside.memory c.self.inside.table c.self.invariant c.laws.ensures.laid c.laws.ensures.lawful c.args.class c.args.kind (subst IsSizeClass c.words-words.ensures.value c.words-words.ensures.listed) c.in-Some.page _ _ _ (record { run = c.in-Some.ensures.some.0.run; taken = c.in-Some.ensures.some.1; became = c.cut.ensures.states; same = c.cut.ensures.same; changes = c.cut.ensures.memory }) (c.in_default-take.ensures.none)

pub invariant_of-self-2 : goal.invariant_of-self-2
invariant_of-self-2 c =
    let t = c.in-Some-take.ensures in
    whole_cut c.self.inside.memory c.self.inside.table c.self.invariant c.laws.ensures.laid c.laws.ensures.lawful c.args.class c.args.kind (subst IsSizeClass c.words-words.ensures.value c.words-words.ensures.listed) c.in-Some.page _ _ _ (record { run = c.in-Some.ensures.some.0.run; taken = c.in-Some.ensures.some.1; became = c.cut.ensures.states; same = c.cut.ensures.same; changes = c.cut.ensures.memory }) _ _ t.free t.states t.added t.object t.listed _ c.zero.ensures _ c.in-Some-take.first.was_last c.enter.ensures t.last

pub returns-clause-some : goal.returns-clause-some
returns-clause-some c =
    let t = c.in-Some-take.ensures in
    rw (← c.self.view_is) (room_cut c.self.inside.memory c.self.inside.table c.self.invariant c.laws.ensures.laid c.laws.ensures.lawful c.args.class c.args.kind (subst IsSizeClass c.words-words.ensures.value c.words-words.ensures.listed) c.in-Some.page _ _ _ (record { run = c.in-Some.ensures.some.0.run; taken = c.in-Some.ensures.some.1; became = c.cut.ensures.states; same = c.cut.ensures.same; changes = c.cut.ensures.memory }) _ _ t.free t.states t.added t.object t.listed _ c.zero.ensures)

pub returns-clause-gains : goal.returns-clause-gains
returns-clause-gains c =
    let t = c.in-Some-take.ensures in
    rw (← c.self.view_is) (gains_cut c.self.inside.memory c.self.inside.table c.self.invariant c.laws.ensures.laid c.laws.ensures.lawful c.args.class c.args.kind (subst IsSizeClass c.words-words.ensures.value c.words-words.ensures.listed) c.in-Some.page _ _ _ (record { run = c.in-Some.ensures.some.0.run; taken = c.in-Some.ensures.some.1; became = c.cut.ensures.states; same = c.cut.ensures.same; changes = c.cut.ensures.memory }) _ _ t.free t.states t.added t.object t.listed _ c.zero.ensures)
