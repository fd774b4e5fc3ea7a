use Rattle.std.proofs.Common.{◌≡◌, ℕ, ◌<◌, List, length, take, refl, sym, ap, ◌∙◌, subst, arith}
use Rattle.std.specs.Prelude.{min}
use Rattle.std.proofs.lemmas.List.{length-take-le}
use Rattle.words.specs.declared.class.Placement.TheVariants.{Small}
use Rattle.lazy_sweep.specs.Sound.{store_with}
use Rattle.object_space.specs.Many.{AllocatesEach}
use Rattle.object_space.specs.Store.{Store}
use Rattle.object_space.proofs.AvailablePages.{available_class, available_inside}
use Rattle.object_space.proofs.Many.{allocates_each, available_block, cells_fit, keeps_pages, ready_filled, ready_left, some_taken, whole_each}
use Rattle.object_space.proofs.space.ObjectSpace.take_linked.Goals as goal

pub write_bases-requires-clause-inside : goal.write_bases-requires-clause-inside
write_bases-requires-clause-inside c =
    cells_fit c.args.class c.args.kind c.args.page _ (available_inside _ c.args.class c.args.kind c.args.page (rw (← c.self.view_is) at c.requires.cell)) (available_block _ c.args.class c.args.kind (rw (← c.self.view_is) at c.requires.cell)) c.take_many-taken.ensures.takes

pub invariant_of-self : goal.invariant_of-self
invariant_of-self c =
    let t = c.take_many-taken.ensures in
    whole_each (store_with c.self.inside.memory c.self.inside.table) _ _ c.self.invariant c.args.class c.args.kind c.args.page ((rw (← c.self.view_is) at c.requires.cell), (rw (← c.self.view_is) at c.requires.swept)) _ _ t.takes _ c.write_bases.ensures.zeroes _ c.laws-2.ensures.laid t.listed (ready_filled _ _ c.args.page c.args.class c.args.kind (keeps_pages c.args.class c.args.kind c.args.page _ (available_inside _ c.args.class c.args.kind c.args.page (rw (← c.self.view_is) at c.requires.cell)) (available_block _ c.args.class c.args.kind (rw (← c.self.view_is) at c.requires.cell)) t.takes) _ _ _ c.self.invariant.exact c.leave.ensures (rw c.if-taken.true at t.full))

pub invariant_of-self-else-taken : goal.invariant_of-self-else-taken
invariant_of-self-else-taken c =
    let t = c.take_many-taken.ensures in
    whole_each (store_with c.self.inside.memory c.self.inside.table) _ _ c.self.invariant c.args.class c.args.kind c.args.page ((rw (← c.self.view_is) at c.requires.cell), (rw (← c.self.view_is) at c.requires.swept)) _ _ t.takes _ c.write_bases.ensures.zeroes _ c.laws-2.ensures.laid t.listed (ready_left _ _ c.args.page c.args.class c.args.kind (keeps_pages c.args.class c.args.kind c.args.page _ (available_inside _ c.args.class c.args.kind c.args.page (rw (← c.self.view_is) at c.requires.cell)) (available_block _ c.args.class c.args.kind (rw (← c.self.view_is) at c.requires.cell)) t.takes) c.self.inside.table.ready _ c.self.invariant.exact (available_class _ c.args.class c.args.kind c.args.page c.laws.ensures.laid (rw (← c.self.view_is) at c.requires.cell)) (rw (← c.self.view_is) at c.requires.cell) (rw (← c.self.view_is) at c.requires.swept) (rw c.if-taken.false at t.full))

pub returns-then-taken-clause-allocates : goal.returns-then-taken-clause-allocates
returns-then-taken-clause-allocates c marks =
    let t = c.take_many-taken.ensures in
    let s : Store = store_with c.self.inside.memory c.self.inside.table in
    let each = allocates_each s _ _ c.self.invariant c.args.class c.args.kind c.args.page ((rw (← c.self.view_is) at c.requires.cell), (rw (← c.self.view_is) at c.requires.swept)) _ _ t.takes _ c.write_bases.ensures.zeroes marks in
    let count = length-take-le c.take_many-taken.result.count c.take_many-taken.new.cells t.few in
    rw (← c.self.view_is) (subst (λ bases. AllocatesEach marks (Small c.args.class) c.args.kind s bases (record s { words = c.write_bases.new.memory; states = c.take_many-taken.new.self }))
    (sym (ap (λ n. take n c.write_bases.new.bases) (sym count) ∙ c.write_bases.ensures.bases)) each)

pub returns-else-taken-clause-allocates : goal.returns-else-taken-clause-allocates
returns-else-taken-clause-allocates c marks =
    let t = c.take_many-taken.ensures in
    let s : Store = store_with c.self.inside.memory c.self.inside.table in
    let each = allocates_each s _ _ c.self.invariant c.args.class c.args.kind c.args.page ((rw (← c.self.view_is) at c.requires.cell), (rw (← c.self.view_is) at c.requires.swept)) _ _ t.takes _ c.write_bases.ensures.zeroes marks in
    let count = length-take-le c.take_many-taken.result.count c.take_many-taken.new.cells t.few in
    rw (← c.self.view_is) (subst (λ bases. AllocatesEach marks (Small c.args.class) c.args.kind s bases (record s { words = c.write_bases.new.memory; states = c.take_many-taken.new.self }))
    (sym (ap (λ n. take n c.write_bases.new.bases) (sym count) ∙ c.write_bases.ensures.bases)) each)

-- where there is room for a base there is room for a cell
room_left : (most bases : ℕ) (row cells : List ℕ) → most ≡ min bases 32 → 0 < bases → length row ≡ 32 → length cells ≡ length (take most row) → 0 < length cells
room_left most bases row cells least some long size = let taken = length-take-le most row (omega arith) in omega arith

pub returns-then-taken-clause-some : goal.returns-then-taken-clause-some
returns-then-taken-clause-some c = λ some.
    let t = c.take_many-taken.ensures in
    let size = c.write_bases.ensures.size in
    some_taken c.args.class c.args.kind c.args.page _ _ _ c.take_many-taken.new.cells c.take_many-taken.result.count (rw (← c.self.view_is) at c.requires.cell) t.takes t.short
    (room_left c.min.result (length c.args.bases.now) _ c.take_many-taken.new.cells c.min.ensures (omega arith) refl t.size)

pub returns-else-taken-clause-some : goal.returns-else-taken-clause-some
returns-else-taken-clause-some c = λ some.
    let t = c.take_many-taken.ensures in
    let size = c.write_bases.ensures.size in
    some_taken c.args.class c.args.kind c.args.page _ _ _ c.take_many-taken.new.cells c.take_many-taken.result.count (rw (← c.self.view_is) at c.requires.cell) t.takes t.short
    (room_left c.min.result (length c.args.bases.now) _ c.take_many-taken.new.cells c.min.ensures (omega arith) refl t.size)
