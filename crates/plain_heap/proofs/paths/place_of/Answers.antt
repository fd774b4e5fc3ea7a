use Rattle.std.proofs.Common.{◌≡◌, ℕ, take, refl, sym}
use Rattle.std.proofs.lemmas.List.{take_all}
use Rattle.std.proofs.lemmas.List.Elements.{All-same, All-contains}
use Rattle.plain_heap.proofs.paths.place_of.Goals as goal

pub returns-clause-none : goal.returns-clause-none
returns-clause-none c = λ has.
    let all = All-same (λ (i : ℕ). i ≡ c.args.own → ⊥) c.args.order.now (take c.loop-place.place c.args.order.now)
    (sym (take_all c.loop-place.place c.args.order.now c.loop-place-test.false)) c.loop-place.invariant in
    All-contains (λ (i : ℕ). i ≡ c.args.own → ⊥) c.args.order.now c.args.own all has refl
