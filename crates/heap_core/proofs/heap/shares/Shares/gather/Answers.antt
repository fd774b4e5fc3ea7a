use Rattle.std.proofs.Common.{rules, ◌≡◌, ℕ, true, refl, ap, subst, ◌∙◌}
use Rattle.final_pause.specs.Rounds.{AreServed}
use Rattle.heap_core.specs.Sharing.{Sharing, core_view}
use Rattle.heap_core.proofs.heap.shares.Shares.gather.Goals as goal

pub gather-requires-clause-served : goal.gather-requires-clause-served
gather-requires-clause-served c =
    let lent = c.self.inside.lent.value in let crew = c.self.inside.crew.items in
    let is = c.self.view_is ∙ c.help-read.ensures.done.same in
    let done : c.self.inside.is_done ≡ true = ap (λ (s : Sharing). s.is_done) is in
    let from : c.self.inside.from ≡ 0 = ap (λ (s : Sharing). s.from) is ∙ (c.if-not-are_all.ensures.yes refl).0 in
    let served : AreServed (core_view lent.core.value lent.round) 0 crew = subst (λ (n : ℕ). AreServed (core_view lent.core.value lent.round) n crew) from (c.self.invariant.served done) in
    search rules
