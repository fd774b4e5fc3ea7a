use Rattle.std.proofs.Common.{rules, ◌≡◌, ◌+◌, ◌≤◌, true, length, ap, sym, subst, ◌∙◌, arith}
use Rattle.std.proofs.lemmas.List.{length-append}
use Rattle.final_pause.specs.declared.round.Round.{Round}
use Rattle.std.proofs.lemmas.Bool.{false≢true}
use Rattle.final_pause.specs.Pauses.{PauseView}
use Rattle.final_pause.specs.Rounds.{helpers_of, AreServing, AreServed}
use Rattle.heap_core.specs.CoreContents.{CoreContents}
use Rattle.heap_core.specs.Sharing.{Sharing, core_view}
use Rattle.heap_core.proofs.Sharing.{serving_append, served_append}
use Rattle.heap_core.proofs.heap.shares.Shares.join.Goals as goal
use Rattle.heap_core.proofs.heap.shares.Shares.join.Goals.{then-self, else-self}

pub invariant_of-self-2 : goal.invariant_of-self-2
invariant_of-self-2 c =
    let mine = c.self.inside in let other = c.other.inside in
    let i = c.self.invariant in let o = c.other.invariant in
    let lent = mine.lent.value in let p = core_view lent.core.value lent.round in
    let core : other.lent.value.core.value ≡ lent.core.value = ap (λ (s : Sharing). s.core) c.other.view_is ∙ (c.requires.same.core ∙ sym (ap (λ (s : Sharing). s.core) c.self.view_is)) in
    let round : other.lent.value.round ≡ lent.round = ap (λ (s : Sharing). s.round) c.other.view_is ∙ (c.requires.same.round ∙ sym (ap (λ (s : Sharing). s.round) c.self.view_is)) in
    let next : other.from ≡ mine.from + length mine.crew.items = search rules in
    let is = c.in-Ok.ensures.items in
    let here : core_view other.lent.value.core.value other.lent.value.round ≡ p = ap (λ (c : CoreContents). core_view c other.lent.value.round) core ∙ ap (core_view lent.core.value) round in
    let serving : AreServing p other.from other.crew.items = subst (λ (v : PauseView). AreServing v other.from other.crew.items) here o.serving in
    let served : other.is_done ≡ true → AreServed p other.from other.crew.items = λ done. subst (λ (v : PauseView). AreServed v other.from other.crew.items) here (o.served done) in
    record {
      marking = i.marking;
      round = i.round;
      serving = serving_append p mine.from other.from mine.crew.items other.crew.items c.append.new.self.items next is i.serving serving;
      inside =
          let theirs : other.from + length other.crew.items ≤ helpers_of lent.round = subst (λ (r : Round). other.from + length other.crew.items ≤ helpers_of r) round o.inside in
          let size : length c.append.new.self.items ≡ length mine.crew.items + length other.crew.items = ap length is ∙ length-append mine.crew.items other.crew.items in
          omega (arith, theirs, next, size);
      room = let more = c.append.ensures.capacity in let least = i.room in omega (arith, more, least);
      served = λ done. elim c.if-self.branch [
        | then-self w ↦ served_append p mine.from other.from mine.crew.items other.crew.items c.append.new.self.items next is (i.served w.if-self.true) (served (sym w.self-is ∙ done))
        | else-self w ↦ absurd (false≢true (sym w.if-self.false ∙ (sym w.self-is ∙ done)))
      ];
    }
