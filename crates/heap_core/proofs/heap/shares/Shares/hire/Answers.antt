use Rattle.std.proofs.Common.{◌≡◌, ℕ, ◌+◌, ◌++◌, ◌∷◌, [], List, length, refl, ap, subst, sym, ◌∙◌, arith}
use Rattle.std.proofs.lemmas.List.{length-append}
use Rattle.final_pause.specs.declared.helper.Helper.{Helper}
use Rattle.final_pause.specs.Rounds.{helpers_of}
use Rattle.final_pause.specs.Serving.{HasServed}
use Rattle.heap_core.specs.declared.heap.lent.Lent.{Lent}
use Rattle.heap_core.specs.Sharing.{IsSharing, core_view}
use Rattle.heap_core.proofs.Sharing.{sharing, serving_front, serving_last, serving_one, served_front, served_last, served_one}
use Rattle.heap_core.proofs.heap.shares.Shares.hire.Goals as goal

pub invariant_of-result : goal.invariant_of-result
invariant_of-result c =
    let i = c.self.invariant in let lent = c.self.inside.lent.value in let p = core_view lent.core.value lent.round in
    let front = c.pop.new.self.items in let h = c.in-Some.helper in let all = c.self.inside.crew.items in
    let is : all ≡ front ++ h ∷ [] = c.in-Some.ensures.items in
    let alone : c.push.new.self.items ≡ h ∷ [] = c.in-Ok.ensures.items ∙ ap (λ (l : List Helper). l ++ h ∷ []) c.in_ok-crew.ensures.items in
    let last = serving_last p c.self.inside.from front all h is i.serving in
    let at : c.place-from.result ≡ c.self.inside.from + length front = c.place-from.ensures ∙ last.1 in
    let mine : IsSharing (record { core = lent.core.value; round = lent.round; crew = c.push.new.self.items; from = c.place-from.result; is_done = c.self.inside.is_done }) c.push.new.self.cap = record {
      marking = i.marking;
      round = i.round;
      serving = serving_one p h c.place-from.result c.push.new.self.items alone last.0 (sym c.place-from.ensures);
      inside =
          let size : length all ≡ length front + 1 = ap length is ∙ length-append front (h ∷ []) in
          let one : length c.push.new.self.items ≡ 1 = ap length alone in
          let least = i.inside in omega (arith, size, one, at, least);
      room =
          let number : c.helpers.result ≡ helpers_of lent.round = c.helpers.ensures ∙ ap (λ (l : Lent). helpers_of l.round) c.deref.ensures in
          let wide = c.from-room.ensures in let exact = c.in_ok-crew.ensures.exact in let more = c.push.ensures.capacity in
          omega (arith, number, wide, exact, more);
      served = λ done. served_one p h c.place-from.result c.push.new.self.items alone (subst (λ (n : ℕ). HasServed p n h) (sym at) (served_last p c.self.inside.from front all h is (i.served done)));
    } in
    subst (λ (l : Lent). IsSharing (record { core = l.core.value; round = l.round; crew = c.push.new.self.items; from = c.place-from.result; is_done = c.self.inside.is_done }) c.push.new.self.cap) (sym c.in_ok-lent.ensures) mine

pub invariant_of-self-2 : goal.invariant_of-self-2
invariant_of-self-2 c =
    let i = c.self.invariant in let lent = c.self.inside.lent.value in let p = core_view lent.core.value lent.round in record {
      marking = i.marking;
      round = i.round;
      serving = serving_front p c.self.inside.from c.pop.new.self.items (c.in-Some.helper ∷ []) c.self.inside.crew.items c.in-Some.ensures.items i.serving;
      inside =
          let size : length c.self.inside.crew.items ≡ length c.pop.new.self.items + 1 = ap length c.in-Some.ensures.items ∙ length-append c.pop.new.self.items (c.in-Some.helper ∷ []) in
          let least = i.inside in omega (arith, size, least);
      room = let same = c.pop.ensures.capacity in let least = i.room in omega (arith, same, least);
      served = λ done. served_front p c.self.inside.from c.pop.new.self.items (c.in-Some.helper ∷ []) c.self.inside.crew.items c.in-Some.ensures.items (i.served done);
    }

pub returns-clause-ok : goal.returns-clause-ok
returns-clause-ok c =
    let front = c.pop.new.self.items in let h = c.in-Some.helper in
    let same = c.in_ok-lent.ensures in let lent = c.self.inside.lent.value in
    let last = serving_last (core_view lent.core.value lent.round) c.self.inside.from front c.self.inside.crew.items h c.in-Some.ensures.items c.self.invariant.serving in
    let alone : c.push.new.self.items ≡ h ∷ [] = c.in-Ok.ensures.items ∙ ap (λ (l : List Helper). l ++ h ∷ []) c.in_ok-crew.ensures.items in
    rw (← c.self.view_is) (record {
      rest = refl;
      last = ap (λ (l : Lent). sharing l.core.value l.round c.push.new.self.items c.place-from.result c.self.inside.is_done) same
          ∙ ap (λ (n : ℕ). sharing lent.core.value lent.round c.push.new.self.items n c.self.inside.is_done) (c.place-from.ensures ∙ last.1);
      crew = c.in-Some.ensures.items ∙ ap (λ (l : List Helper). front ++ l) (sym alone);
      single = ap length alone;
    })
