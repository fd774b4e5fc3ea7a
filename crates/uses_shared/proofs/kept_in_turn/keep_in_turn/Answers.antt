use Rattle.std.proofs.Common.{◌≤◌, ℕ, [], ◌∷◌, refl, subst, arith}
use Rattle.std.proofs.lemmas.List.Elements.{All-nil, All-cons, All-head, All-tail, All-weaker}
use mathlib.Core.List.{IsPrefix}
use Rattle.std.specs.Prelude.{Result, IfOk}
use Rattle.history.proofs.Fronts.{prefix_self}
use Rattle.words.specs.declared.refusal.Refusal.{Refusal}
use Rattle.heap_history.specs.Passes.{HeapPass}
use Rattle.heap_history.specs.Headline.{Departs}
use Rattle.heap_history.specs.Alone.{attaches}
use Rattle.heap_history.specs.InTurn.{IsBefore, AreInTurn, CameWhole}
use Rattle.heap_history.specs.Laws.{KeptToOwn}
use Rattle.heap_history.specs.OwnObjects.{nothing_known, AreAsKnown}
use Rattle.uses_shared.specs.Keeping.{PutsAndLoads, HasKept}
use Rattle.uses_shared.proofs.Keeping.{settled_kept, settled_loaded, left_kept, left_loaded}
use Rattle.uses_shared.proofs.kept_in_turn.keep_in_turn.Goals as goal

pub returns : goal.returns
returns g c =
    let pages = g.J.Naming.origin in
    let words = c.args.words in
    let loaded = c.in-Ok-Ok.first in
    let loaded' = c.in-Ok-Ok.second in
    let start : HeapPass = c.in-Ok.one in
    let one : HeapPass = c.keep-first.new.me in
    let gone : HeapPass = c.depart-gone.result in
    let start' : HeapPass = c.in-Ok-attach.other in
    let other : HeapPass = c.keep-second.new.me in
    let all : HeapPass = c.settle-came.new.me in
    let has : HasKept pages words.0 loaded one = record {
      start = start;
      begun = c.in-Ok.ensures;
      does = subst (λ (r : Result ℕ Refusal). IfOk r (λ w. PutsAndLoads pages words.0 w start one)) c.in-Ok-Ok.is-0 c.keep-first.ensures;
    } in
    let has' : HasKept pages words.1 loaded' other = record {
      start = start';
      begun = c.in-Ok-attach.ensures;
      does = subst (λ (r : Result ℕ Refusal). IfOk r (λ w. PutsAndLoads pages words.1 w start' other)) c.in-Ok-Ok.is-1 c.keep-second.ensures;
    } in
    let left : Departs pages one gone = c.depart-gone.ensures in
    let settled = c.settle-came.ensures.me in
    let heard : IsPrefix gone.seen all.seen = c.settle-came.ensures.heard in
    let before : IsBefore gone all = c.left_before.ensures pages gone all all left.fine settled.fine heard refl (prefix_self all.seen) in
    let turn : AreInTurn (gone ∷ all ∷ []) = (All-cons (IsBefore gone) all [] before (All-nil (IsBefore gone)), (All-nil (IsBefore all), tt)) in
    let kept = All-cons (KeptToOwn pages all.seen) gone (all ∷ []) (left_kept pages words.0 loaded one gone has left all.seen heard)
    (All-cons (KeptToOwn pages all.seen) all [] (settled_kept pages words.1 loaded' other all all.seen has' settled) (All-nil (KeptToOwn pages all.seen))) in
    let whole = All-weaker (KeptToOwn pages all.seen) (CameWhole pages all.seen) (λ p k. record { mutator = k.mutator; known = k.known }) (gone ∷ all ∷ []) kept in
    let two = c.if-came-ne2.false in
    let count = c.settle-came.ensures.came in
    let few : attaches all.seen ≤ 2 = omega (arith, two, count) in
    let alone = c.nobody_else_came_in_turn.ensures pages all.seen (gone ∷ all ∷ []) settled.fine.legal turn whole few in
    let known = c.own_words_as_known_in_turn.ensures pages all.seen (gone ∷ all ∷ []) settled.fine.legal alone kept in
    let Is = λ (p : HeapPass). AreAsKnown nothing_known p.mine in
    let first = left_loaded pages words.0 loaded one gone has left (All-head Is gone (all ∷ []) known) in
    let second = settled_loaded pages words.1 loaded' other all all.seen has' settled (All-head Is all [] (All-tail Is gone (all ∷ []) known)) in
    λ j. (first j, second j)
