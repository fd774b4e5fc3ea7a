use Rattle.std.proofs.Common.{◌≢◌, ◌≤◌, ℕ, [], ◌∷◌, arith, ne_eqb}
use Rattle.std.specs.Prelude.{nat_eq}
use Rattle.std.specs.List.{IsDistinct}
use Rattle.std.proofs.lemmas.List.Elements.{All-nil, All-cons, All-head, All-tail}
use Rattle.heap_history.specs.Passes.{HeapPass}
use Rattle.heap_history.specs.Alone.{attaches, CameIn}
use Rattle.heap_history.specs.Laws.{KeptToOwn}
use Rattle.heap_history.specs.OwnObjects.{nothing_known, AreAsKnown}
use Rattle.uses_shared.proofs.Keeping.{settled_came, settled_kept, settled_loaded}
use Rattle.uses_shared.proofs.kept_words.judge.Goals as goal

two_distinct : (a b : ℕ) → a ≢ b → IsDistinct nat_eq (a ∷ b ∷ [])
unfolding IsDistinct
two_distinct a b ne = ((ne_eqb a b ne, tt), (tt, tt))

pub returns : goal.returns
returns g c =
    let pages = g.J.Naming.origin in
    let words = c.args.words in
    let loaded = c.args.loaded in
    let before : HeapPass = c.args.one.now in
    let before' : HeapPass = c.args.other.now in
    let one : HeapPass = c.settle.new.one in
    let other : HeapPass = c.settle.new.other in
    let all : HeapPass = c.settle.new.collector in
    let settled = c.settle.ensures.one in
    let settled' = c.settle.ensures.other in
    let two = c.if-settle-ne2.false in
    let count = c.settle.ensures.came in
    let few : attaches all.seen ≤ 2 = omega (arith, two, count) in
    let both_came = All-cons (CameIn pages all.seen) one (other ∷ []) (settled_came pages before one all.seen settled) (All-cons (CameIn pages all.seen) other [] (settled_came pages before' other all.seen settled') (All-nil (CameIn pages all.seen))) in
    let both_kept = All-cons (KeptToOwn pages all.seen) one (other ∷ []) (settled_kept pages words.0 loaded.0 before one all.seen c.requires.one settled)
    (All-cons (KeptToOwn pages all.seen) other [] (settled_kept pages words.1 loaded.1 before' other all.seen c.requires.other settled') (All-nil (KeptToOwn pages all.seen))) in
    let alone = c.nobody_else_came.ensures pages all.seen (one ∷ other ∷ []) c.settle.ensures.fine.legal (two_distinct one.slot other.slot c.settle.ensures.apart) both_came few in
    let known = c.own_words_as_known.ensures pages all.seen (one ∷ other ∷ []) c.settle.ensures.fine.legal alone both_kept in
    let Is = λ (p : HeapPass). AreAsKnown nothing_known p.mine in
    let first = settled_loaded pages words.0 loaded.0 before one all.seen c.requires.one settled (All-head Is one (other ∷ []) known) in
    let second = settled_loaded pages words.1 loaded.1 before' other all.seen c.requires.other settled' (All-head Is other [] (All-tail Is one (other ∷ []) known)) in
    λ j. (first j, second j)
