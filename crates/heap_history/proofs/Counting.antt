-- Collections of a longer history.
use Rattle.std.proofs.Common.{◌≤◌, List, [], ◌∷◌, ◌++◌, ap, arith}
use mathlib.Core.List.{IsPrefix}
use Rattle.history.specs.Histories.{count}
use Rattle.heap_history.specs.Ranks.{rank_of}
use Rattle.heap_history.specs.Passes.{MadeEvent, HeapPass}

count_more : (es more : List MadeEvent) → count rank_of es ≤ count rank_of (es ++ more)
count_more [] more = omega arith
count_more (e ∷ es) more = let h = count_more es more in omega arith

pub count_grows : (old new : HeapPass) → IsPrefix old.seen new.seen → count rank_of old.seen ≤ count rank_of new.seen
count_grows old new before = let h = count_more old.seen before.0 in let whole = ap (count rank_of) before.1 in omega arith
