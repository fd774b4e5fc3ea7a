use Rattle.std.specs.Prelude.{◌≡◌, ℕ, ◌+◌, ◌<◌, ◌≤◌, get_or, vec_items, vec_len}
use Rattle.std.specs.Vec.{vec_capacity}
use Rattle.std.specs.Vec.Iter.{into_iter_items, into_iter_len}
use Rattle.each_law.proofs.starting.join_all.Given as goal

abbrev pub invariant-loop-one : goal.invariant-loop-one
invariant-loop-one g l =
    let done = vec_len l.done in let rest = l.one-iterator in let first = l.initial.one-iterator in
    (done + into_iter_len rest ≡ into_iter_len first)
    × ((k : ℕ) (d : _) → k < into_iter_len rest → get_or (into_iter_items rest) k d ≡ get_or (into_iter_items first) (done + k) d)
    × ((k : ℕ) (d : _) (e : _) → k < done → g.L.Law.does (get_or (into_iter_items first) k d).promise.law.value (get_or (into_iter_items first) k d).promise.job.value (get_or (vec_items l.done) k e))
    × (into_iter_len first ≤ vec_capacity l.done)
