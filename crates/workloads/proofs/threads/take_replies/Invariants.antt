use Rattle.std.specs.Prelude.{◌≡◌, ℕ, ◌+◌, ◌<◌, ◌≤◌, [], get_or, vec_items, vec_len}
use Rattle.std.specs.Vec.{vec_capacity}
use Rattle.std.specs.Vec.Iter.{into_iter_items, into_iter_len}
use Rattle.workloads.proofs.threads.take_replies.Given as goal

abbrev pub invariant-loop-job : goal.invariant-loop-job
invariant-loop-job g l =
    let done = vec_len l.replies in let rest = l.job-iterator in let first = l.initial.job-iterator in
    (done + into_iter_len rest ≡ into_iter_len first)
    × ((k : ℕ) (d : _) → k < into_iter_len rest → get_or (into_iter_items rest) k d ≡ get_or (into_iter_items first) (done + k) d)
    × ((k : ℕ) (d : _) → k < done → get_or (vec_items l.replies) k [] ≡ (get_or (into_iter_items first) k d).replies.items)
    × (into_iter_len first ≤ vec_capacity l.replies)
