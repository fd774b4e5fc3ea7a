use Rattle.std.specs.Prelude.{◌≡◌, ℕ, ◌+◌, ◌<◌, ◌≤◌, All, get_or, vec_items, vec_len}
use Rattle.std.specs.Vec.{vec_capacity}
use Rattle.std.specs.Vec.Iter.{into_iter_items, into_iter_len}
use Rattle.each_law.proofs.starting.start_all.Given as goal

abbrev pub invariant-loop-job : goal.invariant-loop-job
invariant-loop-job g l =
    let started = vec_len l.running in let rest = l.job-iterator in let first = l.initial.job-iterator in
    (started + into_iter_len rest ≡ into_iter_len first)
    × ((k : ℕ) (e : _) → k < into_iter_len rest → get_or (into_iter_items rest) k e ≡ get_or (into_iter_items first) (started + k) e)
    × ((k : ℕ) (d : _) (e : _) → k < started → ((get_or (vec_items l.running) k d).promise.job.value ≡ get_or (into_iter_items first) k e) × ((get_or (vec_items l.running) k d).promise.law.value ≡ l.law))
    × (into_iter_len first ≤ vec_capacity l.running)
    × All (λ j. g.F.Fn.pre l.work (j, tt)) (into_iter_items rest)
