use Rattle.std.proofs.Common.{◌≡◌, length, take}
use Rattle.workloads.specs.Actors.{Called}
use Rattle.workloads.proofs.mutator_job.Gated.make_all.Given as goal

abbrev pub invariant-loop-i : goal.invariant-loop-i
invariant-loop-i g l = record { room : length l.replies ≡ length l.calls; called : Called l.fn.me (take l.i l.calls) (take l.i l.replies) l.me }
