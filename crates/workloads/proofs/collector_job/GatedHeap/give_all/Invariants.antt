use Rattle.std.proofs.Common.{◌≡◌, length, take}
use Rattle.workloads.specs.Actors.{CommandedAll}
use Rattle.workloads.proofs.collector_job.GatedHeap.give_all.Given as goal

abbrev pub invariant-loop-i : goal.invariant-loop-i
invariant-loop-i g l = record { room : length l.replies ≡ length l.commands; commanded : CommandedAll g.J.Naming.origin l.fn.me (take l.i l.commands) (take l.i l.replies) l.me }
