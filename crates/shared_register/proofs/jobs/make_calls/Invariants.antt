use Rattle.std.proofs.Common.{◌≡◌, length, take}
use Rattle.shared_register.specs.LockedCalls.{Ran}
use Rattle.shared_register.proofs.jobs.make_calls.Given as goal

abbrev pub invariant-loop-i : goal.invariant-loop-i
invariant-loop-i g l = record { room : length l.replies ≡ length l.calls; ran : Ran l.initial.me (take l.i l.calls) (take l.i l.replies) l.me }
