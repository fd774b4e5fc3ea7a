use Rattle.std.proofs.Common.{◌-◌, ◌≤◌}
use Rattle.mark_bits.specs.Tables.{view}
use Rattle.final_pause.specs.Pauses.{pause_view}
use Rattle.final_pause.specs.Serving.{GoesOnServing, IsRunRead}
use Rattle.final_pause.proofs.share.Pause.read_entry.Given as goal

abbrev pub invariant-loop-next : goal.invariant-loop-next
invariant-loop-next g l = record {
  serves : GoesOnServing (pause_view l.self) l.fn.helper l.helper;
  read : IsRunRead (pause_view l.self) (view l.helper.claimer) l.helper.carried l.fn.helper.place l.number l.found l.fn.entry.next l.next;
  within : l.next ≤ l.found.len;
}

abbrev pub decreases-loop-next : goal.decreases-loop-next
decreases-loop-next g l = l.found.len - l.next
