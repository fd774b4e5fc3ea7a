use Rattle.std.proofs.Common.{◌<◌, ℕ, vec_len}
use Rattle.std.specs.Prelude.{slice_index_or}
use Rattle.final_pause.specs.Pauses.{pause_view}
use Rattle.final_pause.specs.declared.helper.Helper.{Helper}
use Rattle.final_pause.specs.Serving.{HasServed}
use Rattle.final_pause.specs.Gathering.{HasGathered}
use Rattle.final_pause.proofs.crew.gather.Given as goal

abbrev pub invariant-loop-helper : goal.invariant-loop-helper
invariant-loop-helper l = record {
  gathered : HasGathered (pause_view l.pause) (vec_len l.crew) l.first l.dirty l.carried;
  done : (i : ℕ) (d : Helper) → i < vec_len l.crew → HasServed (pause_view l.pause) i (slice_index_or l.crew.items i d);
}

abbrev pub decreases-loop-helper : goal.decreases-loop-helper
decreases-loop-helper l = vec_len l.crew
