use Rattle.std.proofs.Common.{◌≡◌, ℕ, ◌*◌, ◌<◌, ◌≤◌, length}
use Rattle.std.specs.Prelude.{slice_index_or}
use Rattle.final_pause.specs.declared.helper.Helper.{Helper}
use Rattle.final_pause.specs.Helping.{place_of}
use Rattle.final_pause.specs.Serving.{HasServed}
use Rattle.heap_core.specs.Sharing.{core_view}
use Rattle.heap_core.proofs.heap.lent.help_all.Given as goal

abbrev pub invariant-loop-helper : goal.invariant-loop-helper
invariant-loop-helper l = record {
  size : length l.helper-items ≡ length l.fn.crew;
  few : l.read ≤ l.fn.most * l.helper-index;
  done : (i : ℕ) (d : Helper) → i < l.helper-index → HasServed (core_view l.lent.core.value l.lent.round) (place_of (slice_index_or l.fn.crew i d)) (slice_index_or l.helper-items i d);
  rest : (i : ℕ) (d : Helper) → l.helper-index ≤ i → slice_index_or l.helper-items i d ≡ slice_index_or l.fn.crew i d;
}
