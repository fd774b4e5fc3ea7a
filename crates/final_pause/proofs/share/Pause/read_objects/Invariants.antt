use Rattle.std.proofs.Common.{◌≡◌, ◌+◌, ◌-◌, ◌%◌, ◌≤◌}
use Rattle.words.specs.declared.limits.TheConstants.{WORD_BYTES}
use Rattle.words.specs.Layout.{page_start}
use Rattle.mark_bits.specs.Tables.{view}
use Rattle.final_pause.specs.Pauses.{pause_view}
use Rattle.final_pause.specs.Serving.{GoesOnServing, AreWordsRead}
use Rattle.final_pause.proofs.share.Pause.read_objects.Given as goal

abbrev pub invariant-loop-found : goal.invariant-loop-found
invariant-loop-found g l = record {
  serves : GoesOnServing (pause_view l.self) l.fn.helper l.helper;
  read : AreWordsRead (pause_view l.self) (view l.helper.claimer) l.helper.carried l.fn.helper.place l.number (page_start l.page) l.address;
  from : page_start l.page ≤ l.address;
  within : l.address ≤ page_start (l.page + 1);
  aligned : l.address % WORD_BYTES ≡ 0;
}

abbrev pub decreases-loop-found : goal.decreases-loop-found
decreases-loop-found g l = page_start (l.page + 1) - l.address
