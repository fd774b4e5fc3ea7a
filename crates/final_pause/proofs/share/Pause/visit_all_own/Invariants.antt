use Rattle.marker.specs.Growth.{TellsStray}
use Rattle.marker.specs.Marking.{bytes_of}
use Rattle.final_pause.specs.Pauses.{pause_view}
use Rattle.final_pause.specs.Helping.{found, own_words, VisitsAll}
use Rattle.final_pause.proofs.share.Pause.visit_all_own.Given as goal

abbrev pub invariant-loop-word : goal.invariant-loop-word
invariant-loop-word g l = record {
  visits : VisitsAll (pause_view l.self) (own_words (pause_view l.self) l.fn.helper.place l.yielded) l.fn.helper l.helper;
  stray : TellsStray (found (pause_view l.self)) (bytes_of l.self.marker.now) (own_words (pause_view l.self) l.fn.helper.place l.yielded) l.stray;
}
