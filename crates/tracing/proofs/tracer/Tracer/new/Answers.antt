use Rattle.std.proofs.Common.{◌∙◌, ap}
use Rattle.replayer.specs.ReplayerContents.{ReplayerContents}
use Rattle.tracing.proofs.tracer.Tracer.new.Goals as goal

pub returns : goal.returns
returns c = record {
  replayer = rw (c.replayer.view_is) (c.in_ok-replayer.ensures.opens);
  begins = ap (λ (r : ReplayerContents). r.heap.origin) c.replayer.view_is ∙ c.in_ok-replayer.ensures.origin;
  room = c.in_ok-flags_for.ensures;
  pages = c.in_ok-page_numbers.ensures;
  seen = c.nothing.ensures;
  waiting = c.new-2.ensures.items;
}
