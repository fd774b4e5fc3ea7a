use Rattle.draw.proofs.Traces.{broken_trace}
use Rattle.draw.proofs.run_printing.draw_broken.Goals as goal

pub returns : goal.returns
returns g c = broken_trace c.put_cut.result _ _ _ _ _ _ _ c.in-Ok.ensures c.put_cut.ensures
