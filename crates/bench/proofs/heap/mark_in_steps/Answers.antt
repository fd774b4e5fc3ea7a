use Rattle.std.proofs.Common.{[], ◌∙◌}
use Rattle.bench.proofs.heap.mark_in_steps.Goals as goal

pub loop-init : goal.loop-init
loop-init c = record { pages = (c.scan_roots.ensures.traces []).dirty_len ∙ c.begin.ensures.pages; objects = c.scan_roots.ensures.objects }
