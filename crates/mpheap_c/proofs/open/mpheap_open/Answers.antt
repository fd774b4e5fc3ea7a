use Rattle.std.proofs.Common.{refl, ap, ◌∙◌}
use Rattle.mpheap_c.specs.Crossing.IsOpenedAs.{opened}
use Rattle.std.specs.Prelude.{Some}
use Rattle.heap_core.specs.CoreContents.{CoreContents}
use Rattle.mpheap_c.specs.declared.handle.Handle.{Handle}
use Rattle.mpheap_c.proofs.open.mpheap_open.Goals as goal

pub returns-in-Ok-new : goal.returns-in-Ok-new
returns-in-Ok-new c = opened _ refl c.in-Ok.ensures.0 c.in-Ok.ensures.1 (ap (λ (h : Handle CoreContents). h.value) c.replace.ensures.after ∙ c.of.ensures ∙ ap Some c.in-Ok-new.ensures.ok)
