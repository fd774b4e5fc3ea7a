use Rattle.std.proofs.Common.{◌∙◌}
use Rattle.words.proofs.Classes.{class_has_number}
use Rattle.words.proofs.class.Class.index.Goals as goal

pub returns : goal.returns
returns c = rw (← c.self.view_is) (class_has_number _ _ c.self.invariant.0 (c.from.ensures ∙ c.self.invariant.1))
