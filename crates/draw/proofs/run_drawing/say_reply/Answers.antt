use Rattle.std.proofs.Common.{◌∙◌, ap, List, ℕ, ◌++◌}
use Rattle.std.specs.Prelude.{codes}
use Rattle.draw.proofs.run_drawing.say_reply.Goals as goal

pub returns : goal.returns
returns c = rw c.in-Some.is (c.in_ok-sentence.sentence, c.in_ok-push.ensures.items, c.in_ok-sentence.ensures.ok ∙ ap (λ (text : List ℕ). codes "a sequential heap answers " ++ text) c.in_ok-text.ensures)
