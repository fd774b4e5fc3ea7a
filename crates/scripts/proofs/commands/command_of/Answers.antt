use Rattle.scripts.proofs.FirstWords.{attach_words}
use Rattle.scripts.proofs.commands.command_of.Goals as goal

pub returns-then-is_text : goal.returns-then-is_text
returns-then-is_text c = rw c.in_ok-first.ensures (attach_words _ _ _ _ c.if-is_text.ensures c.is_done.ensures c.then_some.ensures)
