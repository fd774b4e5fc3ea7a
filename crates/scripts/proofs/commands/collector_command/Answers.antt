use Rattle.scripts.proofs.FirstWords.{no_verb}
use Rattle.scripts.proofs.commands.collector_command.Goals as goal

pub returns-else-is_text-9 : goal.returns-else-is_text-9
returns-else-is_text-9 c = no_verb _ _ _ c.in_ok-verb.ensures c.if-is_text.ensures c.if-is_text-2.ensures c.if-is_text-3.ensures c.if-is_text-4.ensures c.if-is_text-5.ensures c.if-is_text-6.ensures c.if-is_text-7.ensures c.if-is_text-8.ensures c.if-is_text-9.ensures
