use Rattle.heap_history.proofs.Others.{undisturbed_in_turn}
use Rattle.heap_history.proofs.laws.others_leave_words_in_turn.Goals as goal

pub returns : goal.returns
returns c = undisturbed_in_turn
