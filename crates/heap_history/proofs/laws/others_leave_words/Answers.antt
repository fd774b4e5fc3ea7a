use Rattle.heap_history.proofs.Others.{undisturbed}
use Rattle.heap_history.proofs.laws.others_leave_words.Goals as goal

pub returns : goal.returns
returns c = undisturbed
