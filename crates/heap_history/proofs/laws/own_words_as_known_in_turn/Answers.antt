use Rattle.heap_history.proofs.OwnInTurn.{own_as_known}
use Rattle.heap_history.proofs.laws.own_words_as_known_in_turn.Goals as goal

pub returns : goal.returns
returns c = own_as_known
