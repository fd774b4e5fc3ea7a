use Rattle.heap_history.proofs.OwnWords.{own_word}
use Rattle.heap_history.proofs.laws.own_word_stays.Goals as goal

pub returns : goal.returns
returns c = own_word
