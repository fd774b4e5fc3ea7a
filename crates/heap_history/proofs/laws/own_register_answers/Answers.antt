use Rattle.heap_history.proofs.OwnRegisters.{own_register}
use Rattle.heap_history.proofs.laws.own_register_answers.Goals as goal

pub returns : goal.returns
returns c = own_register
