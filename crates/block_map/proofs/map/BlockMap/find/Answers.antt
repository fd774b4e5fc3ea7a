use Rattle.block_map.proofs.Lawful.{map_laws, answer_is}
use Rattle.block_map.proofs.map.BlockMap.find.Goals as goal

pub returns-clause-answer : goal.returns-clause-answer
returns-clause-answer c = answer_is _ _ _ c.look_up.ensures.laid c.look_up.ensures.found

pub returns-clause-lawful : goal.returns-clause-lawful
returns-clause-lawful c = map_laws _ c.look_up.ensures.laid
