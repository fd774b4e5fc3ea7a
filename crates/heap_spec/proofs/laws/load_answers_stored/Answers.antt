use Rattle.heap_spec.proofs.Loads.{load_stored}
use Rattle.heap_spec.proofs.laws.load_answers_stored.Goals as goal

pub returns : goal.returns
returns c s sound slot m at a n r d s' s'' reply store load = load_stored s sound slot m at store load
