use Rattle.std.proofs.Common.{refl, arith}
use Rattle.words.proofs.Counts.{count_small, rest_counted}
use Rattle.dirty_pages.proofs.summary.SummedWords.ones.Goals as goal

pub returns : goal.returns
returns c = rest_counted _ _ _ _ _ _ c.ones_below-count.ensures (omega arith) refl c.at.ensures

pub overflow_add-result : goal.overflow_add-result
overflow_add-result c = let most = count_small _ _ _ _ (returns c) in let few = c.requires.few in record { fits = omega arith }
