use Rattle.std.proofs.Common.{arith}
use Rattle.object_space.proofs.space.ObjectSpace.count_free.Goals as goal

pub count_free-requires-clause-rest : goal.count_free-requires-clause-rest
count_free-requires-clause-rest c k past inside =
    let agree = c.self.invariant.sound.agree in
    agree.free_in_pool k (let size = agree.size in omega arith) (c.used.ensures.past k past)
