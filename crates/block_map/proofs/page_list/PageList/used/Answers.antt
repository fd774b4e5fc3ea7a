use Rattle.std.proofs.Common.{arith}
use Rattle.block_map.proofs.Padding.{past_made}
use Rattle.block_map.proofs.page_list.PageList.used.Goals as goal

pub returns-clause-past : goal.returns-clause-past
returns-clause-past c = rw (← c.self.view_is)
    (λ k past. past_made c.self.inside.made.items _ k (let ok = c.self.inside.made.ok.0 in let is = c.len.ensures in omega (arith, ok, is, past)))
