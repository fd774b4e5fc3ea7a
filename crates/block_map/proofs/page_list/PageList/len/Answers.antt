use Rattle.block_map.proofs.Padding.{len_is}
use Rattle.block_map.proofs.page_list.PageList.len.Goals as goal

pub returns-clause-len : goal.returns-clause-len
returns-clause-len c = len_is _ _ _ c.self.invariant.0 c.self.view_is
