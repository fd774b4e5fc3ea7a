use Rattle.std.proofs.Common.{◌-◌}
use Rattle.block_map.specs.States.{large_states, IsSpanSet}
use Rattle.block_map.proofs.page_list.PageList.fill_large.Given as goal

abbrev pub invariant-loop-q : goal.invariant-loop-q
invariant-loop-q l = IsSpanSet l.initial.self l.self l.first (l.q - l.first) (large_states l.first l.count l.kind)
