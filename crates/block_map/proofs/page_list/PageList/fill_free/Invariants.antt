use Rattle.std.proofs.Common.{◌-◌}
use Rattle.block_map.specs.States.{free, IsSpanSet}
use Rattle.block_map.proofs.page_list.PageList.fill_free.Given as goal

abbrev pub invariant-loop-q : goal.invariant-loop-q
invariant-loop-q l = IsSpanSet l.initial.self l.self l.first (l.q - l.first) (λ _. free)
