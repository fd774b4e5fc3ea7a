use Rattle.std.proofs.Common.{◌-◌, ◌≤◌, length}
use Rattle.object_space.proofs.Forgets.{HasForgotten}
use Rattle.object_space.proofs.space.ObjectSpace.forget_lazily.Given as goal

-- what is unmarked on the pages below `low` is forgotten
abbrev pub invariant-loop-page : goal.invariant-loop-page
invariant-loop-page l = record {
  few : l.low ≤ length l.self.states;
  done : HasForgotten l.initial.self l.marker.marks l.low l.count l.self;
}

abbrev pub decreases-loop-page : goal.decreases-loop-page
decreases-loop-page l = length l.self.states - l.low
