use Rattle.std.proofs.Common.{◌≡◌, ◌≤◌, length, take}
use Rattle.std.specs.Prelude.{filter}
use Rattle.object_space.specs.Kept.{kept_in}
use Rattle.object_space.specs.Along.{TakesAlong, stays}
use Rattle.object_space.proofs.space.ObjectSpace.keep_links.Given as goal

-- so far
abbrev pub invariant-loop-link : goal.invariant-loop-link
invariant-loop-link l = record {
  items : l.into.items ≡ filter (stays (kept_in l.fn.self.states l.fn.self.pending l.marker.marks)) (take l.link-index l.row);
  few : length l.into.items ≤ l.link-index;
  along : TakesAlong (kept_in l.fn.self.states l.fn.self.pending l.marker.marks) (take l.link-index l.row) l.fn.self l.self;
}
