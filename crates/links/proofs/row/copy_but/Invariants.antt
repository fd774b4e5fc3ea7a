use Rattle.std.proofs.Common.{◌≡◌, ◌≤◌, length, take}
use Rattle.links.specs.Rows.{but_at}
use Rattle.links.proofs.row.copy_but.Given as goal

-- so far, and no more than there were
abbrev pub invariant-loop-link : goal.invariant-loop-link
invariant-loop-link l = record { items : l.into.items ≡ but_at (take l.link-index l.row) l.address; few : length l.into.items ≤ l.link-index }
