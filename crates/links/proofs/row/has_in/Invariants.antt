use Rattle.std.proofs.Common.{◌≡◌, false, take}
use Rattle.links.specs.Rows.{has_at}
use Rattle.links.proofs.row.has_in.Given as goal

-- none so far
abbrev pub invariant-loop-link : goal.invariant-loop-link
invariant-loop-link l = has_at (take l.link-index l.row) l.address ≡ false
