use Rattle.std.proofs.Common.{◌≡◌, take}
use Rattle.std.specs.Prelude.{map}
use Rattle.tracing.specs.Links.{goes}
use Rattle.tracing.proofs.changes.link_changes.Given as goal

-- the links so far are told as gone
abbrev pub invariant-loop-link : goal.invariant-loop-link
invariant-loop-link l = l.changes.items ≡ map goes (take l.link-index l.link-items)
