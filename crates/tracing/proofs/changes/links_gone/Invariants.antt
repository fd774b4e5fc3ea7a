use Rattle.std.proofs.Common.{◌≡◌, take}
use Rattle.tracing.specs.Links.{links_gone}
use Rattle.tracing.proofs.changes.links_gone.Given as goal

-- of the links so far those are there that stand no more
abbrev pub invariant-loop-link : goal.invariant-loop-link
invariant-loop-link l = l.gone.items ≡ links_gone (take l.link-index l.old) l.new
