use Rattle.std.proofs.Common.{◌≡◌, ◌++◌, take}
use Rattle.tracing.specs.Links.{links_came}
use Rattle.tracing.proofs.changes.add_links.Given as goal

-- of the links so far those are added that came
abbrev pub invariant-loop-link : goal.invariant-loop-link
invariant-loop-link l = l.changes.items ≡ l.initial.changes.items ++ links_came l.old (take l.link-index l.new)
