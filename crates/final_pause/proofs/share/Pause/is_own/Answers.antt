use Rattle.std.proofs.Common.{inl, rules, ◌≡◌, false}
use Rattle.final_pause.proofs.share.Pause.is_own.Goals as goal

pub returns-then-not-is_inside-clause-other : goal.returns-then-not-is_inside-clause-other
returns-then-not-is_inside-clause-other c = λ e. let f : c.is_inside.result ≡ false = search rules in inl (c.is_inside.ensures.outside f)
