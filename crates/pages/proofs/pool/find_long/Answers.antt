use Rattle.std.proofs.Common.{arith}
use Rattle.pages.proofs.Runs.{search_start, search_more, search_found, search_end}
use Rattle.pages.proofs.pool.find_long.Goals as goal

pub returns-then-end-first : goal.returns-then-end-first
returns-then-end-first c = let long = c.requires.long in search_found _ _ _ _ _ _ c.loop-first.invariant (omega (arith, long)) c.in-Some.ensures c.run_end-end.ensures c.if-end-first.true

pub loop-first-preserved : goal.loop-first-preserved
loop-first-preserved c = let long = c.requires.long in search_more _ _ _ _ _ _ c.loop-first.invariant (omega (arith, long)) c.in-Some.ensures c.run_end-end.ensures c.if-end-first.false

pub returns : goal.returns
returns c = let long = c.requires.long in search_end _ _ _ _ c.loop-first.invariant (omega (arith, long)) c.in_default.ensures

pub loop-first-init : goal.loop-first-init
loop-first-init c = let long = c.requires.long in search_start _ _ _ (omega (arith, long)) c.requires.none
