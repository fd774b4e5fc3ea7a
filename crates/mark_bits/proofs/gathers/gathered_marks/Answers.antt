use Rattle.mark_bits.proofs.Gathered.{distinct, gathered-each, gathered-start, gathered-won, won_once}
use Rattle.mark_bits.proofs.gathers.gathered_marks.Goals as goal

pub returns-clause-each : goal.returns-clause-each
returns-clause-each c k h = gathered-each _ _ _ c.requires k h

pub returns-clause-start : goal.returns-clause-start
returns-clause-start c k h = gathered-start _ _ _ c.requires k h

pub returns-clause-won : goal.returns-clause-won
returns-clause-won c k h = gathered-won _ _ _ c.requires k h

pub returns-clause-once : goal.returns-clause-once
returns-clause-once c = distinct _ (λ k. won_once _ _ _ c.requires k)
