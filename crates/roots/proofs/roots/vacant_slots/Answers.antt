use Rattle.std.proofs.Common.{None}
use Rattle.roots.proofs.Vacant.{made_alike}
use Rattle.roots.proofs.roots.vacant_slots.Goals as goal

-- src/roots.rt:35:1
pub returns : goal.returns
returns c = made_alike _ c.try_from_fn.result 16 None c.try_from_fn.ensures.ok (λ p q i y called. search)
