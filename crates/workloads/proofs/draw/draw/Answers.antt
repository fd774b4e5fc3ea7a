use Rattle.std.proofs.Common.{◌≡◌, ◌+◌, ◌<◌, ◌≤◌, ◌%◌, subst}
use Rattle.workloads.proofs.Drawing.{draws_call, draws_collection}
use Rattle.workloads.proofs.draw.draw.Goals as goal

pub returns-in-Some : goal.returns-in-Some
returns-in-Some c =
    draws_call c.args.mutators c.args.x0 c.args.x1 c.args.x2 c.args.x3 c.in-Some.slot _ _ c.call.result
    (subst (λ m. c.args.x0 % (m + 1) < m) c.from-mutators.ensures c.if-actor-mutators.true) (subst (λ m. c.in-Some.slot ≡ c.args.x0 % (m + 1)) c.from-mutators.ensures c.in-Some.ensures.0)
    c.register.ensures c.register-then-actor-mutators.ensures c.call.ensures

pub returns-else-actor-mutators : goal.returns-else-actor-mutators
returns-else-actor-mutators c =
    draws_collection c.args.mutators c.args.x0 c.args.x1 c.args.x2 c.args.x3 c.collection.result (subst (λ m. m ≤ c.args.x0 % (m + 1)) c.from-mutators.ensures c.if-actor-mutators.false) c.collection.ensures
