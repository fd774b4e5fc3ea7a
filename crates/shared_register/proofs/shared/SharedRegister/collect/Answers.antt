use Rattle.std.proofs.Common.{◌≡◌, rules}
use Rattle.shared_register.specs.declared.register.Call.TheVariants.{Collect}
use Rattle.shared_register.specs.declared.register.Reply.TheVariants.{Done}
use Rattle.shared_register.specs.LockedCalls.{Extends}
use Rattle.shared_register.proofs.shared.SharedRegister.collect.Goals as goal

pub returns : goal.returns
returns g c =
    let st = c.object-object.ensures.stands in
    let said : c.act.result ≡ Done = (c.act.ensures.step st.state st.stood_for).1.0 in
    let by_reply : Extends g.J.Naming.origin c.args.me.now Collect c.act.result c.act.new.pass = search rules in
    rw (← said) by_reply
