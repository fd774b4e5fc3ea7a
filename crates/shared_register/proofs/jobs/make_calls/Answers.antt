use Rattle.std.proofs.Common.{◌∙◌, sym, ap, subst, refl, List, [], ◌∷◌, ◌++◌, append_assoc, take, get_or}
use Rattle.std.proofs.Math.ListN.{length-set}
use mathlib.Core.List.{IsPrefix}
use Rattle.history.specs.declared.made.Made.{Made}
use Rattle.history.specs.Histories.{event}
use Rattle.history.proofs.Fronts.{prefix_more, prefix_trans}
use Rattle.shared_register.specs.declared.register.Call.{Call}
use Rattle.shared_register.specs.declared.register.Call.TheVariants.{Attach}
use Rattle.shared_register.specs.declared.register.Reply.{Reply}
use Rattle.shared_register.specs.LockedCalls.{events}
use Rattle.shared_register.proofs.Chains.{events_more}
use Rattle.shared_register.proofs.jobs.make_calls.Goals as goal

pub loop-i-preserved : goal.loop-i-preserved
loop-i-preserved g c =
    let i = c.loop-i.invariant in
    let k = c.call.ensures in
    let n = c.loop-i.i in
    let calls = c.args.calls.now in
    let e = event c.args.me.now.slot (get_or calls n Attach) c.call.result in
    let here : IsPrefix c.loop-i.me.seen c.call.new.me.seen = subst (λ (l : List (Made Call Reply)). IsPrefix c.loop-i.me.seen l) (sym k.seen) (prefix_more c.loop-i.me.seen (c.loop-i.me.seen ++ k.between) (event c.loop-i.me.slot (get_or calls n Attach) c.call.result ∷ []) (k.between, refl)) in
    let more = events_more c.args.me.now.slot calls c.loop-i.replies n Attach c.call.result c.loop-i-test.true i.room in
    record {
      room = length-set c.loop-i.replies n c.call.result ∙ i.room;
      ran = record {
        slot = k.slot ∙ i.ran.slot;
        seen = prefix_trans c.args.me.now.seen c.loop-i.me.seen c.call.new.me.seen i.ran.seen here;
        mine = k.mine ∙ ((λ j. i.ran.mine j ++ event (i.ran.slot j) (get_or calls n Attach) c.call.result ∷ []) ∙ (append_assoc c.args.me.now.mine (events c.args.me.now.slot (take n calls) (take n c.loop-i.replies)) (e ∷ []) ∙ ap (λ l. c.args.me.now.mine ++ l) (sym more)));
      };
    }
