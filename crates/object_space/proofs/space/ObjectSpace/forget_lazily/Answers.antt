use Rattle.std.proofs.Common.{◌+◌, length, sym, ap, subst, arith}
use Rattle.words.specs.Bits.{Has}
use Rattle.lazy_sweep.specs.Store.{Agree}
use Rattle.object_space.specs.Store.{Store}
use Rattle.object_space.proofs.Forgets.{HasForgotten, forgotten_none, forgotten_more, forgotten_to, forgotten_all}
use Rattle.object_space.proofs.space.ObjectSpace.forget_lazily.Goals as goal

pub loop-page-init : goal.loop-page-init
loop-page-init c = record { few = omega arith; done = forgotten_none c.args.self.now c.args.marker.now.marks c.requires.swept }

pub loop-page-preserved : goal.loop-page-preserved
loop-page-preserved c =
    let i = c.loop-page.invariant in
    let first = c.in-Some.ensures in
    let agree : Agree c.loop-page.self.free c.loop-page.self.states = subst (λ (t : Store). Agree t.free t.states) c.self-in-loop-page.view_is c.self-in-loop-page.invariant.sound.agree in
    let row = ap (λ (t : Store). t.free) c.self-in-loop-page.view_is in
    let here = forgotten_to c.args.self.now c.args.marker.now.marks c.loop-page.low c.loop-page.count c.loop-page.self c.laws.ensures.lawful.map c.forget_on.ensures.lawful agree i.done
    c.in-Some.page first.from (λ p from below. subst (λ r. Has r p) row (first.least p from below)) in
    let after = forgotten_more c.args.self.now c.args.marker.now.marks c.in-Some.page c.loop-page.count c.loop-page.self c.laws.ensures.lawful.map c.forget_on.ensures.lawful.map here
    c.forget_on.result c.forget_on.new.self c.forget_on.ensures.forgets in
    record {
      few = let inside = first.inside in let long = ap length row in let size = agree.size in let was = i.done.pages in let now = after.pages in omega arith;
      done = subst (λ k. HasForgotten c.args.self.now c.args.marker.now.marks (c.in-Some.page + 1) (c.loop-page.count + k) c.forget_on.new.self) (sym c.from-count.ensures) after;
    }

pub returns : goal.returns
returns c =
    let i = c.loop-page.invariant in
    let agree : Agree c.loop-page.self.free c.loop-page.self.states = subst (λ (t : Store). Agree t.free t.states) c.self-in-loop-page.view_is c.self-in-loop-page.invariant.sound.agree in
    let row = ap (λ (t : Store). t.free) c.self-in-loop-page.view_is in
    let was = i.done.pages in
    forgotten_all c.args.self.now c.args.marker.now.marks c.loop-page.count c.loop-page.self c.laws.ensures.lawful c.laws-2.ensures.pending
    (forgotten_to c.args.self.now c.args.marker.now.marks c.loop-page.low c.loop-page.count c.loop-page.self c.laws.ensures.lawful.map c.laws-2.ensures.lawful agree i.done
    (length c.args.self.now.states) (let few = i.few in omega arith)
    (λ p from below. subst (λ r. Has r p) row (c.in_default.ensures p from (let long = ap length row in let size = agree.size in omega arith))))
