use Rattle.std.proofs.Common.{ℕ, take, sym}
use Rattle.std.proofs.lemmas.List.{take_all}
use Rattle.std.proofs.lemmas.List.Elements.{All-more, All-same, Contains-get_or}
use Rattle.plain_heap.specs.Keepers.{HasNoLink}
use Rattle.plain_heap.proofs.directory.Directory.link_into.Goals as goal

pub link_at-requires-clause-within : goal.link_at-requires-clause-within
link_at-requires-clause-within c = c.requires.below _ (Contains-get_or c.args.order.now c.loop-next.next 0 c.loop-next-test.true)

pub loop-next-preserved : goal.loop-next-preserved
loop-next-preserved c =
    All-more (λ (i : ℕ). HasNoLink c.args.self.now.origin c.args.words.now c.args.self.now.objects.items c.args.own c.args.object i) c.args.order.now c.loop-next.next 0 c.loop-next-test.true c.loop-next.invariant c.in_default.ensures.none

pub returns-clause-none : goal.returns-clause-none
returns-clause-none c =
    All-same (λ (i : ℕ). HasNoLink c.args.self.now.origin c.args.words.now c.args.self.now.objects.items c.args.own c.args.object i) c.args.order.now (take c.loop-next.next c.args.order.now)
    (sym (take_all c.loop-next.next c.args.order.now c.loop-next-test.false)) c.loop-next.invariant
