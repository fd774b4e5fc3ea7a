use Rattle.plain_heap.proofs.Flagging.{brought_nothing, brought_flagged}
use Rattle.plain_heap.proofs.plain.PlainHeap.flag_brought.Goals as goal

pub returns-in_default-clause-flags : goal.returns-in_default-clause-flags
returns-in_default-clause-flags c = brought_nothing _ _ _ _ (λ no s s' w h x. c.in_default.ensures.none no c.args.slot s s' w x)

pub returns-in_default-register_word-clause-flags : goal.returns-in_default-register_word-clause-flags
returns-in_default-register_word-clause-flags c = brought_nothing _ _ _ _ (λ no s s' w h x. c.in_default-register_word.ensures.none s' w h ((c.in-Some.ensures.some c.args.slot s s' w).0 x))

pub returns-clause-flags : goal.returns-clause-flags
returns-clause-flags c = brought_flagged _ _ _ c.in-Some.reg c.in-Some-register_word.word _ _ (λ s s' v. c.in-Some.ensures.some c.args.slot s s' v) c.in-Some-register_word.ensures.some c.flag_led.ensures.flags
