use Rattle.std.proofs.Common.{◌*◌, ◌/◌, ◌≡◌, subst, arith}
use Rattle.words.specs.declared.limits.TheConstants.{GRANULE_WORDS}
use Rattle.blocks.proofs.Begins.{some_free, taken_all, taken_more, taken_none, AreTakenBelow}
use Rattle.blocks.proofs.block.Block.is_full.Goals as goal

pub loop-j-init : goal.loop-j-init
loop-j-init c = taken_none _ _

pub returns-then-free_word-ne0 : goal.returns-then-free_word-ne0
returns-then-free_word-ne0 c = some_free _ _ _ _ c.free_word.ensures.free c.if-free_word-ne0.true (omega arith)

pub loop-j-preserved : goal.loop-j-preserved
loop-j-preserved c = taken_more _ _ c.loop-j.j _ c.free_word.ensures.free (let none = c.if-free_word-ne0.false in omega arith) c.loop-j.invariant

pub returns : goal.returns
returns c =
    let cells = c.class-class.ensures.cells in
    let end : 64 * c.loop-j.j ≡ 256 = (let past = c.loop-j-test.false in let few = c.loop-j.auto.j-end in omega arith) in
    taken_all _ _ cells.class cells.size (subst (AreTakenBelow c.args.self.now.taken (c.args.self.now.class / GRANULE_WORDS)) end c.loop-j.invariant)
