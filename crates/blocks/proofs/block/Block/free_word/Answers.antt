use Rattle.std.proofs.Common.{refl, arith}
use Rattle.blocks.proofs.Begins.{is_free_word}
use Rattle.blocks.proofs.block.Block.free_word.Goals as goal

pub returns-clause-free : goal.returns-clause-free
returns-clause-free c = rw (← c.self.view_is)
    (is_free_word c.self.inside.granules c.self.inside.class c.args.j _ c.word.result c.begins_in.result c.self.invariant.0 (omega arith) c.begins_in.ensures c.word.ensures refl)
