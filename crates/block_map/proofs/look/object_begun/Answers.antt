use Rattle.std.proofs.Common.{refl, ◌∙◌}
use Rattle.block_map.proofs.Bases.{begun_taken}
use Rattle.block_map.proofs.look.object_begun.Goals as goal

pub returns : goal.returns
returns c =
    let words = c.from.ensures ∙ (c.words.ensures.value ∙ c.class.ensures.class) in
    record {
      object = (
        begun_taken c.args.page c.args.base c.in-Some.cell c.from.result c.kind.result c.args.block.now c.taken_from.ensures.cells c.requires.on c.requires.aligned c.in-Some.ensures.cell.0
            c.in-Some.ensures.cell.1 words c.kind.ensures,
        refl,
      );
    }
