use Rattle.std.proofs.Common.{sym, ◌∙◌}
use Rattle.words.proofs.Classes.{class_at, class_number, place_inside, place_least}
use Rattle.words.proofs.class.class_for.Goals as goal

pub bounds-from : goal.bounds-from
bounds-from c = place_inside c.args.words _ _ c.requires c.div_ceil.ensures c.from.ensures

pub invariant_of-result : goal.invariant_of-result
invariant_of-result c =
    let lt = place_inside c.args.words _ _ c.requires c.div_ceil.ensures c.from.ensures in
    (class_at c.from.result lt, sym c.from.ensures ∙ class_number c.from.result lt)

pub returns : goal.returns
returns c = place_least c.args.words _ _ c.requires c.div_ceil.ensures c.from.ensures
