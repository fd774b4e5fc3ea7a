use Rattle.std.proofs.Common.{◌≡◌, length, sym, arith}
use Rattle.object_space.proofs.space.ObjectSpace.find.Goals as goal

pub is_marked-requires-clause-inside : goal.is_marked-requires-clause-inside
is_marked-requires-clause-inside c =
    let p = c.in-Some.ensures.lawful.map.placed _ c.in-Some.found (sym c.in-Some.ensures.found) in
    let above = p.above in let below = p.below in let some = p.some in
    let size = c.laws.ensures.marks in let pages : length c.args.marker.now.dirty ≡ length c.self.inside.table.map = rw (← c.self.view_is) at c.requires.pages in
    omega arith
