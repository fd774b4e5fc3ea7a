use Rattle.std.proofs.Common.{length, refl, arith}
use Rattle.block_map.specs.FoundIn.{found_in}
use Rattle.marker.proofs.Objects.{objects_word}
use Rattle.marker.proofs.marker.Marker.mark_near.Goals as goal

pub mark_base-requires-clause-inside : goal.mark_base-requires-clause-inside
mark_base-requires-clause-inside c =
    let low = c.requires.inside.0 in let high = c.requires.inside.1 in let pages = c.requires.pages in let marks = c.laws.ensures.marks in
    omega (arith, low, high, pages, marks)

pub returns-in-Some-clause-marks : goal.returns-in-Some-clause-marks
returns-in-Some-clause-marks c = c.mark_base.ensures (found_in c.args.map.now) c.args.word c.in-Some.found c.in-Some.ensures.found.0 c.in-Some.ensures.found.1 refl refl

pub returns-in-Some-clause-objects : goal.returns-in-Some-clause-objects
returns-in-Some-clause-objects c =
    objects_word (length c.args.map.now) (found_in c.args.map.now) c.requires.lawful.map c.args.word c.args.self.now c.mark_base.new.self c.requires.objects
    (c.mark_base.ensures (found_in c.args.map.now) c.args.word c.in-Some.found c.in-Some.ensures.found.0 c.in-Some.ensures.found.1 refl refl)
