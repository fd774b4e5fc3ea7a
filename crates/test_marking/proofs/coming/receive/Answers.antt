use Rattle.block_map.specs.FoundIn.{found_in}
use Rattle.block_map.specs.Objects.{IsPlaced}
use Rattle.block_map.proofs.Unread.{listed_zeroed}
use Rattle.std.proofs.Common.{length, refl, arith}
use Rattle.test_marking.proofs.Newcomers.{placed_in, zeroed, others_kept}
use Rattle.marker.proofs.Closures.{marks_of}
use Rattle.test_marking.proofs.coming.receive.Goals as goal
use Rattle.test_marking.proofs.coming.receive.Goals.{After-len}

placed : (c : After-len) → IsPlaced (length c.args.map.now) c.args.found
placed c = c.len.ensures.lawful.map.placed _ _ c.requires.object

pub zero-requires-clause-address : goal.zero-requires-clause-address
zero-requires-clause-address c = (placed_in _ _ _ (placed (goal.at.zero-requires-clause-address c).After-len) c.requires.listed.size).0

pub zero-requires-clause-inside : goal.zero-requires-clause-inside
zero-requires-clause-inside c = (placed_in _ _ _ (placed (goal.at.zero-requires-clause-inside c).After-len) c.requires.listed.size).1

pub allocated-requires-clause-inside : goal.allocated-requires-clause-inside
allocated-requires-clause-inside c =
    let x = (placed_in _ _ _ (placed (goal.at.allocated-requires-clause-inside c).After-len) c.requires.listed.size).2 in let e = marks_of _ _ c.laws.ensures c.requires.pages in omega arith

pub returns-clause-keeps : goal.returns-clause-keeps
returns-clause-keeps c before added holds =
    let lawful = c.len.ensures.lawful in
    let p = placed (goal.at.returns-clause-keeps c).After-len in
    c.allocated.ensures.keeps (length c.args.map.now) before (found_in c.args.map.now) _ _ c.args.found refl lawful.map c.requires.object added
    (others_kept _ before _ _ _ _ lawful.map c.requires.object added c.zero.ensures) (zeroed _ _ _ _ p c.zero.ensures) holds

pub returns-clause-objects : goal.returns-clause-objects
returns-clause-objects c before added objects = c.allocated.ensures.objects before (found_in c.args.map.now) c.args.found refl c.requires.object added objects

pub returns-clause-listed : goal.returns-clause-listed
returns-clause-listed c = listed_zeroed _ c.args.map.now c.len.ensures.laid _ c.args.found c.requires.object c.zero.ensures c.requires.listed
