use Rattle.std.proofs.Common.{false, refl, arith}
use Rattle.plain_heap.proofs.InDirectory.{apart_of}
use Rattle.plain_heap.proofs.Lists.{nothing_listed}
use Rattle.plain_heap.proofs.listing.Listing.clear.Goals as goal

pub returns-clause-ready : goal.returns-clause-ready
returns-clause-ready c =
    let marks = c.requires.marks in
    let order = c.requires.order in
    let few = c.args.directory.now.few in
    let long = c.fill.ensures.len in
    let same = c.clear.ensures.capacity in
    nothing_listed _ _ (apart_of c.args.directory.now)
    (record { marks = omega (arith, c.args.self.now.marks.ok.0, c.fill.new.self.ok.0); order = omega arith })
    c.clear.ensures.items (λ k lt. c.fill.ensures.clones k false (omega (arith, c.args.self.now.marks.ok.0, c.fill.new.self.ok.0)) refl)
