use Rattle.std.proofs.Common.{◌≡◌, ◌-◌, ℕ, subst, arith}
use Rattle.block_map.specs.FoundIn.{found_in}
use Rattle.marker.specs.Entries.{TakesWhole}
use Rattle.marker.proofs.Wholes.{whole_less, whole_turned}
use Rattle.marker.proofs.marker.Marker.read_top.Goals as goal

pub returns-in_default-clause-takes : goal.returns-in_default-clause-takes
returns-in_default-clause-takes c = whole_less (found_in c.args.map.now) c.args.reader.now.moments c.args.self.now _

pub returns-then-from-left-clause-takes : goal.returns-then-from-left-clause-takes
returns-then-from-left-clause-takes c = whole_less (found_in c.args.map.now) c.args.reader.now.moments c.args.self.now _

pub returns-clause-takes : goal.returns-clause-takes
returns-clause-takes c =
    let len = c.from-2.ensures in let first = c.from.ensures in
    let most = c.if-from-left.false in
    subst (λ (n : ℕ). TakesWhole (found_in c.args.map.now) c.args.reader.now.moments c.args.self.now n c.bring_nearer.new.self) (let same : c.in-Some.entry.len ≡ c.args.left.now - (c.args.left.now - c.from-2.result) = omega arith in same)
    (whole_turned (found_in c.args.map.now) c.args.reader.now.moments c.args.self.now c.read_whole.new.self c.bring_nearer.new.self c.in-Some.entry.len c.read_whole.ensures.takes c.bring_nearer.ensures.turned)
