use Rattle.std.proofs.Common.{◌≡◌, ◌+◌, ◌-◌, ◌∙◌, ℕ, List, refl, subst, length, arith}
use Rattle.block_map.specs.FoundIn.{found_in}
use Rattle.marker.specs.Entries.{TakesWhole}
use Rattle.marker.proofs.Closures.{marks_of}
use Rattle.marker.proofs.Wholes.{whole_less, whole_trans, whole_pages}
use Rattle.marker.proofs.marker.Marker.read_wholes.Goals as goal
use Rattle.marker.proofs.marker.Marker.read_wholes.Goals.{After-read_some}

pub loop-init : goal.loop-init
loop-init c = record {
  takes = whole_less (found_in c.args.map.now) c.args.reader.now.moments c.args.self.now c.args.most;
  known = c.requires.known;
  pages = c.requires.pages;
  within = omega arith;
  words = refl;
  moments = refl;
  reads = refl;
  objects = c.requires.objects;
}

-- what was read before, and what some objects add
all : (c : After-read_some) → TakesWhole (found_in c.args.map.now) c.args.reader.now.moments c.args.self.now (c.args.most - c.read_some.new.left) c.read_some.new.self
all c =
    let i = c.loop.invariant in
    let within = i.within in
    let less = c.read_some.ensures.less in
    let sum : c.args.most - c.loop.left + (c.loop.left - c.read_some.new.left) ≡ c.args.most - c.read_some.new.left = omega arith in
    subst (λ (n : ℕ). TakesWhole (found_in c.args.map.now) c.args.reader.now.moments c.args.self.now n c.read_some.new.self) sum
    (whole_trans (found_in c.args.map.now) c.args.reader.now.moments c.args.self.now c.loop.self c.read_some.new.self (c.args.most - c.loop.left) (c.loop.left - c.read_some.new.left) i.takes
    (subst (λ (w : List (List ℕ)). TakesWhole (found_in c.args.map.now) w c.loop.self (c.loop.left - c.read_some.new.left) c.read_some.new.self) i.moments c.read_some.ensures.takes))

pub returns-clause-takes : goal.returns-clause-takes
returns-clause-takes c = all (goal.at.returns-clause-takes c).After-read_some

pub loop-preserved : goal.loop-preserved
loop-preserved c =
    let i = c.loop.invariant in
    let e = c.read_some.ensures in
    let within = i.within in
    let less = e.less in
    record {
      takes = all (goal.at.loop-preserved c).After-read_some;
      known = e.known;
      pages = whole_pages (length c.args.map.now) (found_in c.args.map.now) c.laws-2.ensures.lawful.map c.args.reader.now.moments c.args.self.now c.read_some.new.self _
          (marks_of _ _ c.laws.ensures c.requires.pages) (all (goal.at.loop-preserved c).After-read_some) ∙ c.requires.pages;
      within = omega arith;
      words = e.words ∙ i.words;
      moments = e.moments ∙ i.moments;
      reads = (let x = e.reads in let y = i.reads in omega arith);
      objects = e.objects;
    }
