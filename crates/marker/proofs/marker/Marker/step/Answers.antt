use Rattle.std.proofs.Common.{◌≡◌, ◌∷◌, ◌+◌, ◌≤◌, ◌∙◌, ℕ, List, [], length, refl, sym, subst, arith}
use Rattle.std.proofs.lemmas.Bool.{false≢true}
use Rattle.words.specs.Bits.{Has}
use Rattle.block_map.specs.FoundIn.{found_in}
use Rattle.marker.specs.Marking.{Marking, AreMarksObjects, StaysDirty}
use Rattle.marker.specs.Work.{cost}
use Rattle.marker.specs.Growth.{Traces}
use Rattle.marker.specs.Beside.{AreBeside, TracesIn}
use Rattle.marker.specs.Entries.{Takes, TakesOff, nothing, settled}
use Rattle.marker.proofs.Closures.{marks_of}
use Rattle.marker.proofs.Known.{known_none, known_settles, known_waiting}
use Rattle.marker.proofs.Settling.{settled_cost}
use Rattle.marker.proofs.Taking.{Grows, takes_grows, takes_one, takes_traces, takes_trans, takes_cost, takes_taken, takes_dirty}
use Rattle.marker.proofs.marker.Marker.step.Goals as goal
use Rattle.marker.proofs.marker.Marker.step.Goals.{After-next, After-read_off-read}

pub loop-found-init : goal.loop-found-init
loop-found-init c = record { takes = nothing; known = known_none (found_in c.args.map.now) c.args.self.now _ (let room = c.laws.ensures.room in omega arith); within = omega arith; words = refl; moments = refl; reads = omega arith; objects = c.requires.objects }

-- what a chain of the marker's words comes to
grows : (c : After-next) {n : ℕ} {m : Marking} → Takes (found_in c.args.map.now) c.args.reader.now.moments c.args.self.now n m → Grows c.args.self.now m
grows c t =
    takes_grows (length c.args.map.now) (found_in c.args.map.now) c.heap_bytes-heap_bytes.ensures.lawful.map c.args.reader.now.moments c.args.self.now (marks_of _ _ c.laws.ensures c.requires.pages) t

beside : (c : After-next) {n : ℕ} {m : Marking} → Takes (found_in c.args.map.now) c.args.reader.now.moments c.args.self.now n m → AreBeside (found_in c.args.map.now) c.args.self.now.dirty c.args.reader.now.moments → TracesIn (found_in c.args.map.now) c.args.reader.now.moments c.args.self.now m
beside c t s =
    takes_traces (length c.args.map.now) (found_in c.args.map.now) c.heap_bytes-heap_bytes.ensures.lawful.map c.args.reader.now.moments c.args.self.now (marks_of _ _ c.laws.ensures c.requires.pages) s t

-- where nobody writes
traces : (c : After-next) {n : ℕ} {m : Marking} → Takes (found_in c.args.map.now) c.args.reader.now.moments c.args.self.now n m → c.args.reader.now.moments ≡ c.args.reader.now.words ∷ [] → Traces (found_in c.args.map.now) c.args.reader.now.words [] c.args.self.now m
traces c {n = n} {m = m} t one =
    takes_one (length c.args.map.now) (found_in c.args.map.now) c.heap_bytes-heap_bytes.ensures.lawful.map c.args.reader.now.words c.args.self.now (marks_of _ _ c.laws.ensures c.requires.pages)
    (subst (λ (w : List (List ℕ)). Takes (found_in c.args.map.now) w c.args.self.now n m) one t)

pub next-requires-clause-pages : goal.next-requires-clause-pages
next-requires-clause-pages c =
    (takes_grows (length c.args.map.now) (found_in c.args.map.now) c.heap_bytes-heap_bytes.ensures.lawful.map c.args.reader.now.moments c.args.self.now (marks_of _ _ c.laws.ensures c.requires.pages) c.loop-found.invariant.takes).dirty_len
    ∙ c.requires.pages

-- entries that are dropped leave the marks
objects : (c : After-next) → AreMarksObjects (found_in c.args.map.now) c.next.new.self
objects c k h = c.loop-found.invariant.objects k (subst (λ r. Has r k) c.next.ensures.settles.marks h)

pub returns-then-read-budget-clause-objects : goal.returns-then-read-budget-clause-objects
returns-then-read-budget-clause-objects c = objects (goal.at.returns-then-read-budget-clause-objects c).After-next

pub returns-clause-objects : goal.returns-clause-objects
returns-clause-objects c = objects (goal.at.returns-clause-objects c).After-next

pub read_off-read-requires-clause-objects : goal.read_off-read-requires-clause-objects
read_off-read-requires-clause-objects c = objects (goal.at.read_off-read-requires-clause-objects c).After-next

pub next-requires-clause-known : goal.next-requires-clause-known
next-requires-clause-known c = c.loop-found.invariant.known

takes : (c : After-next) → Takes (found_in c.args.map.now) c.args.reader.now.moments c.args.self.now c.loop-found.read c.next.new.self
takes c = settled c.loop-found.invariant.takes c.next.ensures.settles

reads : (c : After-read_off-read) → Takes (found_in c.args.map.now) c.args.reader.now.moments c.next.new.self c.read_off-read.result c.read_off-read.new.self
reads c = subst (λ (w : List (List ℕ)). Takes (found_in c.args.map.now) w c.next.new.self c.read_off-read.result c.read_off-read.new.self) c.loop-found.invariant.moments c.read_off-read.ensures.takes

pub read_off-read-requires-clause-pages : goal.read_off-read-requires-clause-pages
read_off-read-requires-clause-pages c =
    let s = (goal.at.read_off-read-requires-clause-pages c).After-next in (grows s (takes s)).dirty_len ∙ c.requires.pages

pub returns-then-read-budget-clause-takes : goal.returns-then-read-budget-clause-takes
returns-then-read-budget-clause-takes c = takes (goal.at.returns-then-read-budget-clause-takes c).After-next

pub returns-clause-takes : goal.returns-clause-takes
returns-clause-takes c = takes (goal.at.returns-clause-takes c).After-next

pub returns-then-read-budget-clause-beside : goal.returns-then-read-budget-clause-beside
returns-then-read-budget-clause-beside c = let s = (goal.at.returns-then-read-budget-clause-beside c).After-next in beside s (takes s)

pub returns-then-read-budget-clause-traces : goal.returns-then-read-budget-clause-traces
returns-then-read-budget-clause-traces c = let s = (goal.at.returns-then-read-budget-clause-traces c).After-next in traces s (takes s)

pub returns-clause-beside : goal.returns-clause-beside
returns-clause-beside c = let s = (goal.at.returns-clause-beside c).After-next in beside s (takes s)

pub returns-clause-traces : goal.returns-clause-traces
returns-clause-traces c = let s = (goal.at.returns-clause-traces c).After-next in traces s (takes s)

taken : (c : After-next) → c.args.reader.now.moments ≡ c.args.reader.now.words ∷ [] → TakesOff (found_in c.args.map.now) c.args.reader.now.words c.args.self.now c.next.new.self
taken c one =
    takes_taken (length c.args.map.now) (found_in c.args.map.now) c.heap_bytes-heap_bytes.ensures.lawful.map c.args.reader.now.words c.args.self.now (marks_of _ _ c.laws.ensures c.requires.pages)
    (subst (λ (w : List (List ℕ)). Takes (found_in c.args.map.now) w c.args.self.now c.loop-found.read c.next.new.self) one (takes c))

pub returns-then-read-budget-clause-taken : goal.returns-then-read-budget-clause-taken
returns-then-read-budget-clause-taken c = taken (goal.at.returns-then-read-budget-clause-taken c).After-next

pub returns-clause-taken : goal.returns-clause-taken
returns-clause-taken c = taken (goal.at.returns-clause-taken c).After-next

dirty : (c : After-next) → StaysDirty c.args.self.now c.next.new.self
dirty c =
    takes_dirty (length c.args.map.now) (found_in c.args.map.now) c.heap_bytes-heap_bytes.ensures.lawful.map c.args.reader.now.moments c.args.self.now (marks_of _ _ c.laws.ensures c.requires.pages) (takes c)

pub returns-then-read-budget-clause-dirty : goal.returns-then-read-budget-clause-dirty
returns-then-read-budget-clause-dirty c = dirty (goal.at.returns-then-read-budget-clause-dirty c).After-next

pub returns-clause-dirty : goal.returns-clause-dirty
returns-clause-dirty c = dirty (goal.at.returns-clause-dirty c).After-next

pub returns-then-read-budget-clause-live : goal.returns-then-read-budget-clause-live
returns-then-read-budget-clause-live c = λ e. (c.in-Some.found, c.in-Some.ensures.live)

pub returns-clause-live : goal.returns-clause-live
returns-clause-live c = λ e. absurd (false≢true (sym e))

less : (c : After-next) → cost (found_in c.args.map.now) c.next.new.self + c.loop-found.read ≤ cost (found_in c.args.map.now) c.args.self.now
less c =
    takes_cost (length c.args.map.now) (found_in c.args.map.now) c.heap_bytes-heap_bytes.ensures.lawful.map c.args.reader.now.moments c.args.self.now (marks_of _ _ c.laws.ensures c.requires.pages) (takes c)

pub returns-then-read-budget-clause-cost : goal.returns-then-read-budget-clause-cost
returns-then-read-budget-clause-cost c = less (goal.at.returns-then-read-budget-clause-cost c).After-next

pub returns-clause-cost : goal.returns-clause-cost
returns-clause-cost c = less (goal.at.returns-clause-cost c).After-next

pub look_below-known-requires-clause-pages : goal.look_below-known-requires-clause-pages
look_below-known-requires-clause-pages c =
    let s = (goal.at.look_below-known-requires-clause-pages c).After-next in (grows s (takes s)).dirty_len ∙ c.requires.pages

pub look_below-known-requires-clause-known : goal.look_below-known-requires-clause-known
look_below-known-requires-clause-known c =
    known_waiting (found_in c.args.map.now) c.next.new.self c.loop-found.known c.min.result (λ k from lt. (let m = c.min.ensures in let d = c.depth.ensures in omega arith))
    (known_settles (found_in c.args.map.now) _ _ _ c.next.ensures.settles c.loop-found.invariant.known)

pub loop-found-smaller : goal.loop-found-smaller
loop-found-smaller c =
    let s = (goal.at.loop-found-smaller c).After-next in
    let a = settled_cost (found_in c.args.map.now) _ _ c.next.ensures.settles in
    let b = takes_cost (length c.args.map.now) (found_in c.args.map.now) c.heap_bytes-heap_bytes.ensures.lawful.map c.args.reader.now.moments _ ((grows s (takes s)).marks_len ∙ marks_of _ _ c.laws.ensures c.requires.pages) (reads (goal.at.loop-found-smaller c).After-read_off-read) in
    let some = c.read_off-read.ensures.some in
    omega arith

pub loop-found-preserved : goal.loop-found-preserved
loop-found-preserved c =
    let i = c.loop-found.invariant in
    let w = i.within in let n = c.read_off-read.ensures.most in let b = c.if-read-budget.false in
    record {
      takes = takes_trans (found_in c.args.map.now) c.args.reader.now.moments c.args.self.now c.next.new.self (takes (goal.at.loop-found-preserved c).After-next) (reads (goal.at.loop-found-preserved c).After-read_off-read);
      known = c.read_off-read.ensures.known;
      within = omega arith;
      words = c.read_off-read.ensures.words ∙ i.words;
      moments = c.read_off-read.ensures.moments ∙ i.moments;
      reads = (let a = c.read_off-read.ensures.reads in let b = i.reads in omega arith);
      objects = c.read_off-read.ensures.objects;
    }
