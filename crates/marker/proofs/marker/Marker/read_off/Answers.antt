use Rattle.std.proofs.Common.{◌≡◌, ◌+◌, ◌∙◌, ℕ, List, length, Some, ap, subst, arith}
use Rattle.block_map.specs.FoundIn.{found_in}
use Rattle.marker.specs.declared.entry.Entry.{Entry}
use Rattle.marker.specs.Marking.{Marking, with_current}
use Rattle.marker.specs.Entries.{IsSpent, Takes, TakesWhole, nothing, settled, read, read_on}
use Rattle.marker.proofs.Closures.{marks_of}
use Rattle.marker.proofs.Known.{known_on, known_left, known_taken}
use Rattle.marker.proofs.Settling.{read_out, settles_next}
use Rattle.marker.proofs.Taking.{Grows, takes_grows, takes_trans}
use Rattle.marker.proofs.Wholes.{spent_current, whole_takes}
use Rattle.marker.proofs.marker.Marker.read_off.Goals as goal
use Rattle.marker.proofs.marker.Marker.read_off.Goals.{After-read_on-count, After-read_wholes-count}

pub left_in-left-requires : goal.left_in-left-requires
left_in-left-requires c = let l = c.requires.live.unread.left in (c.requires.live.entry, c.requires.live.current, omega arith)

-- the words of the entry that is being read
first : (c : After-read_on-count) → Takes (found_in c.args.map.now) c.args.reader.now.moments c.args.self.now c.read_on-count.result c.read_on-count.new.self
first c =
    let all : 0 + c.read_on-count.result ≡ c.read_on-count.result = omega arith in
    subst (λ (n : ℕ). Takes (found_in c.args.map.now) c.args.reader.now.moments c.args.self.now n c.read_on-count.new.self) all (read nothing c.read_on-count.ensures.read)

grows : (c : After-read_on-count) → Grows c.args.self.now c.read_on-count.new.self
grows c = takes_grows (length c.args.map.now) (found_in c.args.map.now) c.requires.lawful.map c.args.reader.now.moments c.args.self.now (marks_of _ _ c.laws.ensures c.requires.pages) (first c)

pub read_wholes-count-requires-clause-pages : goal.read_wholes-count-requires-clause-pages
read_wholes-count-requires-clause-pages c = (grows (goal.at.read_wholes-count-requires-clause-pages c).After-read_on-count).dirty_len ∙ c.requires.pages

pub read_wholes-count-requires-clause-known : goal.read_wholes-count-requires-clause-known
read_wholes-count-requires-clause-known c =
    known_on (length c.args.map.now) (found_in c.args.map.now) c.requires.lawful.map c.args.self.now (marks_of _ _ c.laws.ensures c.requires.pages) c.args.known c.requires.known c.read_on-count.ensures.read.seen c.read_on-count.result c.read_on-count.new.self c.read_on-count.ensures.read.reads

-- that entry has no word left, where all its words were read
done : (c : After-read_on-count) → c.read_on-count.result ≡ c.left_in-left.result → (e : Entry) → c.read_on-count.new.self.current ≡ Some e → IsSpent (found_in c.args.map.now) c.read_on-count.new.self e
done c same =
    let left = c.left_in-left.ensures c.requires.live.entry c.requires.live.current in
    read_out (found_in c.args.map.now) c.read_on-count.ensures.read.seen c.read_on-count.result c.args.self.now c.read_on-count.new.self c.args.found c.read_on-count.ensures.read.reads c.requires.live (omega arith)

-- and the words of whole objects behind it
wholes : (c : After-read_wholes-count) → TakesWhole (found_in c.args.map.now) c.args.reader.now.moments c.read_on-count.new.self c.read_wholes-count.result c.read_wholes-count.new.self
wholes c =
    subst (λ (w : List (List ℕ)). TakesWhole (found_in c.args.map.now) w c.read_on-count.new.self c.read_wholes-count.result c.read_wholes-count.new.self) c.read_on-count.ensures.moments c.read_wholes-count.ensures.takes

pub returns-then-count-left-clause-takes : goal.returns-then-count-left-clause-takes
returns-then-count-left-clause-takes c =
    let found = found_in c.args.map.now in
    let moments = c.args.reader.now.moments in
    let e = c.take_entry.ensures in
    let r = c.read_on-count.ensures.read.reads in
    let at = (goal.at.returns-then-count-left-clause-takes c).After-read_on-count in
    let w = whole_takes found moments c.read_on-count.new.self c.read_wholes-count.new.self c.read_wholes-count.result (wholes (goal.at.returns-then-count-left-clause-takes c).After-read_wholes-count)
    (read_on r.object r.live.entry c.read_on-count.result) (ap (λ (m : Marking). m.current) r.new_is) (done at c.if-count-left.true) in
    let b : Marking = with_current c.read_wholes-count.new.self w.0 in
    settled
    (takes_trans found moments c.args.self.now c.read_on-count.new.self (first at) w.2)
    (settles_next found b c.take_entry.new.self c.take_entry.result e.marks e.dirty e.carried e.taken (spent_current found b w.0 w.1) e.fewer e.none)

pub returns-else-count-left-clause-takes : goal.returns-else-count-left-clause-takes
returns-else-count-left-clause-takes c = first (goal.at.returns-else-count-left-clause-takes c).After-read_on-count

pub returns-then-count-left-clause-known : goal.returns-then-count-left-clause-known
returns-then-count-left-clause-known c =
    let e = c.take_entry.ensures in
    known_taken (found_in c.args.map.now) c.read_wholes-count.new.self c.take_entry.new.self c.args.known e.marks e.taken c.read_wholes-count.ensures.known

pub returns-else-count-left-clause-known : goal.returns-else-count-left-clause-known
returns-else-count-left-clause-known c =
    known_left (length c.args.map.now) (found_in c.args.map.now) c.requires.lawful.map c.args.self.now (marks_of _ _ c.laws.ensures c.requires.pages) c.args.known c.requires.known c.read_on-count.ensures.read.seen c.read_on-count.result c.read_on-count.new.self c.read_on-count.ensures.read.reads
    c.args.found c.requires.live c.left_in-left.result c.left_in-left.ensures c.if-count-left.false
