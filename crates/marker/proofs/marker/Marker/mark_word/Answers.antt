use Rattle.std.proofs.Common.{◌+◌, ◌*◌, ◌<◌, ◌≤◌, length, arith}
use Rattle.words.specs.declared.limits.TheConstants.{FIRST_ADDRESS, PAGE_BYTES}
use Rattle.block_map.specs.FoundIn.{found_in}
use Rattle.marker.proofs.MarkWord.{word_outside, tells_far, tells_marked, word_marked}
use Rattle.marker.proofs.Objects.{marked_base}
use Rattle.marker.proofs.marker.Marker.mark_word.Goals as goal
use Rattle.marker.proofs.marker.Marker.mark_word.Goals.{After-laws}

pub returns-then-word-heap_bytes-clause-marks : goal.returns-then-word-heap_bytes-clause-marks
returns-then-word-heap_bytes-clause-marks c =
    word_outside c.args.map.now c.args.heap_bytes c.args.word c.args.self.now c.requires.lawful c.requires.bytes c.ranges.word.fits (c.if-word-heap_bytes.true)

pub returns-then-word-heap_bytes-clause-stray : goal.returns-then-word-heap_bytes-clause-stray
returns-then-word-heap_bytes-clause-stray c = tells_far (length c.args.map.now) c.args.heap_bytes c.args.word (found_in c.args.map.now) c.requires.bytes c.ranges.word.fits c.if-word-heap_bytes.true

-- the word lies in the heap
inside : (c : After-laws) → (FIRST_ADDRESS ≤ c.args.word) × (c.args.word < FIRST_ADDRESS + PAGE_BYTES * length c.args.map.now)
inside c =
    let bytes = c.requires.bytes in let fits = c.ranges.word.fits in let near = c.if-word-heap_bytes.false in let few = c.laws.ensures.few in let pages = c.requires.pages in
    (omega (arith, bytes, fits, near, few, pages), omega (arith, bytes, fits, near, few, pages))

pub is_marked_base-requires : goal.is_marked_base-requires
is_marked_base-requires c =
    let at = inside c in
    let low = at.0 in let high = at.1 in let pages = c.requires.pages in let marks = c.laws.ensures.marks in
    record { inside = (low, omega (arith, low, high, pages, marks)) }

pub mark_unmarked-requires-clause-inside : goal.mark_unmarked-requires-clause-inside
mark_unmarked-requires-clause-inside c = inside (goal.at.mark_unmarked-requires-clause-inside c).After-laws

pub returns-then-is_marked_base-clause-marks : goal.returns-then-is_marked_base-clause-marks
returns-then-is_marked_base-clause-marks c = word_marked (found_in c.args.map.now) c.args.self.now c.args.word
    (marked_base (length c.args.map.now) (found_in c.args.map.now) c.args.self.now c.args.word c.requires.lawful.map c.requires.objects (inside (goal.at.returns-then-is_marked_base-clause-marks c).After-laws).0 (c.is_marked_base.ensures.yes c.if-is_marked_base.true).0 (c.is_marked_base.ensures.yes c.if-is_marked_base.true).1)

pub returns-then-is_marked_base-clause-stray : goal.returns-then-is_marked_base-clause-stray
returns-then-is_marked_base-clause-stray c = tells_marked (found_in c.args.map.now) (PAGE_BYTES * length c.args.map.now) c.args.self.now c.args.word
    (marked_base (length c.args.map.now) (found_in c.args.map.now) c.args.self.now c.args.word c.requires.lawful.map c.requires.objects (inside (goal.at.returns-then-is_marked_base-clause-stray c).After-laws).0 (c.is_marked_base.ensures.yes c.if-is_marked_base.true).0 (c.is_marked_base.ensures.yes c.if-is_marked_base.true).1)

pub mark_unmarked-requires-clause-unmarked : goal.mark_unmarked-requires-clause-unmarked
mark_unmarked-requires-clause-unmarked c = c.is_marked_base.ensures.no c.if-is_marked_base.false
