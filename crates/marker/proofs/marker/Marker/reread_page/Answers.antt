use Rattle.std.proofs.Common.{◌≡◌, ℕ, ◌+◌, set, false, subst, List, length, Option}
use Rattle.words.specs.Layout.{page_start}
use Rattle.block_map.specs.declared.found.Found.{Found}
use Rattle.block_map.specs.FoundIn.{found_in}
use Rattle.marker.specs.Marking.{Marking, with_dirty}
use Rattle.marker.specs.Retracing.{Rereads}
use Rattle.marker.proofs.Beside.{retrace_in}
use Rattle.marker.proofs.Closures.{marks_of}
use Rattle.marker.proofs.Rescanning.{retraces, retrace_traces}
use Rattle.marker.proofs.marker.Marker.reread_page.Goals as goal

page_is : (page : ℕ) (found : ℕ → Option Found) (words : List ℕ) (old a new : Marking) → a ≡ with_dirty old (set old.dirty page false) → Rereads found words (page_start page) (page_start (page + 1)) a new
    → Rereads found words (page_start page) (page_start (page + 1)) (with_dirty old (set old.dirty page false)) new
page_is page found words old a new e x = subst (λ (m : Marking). Rereads found words (page_start page) (page_start (page + 1)) m new) e x

pub reread_cells-requires-clause-still : goal.reread_cells-requires-clause-still
reread_cells-requires-clause-still c = c.requires.still

pub reread_objects-requires-clause-still : goal.reread_objects-requires-clause-still
reread_objects-requires-clause-still c = c.requires.still

pub returns-in-Some-clause-page : goal.returns-in-Some-clause-page
returns-in-Some-clause-page c =
    retraces (length c.args.map.now) (found_in c.args.map.now) c.heap_bytes-heap_bytes.ensures.lawful.map c.args.reader.now.words c.args.page c.args.self.now c.reread_cells.new.self
    (marks_of _ _ c.laws.ensures c.requires.pages) c.requires.dirty (page_is _ _ _ _ _ _ c.clean_page.ensures c.reread_cells.ensures.rereads)

pub returns-in-Some-clause-traces : goal.returns-in-Some-clause-traces
returns-in-Some-clause-traces c =
    retrace_traces (length c.args.map.now) (found_in c.args.map.now) c.heap_bytes-heap_bytes.ensures.lawful.map c.args.reader.now.words c.args.page c.args.self.now c.reread_cells.new.self
    (marks_of _ _ c.laws.ensures c.requires.pages) c.requires.dirty (page_is _ _ _ _ _ _ c.clean_page.ensures c.reread_cells.ensures.rereads)

pub returns-in-Some-clause-beside : goal.returns-in-Some-clause-beside
returns-in-Some-clause-beside c s =
    retrace_in (found_in c.args.map.now) c.args.reader.now.words c.args.reader.now.moments c.args.page c.args.self.now c.reread_cells.new.self c.laws-2.ensures c.requires.still s
    (retraces (length c.args.map.now) (found_in c.args.map.now) c.heap_bytes-heap_bytes.ensures.lawful.map c.args.reader.now.words c.args.page c.args.self.now c.reread_cells.new.self
    (marks_of _ _ c.laws.ensures c.requires.pages) c.requires.dirty (page_is _ _ _ _ _ _ c.clean_page.ensures c.reread_cells.ensures.rereads)).others
    (retrace_traces (length c.args.map.now) (found_in c.args.map.now) c.heap_bytes-heap_bytes.ensures.lawful.map c.args.reader.now.words c.args.page c.args.self.now c.reread_cells.new.self
    (marks_of _ _ c.laws.ensures c.requires.pages) c.requires.dirty (page_is _ _ _ _ _ _ c.clean_page.ensures c.reread_cells.ensures.rereads))

pub returns-in-None-clause-page : goal.returns-in-None-clause-page
returns-in-None-clause-page c =
    retraces (length c.args.map.now) (found_in c.args.map.now) c.heap_bytes-heap_bytes.ensures.lawful.map c.args.reader.now.words c.args.page c.args.self.now c.reread_objects.new.self
    (marks_of _ _ c.laws.ensures c.requires.pages) c.requires.dirty (page_is _ _ _ _ _ _ c.clean_page.ensures c.reread_objects.ensures.rereads)

pub returns-in-None-clause-traces : goal.returns-in-None-clause-traces
returns-in-None-clause-traces c =
    retrace_traces (length c.args.map.now) (found_in c.args.map.now) c.heap_bytes-heap_bytes.ensures.lawful.map c.args.reader.now.words c.args.page c.args.self.now c.reread_objects.new.self
    (marks_of _ _ c.laws.ensures c.requires.pages) c.requires.dirty (page_is _ _ _ _ _ _ c.clean_page.ensures c.reread_objects.ensures.rereads)

pub returns-in-None-clause-beside : goal.returns-in-None-clause-beside
returns-in-None-clause-beside c s =
    retrace_in (found_in c.args.map.now) c.args.reader.now.words c.args.reader.now.moments c.args.page c.args.self.now c.reread_objects.new.self c.laws-2.ensures c.requires.still s
    (retraces (length c.args.map.now) (found_in c.args.map.now) c.heap_bytes-heap_bytes.ensures.lawful.map c.args.reader.now.words c.args.page c.args.self.now c.reread_objects.new.self
    (marks_of _ _ c.laws.ensures c.requires.pages) c.requires.dirty (page_is _ _ _ _ _ _ c.clean_page.ensures c.reread_objects.ensures.rereads)).others
    (retrace_traces (length c.args.map.now) (found_in c.args.map.now) c.heap_bytes-heap_bytes.ensures.lawful.map c.args.reader.now.words c.args.page c.args.self.now c.reread_objects.new.self
    (marks_of _ _ c.laws.ensures c.requires.pages) c.requires.dirty (page_is _ _ _ _ _ _ c.clean_page.ensures c.reread_objects.ensures.rereads))
