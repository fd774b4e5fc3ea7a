use Rattle.std.proofs.Common.{◌≡◌, ℕ, ◌+◌, ◌*◌, ◌≤◌, ◌∙◌, List, length, refl, sym, subst, rules, arith}
use Rattle.block_map.specs.FoundIn.{found_in}
use Rattle.words.specs.declared.limits.TheConstants.{PAGE_GRANULES, PAGE_WORDS}
use Rattle.words.specs.declared.class.Kind.TheVariants.{Normal, PointerFree}
use Rattle.words.specs.Layout.{page_start}
use Rattle.marker.specs.Retracing.{Rereads, RereadsObjects}
use Rattle.marker.proofs.Beside.{still_as}
use Rattle.marker.proofs.Closures.{marks_of}
use Rattle.marker.proofs.Rereading.{objects_none, objects_append, objects_fewer, objects_page, cut_begins, cut_kind}
use Rattle.marker.proofs.Words.{words_pages, words_extends}
use Rattle.marker.proofs.marker.Marker.reread_cells.Goals as goal
use Rattle.marker.proofs.marker.Marker.reread_cells.Goals.{After-laws, After-loop-j}

pub loop-j-init : goal.loop-j-init
loop-j-init c = record {
  rereads = objects_none (found_in c.args.map.now) c.args.reader.now.words c.args.self.now (page_start (c.args.page + 1)) (PAGE_GRANULES * c.args.page) (64 * (4 * c.args.page)) c.args.reader.now.reads c.args.self.now (omega arith) (λ f e n o from below. absurd (omega arith));
  words = refl;
  moments = refl;
  objects = c.requires.objects;
}

pub reread_marked-requires-clause-pages : goal.reread_marked-requires-clause-pages
reread_marked-requires-clause-pages c = words_pages (found_in c.args.map.now) _ c.loop-j.invariant.rereads.marks ∙ c.requires.pages

pub reread_marked-requires-clause-memory : goal.reread_marked-requires-clause-memory
reread_marked-requires-clause-memory c = subst (λ (w : List ℕ). length w ≡ PAGE_WORDS * length c.args.map.now) (sym c.loop-j.invariant.words) c.requires.memory

pub reread_marked-requires-clause-inside : goal.reread_marked-requires-clause-inside
reread_marked-requires-clause-inside c =
    let size = marks_of _ _ c.laws.ensures c.requires.pages in
    let same = (words_extends (length c.args.map.now) (found_in c.args.map.now) c.requires.lawful.map c.args.self.now size c.loop-j.invariant.rereads.marks).marks_len in
    let inside = c.requires.inside in let test = c.loop-j-test.true in omega arith

pub reread_marked-requires-clause-on : goal.reread_marked-requires-clause-on
reread_marked-requires-clause-on c = let from = c.loop-j.auto.j in let test = c.loop-j-test.true in (omega arith, omega arith)

pub loop-j-preserved : goal.loop-j-preserved
loop-j-preserved c =
    let i = c.loop-j.invariant in
    let size = marks_of _ _ c.laws.ensures c.requires.pages in
    let from = c.loop-j.auto.j in
    let more = (words_extends (length c.args.map.now) (found_in c.args.map.now) c.requires.lawful.map c.args.self.now size i.rereads.marks).marks in
    record {
      rereads = objects_append (length c.args.map.now) (found_in c.args.map.now) c.requires.lawful.map c.args.reader.now.words c.args.self.now (page_start (c.args.page + 1)) (PAGE_GRANULES * c.args.page) (64 * c.loop-j.j) (64 * (c.loop-j.j + 1))
          c.args.reader.now.reads c.loop-j.reader.reads c.reread_marked.new.reader.reads c.args.self.now c.loop-j.self c.reread_marked.new.self size (omega arith) (omega arith) i.rereads
          (objects_fewer (found_in c.args.map.now) c.args.reader.now.words c.loop-j.self c.args.self.now (page_start (c.args.page + 1)) (64 * c.loop-j.j) (64 * (c.loop-j.j + 1)) c.loop-j.reader.reads c.reread_marked.new.reader.reads c.loop-j.self c.reread_marked.new.self more
          (subst (λ (w : List ℕ). RereadsObjects (found_in c.args.map.now) w c.loop-j.self (page_start (c.args.page + 1)) (64 * c.loop-j.j) (64 * (c.loop-j.j + 1)) c.loop-j.reader.reads c.loop-j.self c.reread_marked.new.reader.reads c.reread_marked.new.self) i.words c.reread_marked.ensures.rereads));
      words = c.reread_marked.ensures.words ∙ i.words;
      moments = c.reread_marked.ensures.moments ∙ i.moments;
      objects = c.reread_marked.ensures.objects;
    }

-- the marks of the page are all read
page : (c : After-loop-j) → Rereads (found_in c.args.map.now) c.args.reader.now.words (page_start c.args.page) (page_start (c.args.page + 1)) c.args.self.now c.loop-j.self × (c.loop-j.reader.reads ≤ c.args.reader.now.reads + PAGE_WORDS)
page c =
    let below = c.loop-j.auto.j-end (omega arith) in let test = c.loop-j-test.false in
    objects_page (length c.args.map.now) (found_in c.args.map.now) c.requires.lawful.map c.args.reader.now.words c.args.page c.args.reader.now.reads c.loop-j.reader.reads c.args.self.now c.loop-j.self
    (λ w f from to e. cut_begins c.args.map.now c.args.page w c.args.block.now f c.requires.cut from to e)
    (subst (λ (past : ℕ). RereadsObjects (found_in c.args.map.now) c.args.reader.now.words c.args.self.now (page_start (c.args.page + 1)) (PAGE_GRANULES * c.args.page) past c.args.reader.now.reads c.args.self.now c.loop-j.reader.reads c.loop-j.self)
    (let e : 64 * c.loop-j.j ≡ PAGE_GRANULES * (c.args.page + 1) = omega arith in e) c.loop-j.invariant.rereads)

pub returns-clause-rereads : goal.returns-clause-rereads
returns-clause-rereads c = (page c).0

pub returns-clause-reads : goal.returns-clause-reads
returns-clause-reads c = (page c).1

-- an object of the block isn't Normal
none : (c : After-laws) → c.args.block.now.kind ≡ PointerFree → Rereads (found_in c.args.map.now) c.args.reader.now.words (page_start c.args.page) (page_start (c.args.page + 1)) c.args.self.now c.args.self.now × (c.args.reader.now.reads ≤ c.args.reader.now.reads + PAGE_WORDS)
none c kind =
    objects_page (length c.args.map.now) (found_in c.args.map.now) c.requires.lawful.map c.args.reader.now.words c.args.page c.args.reader.now.reads c.args.reader.now.reads c.args.self.now c.args.self.now
    (λ w f from to e. cut_begins c.args.map.now c.args.page w c.args.block.now f c.requires.cut from to e)
    (objects_none (found_in c.args.map.now) c.args.reader.now.words c.args.self.now (page_start (c.args.page + 1)) (PAGE_GRANULES * c.args.page) (PAGE_GRANULES * (c.args.page + 1)) c.args.reader.now.reads c.args.self.now (omega arith)
    (λ f e normal marked from below.
    let p = c.requires.lawful.map.placed f.base f e in let above = p.above in let aligned = p.aligned in
    let z : PointerFree ≡ Normal = sym kind ∙ sym (cut_kind c.args.map.now c.args.page f.base c.args.block.now f c.requires.cut (omega arith) (omega arith) e) ∙ normal in
    absurd (cc z)))

pub returns-then-eq-clause-rereads : goal.returns-then-eq-clause-rereads
returns-then-eq-clause-rereads c = (none (goal.at.returns-then-eq-clause-rereads c).After-laws (search rules)).0

pub reread_marked-requires-clause-still : goal.reread_marked-requires-clause-still
reread_marked-requires-clause-still c = still_as _ _ _ _ _ c.args.page (sym c.loop-j.invariant.words) (sym c.loop-j.invariant.moments) c.requires.still
