use Rattle.std.proofs.Common.{◌+◌, ◌∙◌, refl, sym, subst, List, ℕ, length, arith}
use Rattle.words.specs.Layout.{page_start}
use Rattle.block_map.specs.FoundIn.{found_in}
use Rattle.marker.specs.Retracing.{Rereads}
use Rattle.marker.proofs.Beside.{still_as}
use Rattle.marker.proofs.Closures.{marks_of}
use Rattle.marker.proofs.Words.{words_pages}
use Rattle.marker.proofs.Rescanning.{rereads_none, rereads_append, rereads_end}
use Rattle.marker.proofs.marker.Marker.reread_objects.Goals as goal

pub loop-found-init : goal.loop-found-init
loop-found-init c =
    let f = c.page_start-address.ensures in
    record {
      rereads = subst (λ (n : ℕ). Rereads (found_in c.args.map.now) c.args.reader.now.words (page_start c.args.page) n c.args.self.now c.args.self.now) (sym f)
          (rereads_none (found_in c.args.map.now) c.args.reader.now.words (page_start c.args.page) (page_start c.args.page) c.args.self.now (λ w x. let a = x.from in let b = x.below in omega arith));
      from = omega arith;
      within = omega arith;
      aligned = omega arith;
      words = refl;
      moments = refl;
      reads = omega arith;
      objects = c.requires.objects;
    }

pub next_on_page-requires : goal.next_on_page-requires
next_on_page-requires c = record { inside = c.requires.inside; from = c.loop-found.invariant.from }

pub reread-address-requires-clause-pages : goal.reread-address-requires-clause-pages
reread-address-requires-clause-pages c = words_pages (found_in c.args.map.now) _ c.loop-found.invariant.rereads.marks ∙ c.requires.pages

pub reread-address-requires-clause-one_page : goal.reread-address-requires-clause-one_page
reread-address-requires-clause-one_page c = let f = c.page_start-address.ensures in (c.args.page, c.loop-found.invariant.from, omega arith, still_as _ _ _ _ _ c.args.page (sym c.loop-found.invariant.words) (sym c.loop-found.invariant.moments) c.requires.still)

pub loop-found-preserved : goal.loop-found-preserved
loop-found-preserved c =
    let i = c.loop-found.invariant in
    let e = c.reread-address.ensures in
    let further = e.further in
    let r = subst (λ (w : List ℕ). Rereads (found_in c.args.map.now) w c.loop-found.address c.reread-address.result c.loop-found.self c.reread-address.new.self) i.words e.rereads in
    record {
      rereads = rereads_append (length c.args.map.now) (found_in c.args.map.now) c.requires.lawful.map c.args.reader.now.words
          (page_start c.args.page) c.loop-found.address c.reread-address.result c.args.self.now c.loop-found.self c.reread-address.new.self
          (marks_of _ _ c.laws.ensures c.requires.pages) i.from (omega arith) i.rereads r;
      from = (let b = i.from in omega arith);
      within = (let a = e.within in let f = c.page_start-address.ensures in omega arith);
      aligned = e.aligned;
      words = e.words ∙ i.words;
      moments = e.moments ∙ i.moments;
      reads = (let a = e.reads in let b = i.reads in omega arith);
      objects = e.objects;
    }

-- the whole page is read
pub returns-clause-rereads : goal.returns-clause-rereads
returns-clause-rereads c =
    let i = c.loop-found.invariant in
    rereads_append (length c.args.map.now) (found_in c.args.map.now) c.requires.lawful.map c.args.reader.now.words (page_start c.args.page) c.loop-found.address (page_start (c.args.page + 1)) c.args.self.now c.loop-found.self c.loop-found.self
    (marks_of _ _ c.laws.ensures c.requires.pages) i.from i.within i.rereads
    (rereads_end (length c.args.map.now) (found_in c.args.map.now) c.requires.lawful.map c.args.reader.now.words c.loop-found.address (page_start (c.args.page + 1)) c.loop-found.self c.in_default.ensures)
