use Rattle.std.proofs.Common.{length, ℕ, ◌≡◌, ◌+◌, ◌*◌, ◌<◌, ◌≤◌, true, false, refl, sym, subst, rules, arith}
use Rattle.words.specs.declared.limits.TheConstants.{PAGE_BYTES}
use Rattle.words.specs.Layout.{page_of}
use Rattle.marker.specs.Marking.{word_address}
use Rattle.marker.specs.Growth.{CarriesPage, words_from}
use Rattle.block_map.specs.FoundIn.{found_in}
use Rattle.marker.proofs.Closures.{at_base, marks_of}
use Rattle.marker.proofs.Beside.{row_carries, row_marks}
use Rattle.marker.proofs.MarkWord.{markable}
use Rattle.marker.proofs.Rescanning.{rereads_passed, rereads_words}
use Rattle.marker.proofs.Parts.{next_has_part}
use Rattle.marker.proofs.marker.Marker.reread.Goals as goal

pub part_between-part-requires : goal.part_between-part-requires
part_between-part-requires c =
    let n = c.requires.pages in let s = c.laws.ensures.few in
    next_has_part (length c.args.map.now) (found_in c.args.map.now) c.requires.lawful.map (omega arith) c.args.low c.args.high c.args.found c.requires.next c.requires.low c.requires.high

pub has_words_to_read-requires-clause-inside : goal.has_words_to_read-requires-clause-inside
has_words_to_read-requires-clause-inside c =
    (markable (length c.args.map.now) _ _ c.args.found _ c.requires.lawful.map c.requires.next.reads (marks_of _ _ c.laws.ensures c.requires.pages)).1

pub returns-then-not-has_words_to_read-clause-rereads : goal.returns-then-not-has_words_to_read-clause-rereads
returns-then-not-has_words_to_read-clause-rereads c =
    let f : c.has_words_to_read.result ≡ false = search rules in
    rereads_passed (length c.args.map.now) (found_in c.args.map.now) c.requires.lawful.map c.args.reader.now.words c.args.low c.args.high _ c.args.found _ c.requires.next c.part_between-part.ensures.inside
    (c.has_words_to_read.ensures.no f)

-- the words that are read stand on one page
one : (c : goal.After-mark_words) → (i : ℕ) → c.part_between-part.result.first ≤ i → i < c.part_between-part.result.first + c.part_between-part.result.count → page_of (word_address c.args.found i) ≡ page_of (word_address c.args.found c.part_between-part.result.first)
one c i from below =
    let p = c.part_between-part.ensures in
    let a = p.back i from in let b = p.back c.part_between-part.result.first (omega arith) in
    let e = p.ends in let w = p.within in
    let low = c.requires.one_page.1 in let high = c.requires.one_page.2 in omega arith

-- which is the one that is read again
on_page : (c : goal.After-mark_words) → (i : ℕ) → c.part_between-part.result.first ≤ i → i < c.part_between-part.result.first + c.part_between-part.result.count → page_of (word_address c.args.found i) ≡ c.requires.one_page.0
on_page c i from below =
    let p = c.part_between-part.ensures in
    let a = p.back i from in
    let e = p.ends in let w = p.within in
    let low = c.requires.one_page.1 in let high = c.requires.one_page.2 in omega arith

pub returns-clause-rereads : goal.returns-clause-rereads
returns-clause-rereads c =
    let p = c.part_between-part.ensures in
    let t : c.has_words_to_read.result ≡ true = search rules in
    let is = c.has_words_to_read.ensures.yes t in
    rereads_words (length c.args.map.now) (found_in c.args.map.now) c.requires.lawful.map c.args.reader.now.words c.args.low c.args.high c.part_between-part.result.stop _ _ _ c.args.found _ _ (one c)
    (subst (λ (k : ℕ). CarriesPage (found_in c.args.map.now) (PAGE_BYTES * k) (words_from c.args.reader.now.words c.args.found c.part_between-part.result.first c.part_between-part.result.count) (page_of (word_address c.args.found c.part_between-part.result.first)) c.args.self.now.carried c.mark_words.new.self.carried) (sym c.requires.pages) (row_carries (found_in c.args.map.now) c.args.reader.now.words c.args.reader.now.moments c.args.found c.part_between-part.result.first c.part_between-part.result.count _ _ c.requires.one_page.0 c.args.self.now c.mark_words.new.self c.requires.one_page.3 (at_base (length c.args.map.now) (found_in c.args.map.now) c.requires.lawful.map c.requires.next.at c.args.found c.requires.next.reads) is.0 p.fits (on_page c) (c.mark_words.ensures.row c.args.found refl)))
    (marks_of _ _ c.laws.ensures c.requires.pages) c.requires.next p.inside
    (at_base (length c.args.map.now) (found_in c.args.map.now) c.requires.lawful.map c.requires.next.at c.args.found c.requires.next.reads)
    is.0 is.1 p.fits p.reaches p.back p.ends
    (row_marks (found_in c.args.map.now) c.args.reader.now.words c.args.reader.now.moments c.args.found c.part_between-part.result.first c.part_between-part.result.count _ _ c.requires.one_page.0 c.args.self.now c.mark_words.new.self c.requires.one_page.3 (at_base (length c.args.map.now) (found_in c.args.map.now) c.requires.lawful.map c.requires.next.at c.args.found c.requires.next.reads) is.0 p.fits (on_page c) (c.mark_words.ensures.row c.args.found refl))

pub returns-clause-reads : goal.returns-clause-reads
returns-clause-reads c =
    let p = c.part_between-part.ensures in let e = p.ends in
    let b = p.back c.part_between-part.result.first (omega arith) in
    let k = c.mark_words.ensures.counted in omega arith

pub mark_words-requires-clause-row : goal.mark_words-requires-clause-row
mark_words-requires-clause-row c =
    let p = c.part_between-part.ensures in
    let e = p.ends in let w = p.within in
    let low = c.requires.one_page.1 in let high = c.requires.one_page.2 in
    record {
      object = c.args.found;
      at = refl;
      placed = c.requires.lawful.map.placed c.requires.next.at c.args.found c.requires.next.reads;
      fits = p.fits;
      one_page = λ i from below. (let a = p.back i from in let b = p.back c.part_between-part.result.first (omega arith) in omega arith);
    }
