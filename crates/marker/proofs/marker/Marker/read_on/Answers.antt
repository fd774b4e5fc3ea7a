use Rattle.std.proofs.Common.{◌≡◌, ◌*◌, ℕ, length, refl, sym, ap, ◌∙◌, subst, arith}
use Rattle.std.proofs.lemmas.Option.{same_Some}
use Rattle.words.specs.declared.limits.TheConstants.{PAGE_BYTES}
use Rattle.words.specs.Layout.{page_of}
use Rattle.block_map.specs.FoundIn.{found_in}
use Rattle.marker.specs.declared.entry.Entry.{Entry}
use Rattle.marker.specs.Marking.{Marking, with_current, with_carried, word_address}
use Rattle.marker.specs.Growth.{CarriesPage, MarksWords, words_from}
use Rattle.marker.specs.Entries.{read_on}
use Rattle.marker.proofs.marker.Marker.read_on.Goals as goal

pub returns-clause-read : goal.returns-clause-read
returns-clause-read c =
    let e : c.requires.live.entry ≡ c.in-Some.entry = same_Some _ _ (sym c.requires.live.current ∙ sym (ap (λ (m : Marking). m.current) c.self.view_is) ∙ c.in-Some.is) in
    let n = ap (λ (x : Entry). x.next) e in
    let l = c.requires.live.unread.left in let f = c.from.ensures in let m = c.min-count.ensures in
    let row = c.mark_words.ensures.row c.args.found refl in
    record {
      seen = row.seen;
      woven = row.woven;
      reads = record {
        object = c.args.found;
        live = c.requires.live;
        fits = omega arith;
        mid = with_carried c.mark_words.new.self c.args.self.now.carried;
        reads = subst (λ (x : Entry). MarksWords (found_in c.args.map.now) c.args.self.now (words_from row.seen c.args.found x.next c.min-count.result) (with_carried c.mark_words.new.self c.args.self.now.carried)) (sym e) row.marks;
        page = page_of (word_address c.args.found c.in-Some.entry.next);
        one_page = λ i from below. (let p = c.requires.placed.0 in let above = p.above in let aligned = p.aligned in let on = c.min-count.ensures in omega arith);
        carried = c.mark_words.new.self.carried;
        carries = subst (λ (x : Entry). CarriesPage (found_in c.args.map.now) (PAGE_BYTES * length c.args.self.now.dirty) (words_from row.seen c.args.found x.next c.min-count.result) (page_of (word_address c.args.found c.in-Some.entry.next)) c.args.self.now.carried c.mark_words.new.self.carried) (sym e)
            (subst (λ (k : ℕ). CarriesPage (found_in c.args.map.now) (PAGE_BYTES * k) (words_from row.seen c.args.found c.in-Some.entry.next c.min-count.result) (page_of (word_address c.args.found c.in-Some.entry.next)) c.args.self.now.carried c.mark_words.new.self.carried) (sym c.requires.pages) row.carries);
        new_is = ap (λ (m : Marking). with_current m (read_on c.args.found c.in-Some.entry c.min-count.result)) c.self-2.view_is ∙ ap (λ (x : Entry). with_current c.mark_words.new.self (read_on c.args.found x c.min-count.result)) (sym e);
      };
    }

pub mark_words-requires-clause-row : goal.mark_words-requires-clause-row
mark_words-requires-clause-row c =
    let p = c.requires.placed.0 in let above = p.above in let aligned = p.aligned in let on = c.min-count.ensures in
    let l = c.requires.live.unread.left in let f = c.from.ensures in
    let e : c.requires.live.entry ≡ c.in-Some.entry = same_Some _ _ (sym c.requires.live.current ∙ sym (ap (λ (m : Marking). m.current) c.self.view_is) ∙ c.in-Some.is) in
    let n = ap (λ (x : Entry). x.next) e in
    record {
      object = c.args.found;
      at = refl;
      placed = p;
      fits = omega arith;
      one_page = λ i from below. omega arith;
    }
