use Rattle.std.proofs.Common.{◌≡◌, ◌+◌, ◌*◌, ◌∙◌, ◌++◌, ◌∷◌, ℕ, [], length, refl, sym, ap, subst, arith}
use Rattle.words.specs.declared.limits.TheConstants.{PAGE_BYTES}
use Rattle.words.specs.Bits.{Has}
use Rattle.words.specs.Layout.{granule, page_of}
use Rattle.block_map.specs.declared.found.Found.{Found}
use Rattle.block_map.specs.FoundIn.{found_in}
use Rattle.marker.specs.declared.entry.Entry.{Entry}
use Rattle.marker.specs.Marking.{Marking, with_current, with_carried, word_address}
use Rattle.marker.specs.Growth.{CarriesPage, entry_of, words_from}
use Rattle.marker.specs.Beside.{MarksRow}
use Rattle.marker.specs.Entries.{IsLive, IsUnread, IsSpent, ReadsOn, Settles, Takes, nothing, settled, read}
use Rattle.marker.proofs.Closures.{marks_of}
use Rattle.marker.proofs.Known.{from_more, known_on, top_taken}
use Rattle.marker.proofs.Settling.{drops_refl, drops_more, drops_settles, read_out}
use Rattle.marker.proofs.Wholes.{spent_current, top_page, top_row}
use Rattle.marker.proofs.Words.{words_current}
use Rattle.marker.proofs.marker.Marker.read_whole.Goals as goal
use Rattle.marker.proofs.marker.Marker.read_whole.Goals.{After-mark_object}

-- the object
abbrev object : After-mark_object → Found
object c = c.requires.top.object

-- whose length the entry says
long : (c : After-mark_object) → c.args.entry.len ≡ (object c).len
long c = ap (λ (e : Entry). e.len) c.requires.top.is

row : (c : After-mark_object) → MarksRow (found_in c.args.map.now) c.args.reader.now.moments (object c) 0 (object c).len (PAGE_BYTES * length c.args.map.now) (page_of (word_address (object c) 0)) c.drop_top.new.self c.mark_object.new.self
row c =
    subst (λ (n : ℕ). MarksRow (found_in c.args.map.now) c.args.reader.now.moments (object c) 0 n (PAGE_BYTES * length c.args.map.now) (page_of (word_address (object c) 0)) c.drop_top.new.self c.mark_object.new.self) (long c)
    (c.mark_object.ensures.row (object c) (sym (ap (λ (e : Entry). e.base) c.requires.top.is)))

pub mark_object-requires-clause-row : goal.mark_object-requires-clause-row
mark_object-requires-clause-row c = top_row (length c.args.map.now) (found_in c.args.map.now) c.args.self.now c.args.entry c.requires.top

-- the state in which the entry that was on top is the one that is being read
abbrev next : After-mark_object → Marking
next c = with_current c.drop_top.new.self (entry_of (object c))

-- and the one in which it was read to its end
abbrev last : After-mark_object → Entry
last c = record { base = (object c).base; next = (object c).len; len = (object c).len }

abbrev on : After-mark_object → Marking
on c = with_current c.mark_object.new.self (last c)

settles : (c : After-mark_object) → (e : Entry) → IsSpent (found_in c.args.map.now) c.args.self.now e → Settles (found_in c.args.map.now) (with_current c.args.self.now e) (next c)
settles c e spent =
    let top = c.requires.top in
    let d = c.drop_top.ensures in
    let below = d.stack top.below c.args.entry top.stack in
    let before : Marking = with_current c.args.self.now e in
    drops_settles (found_in c.args.map.now) before (next c)
    (drops_more (found_in c.args.map.now) before before (next c) (drops_refl (found_in c.args.map.now) before) d.marks d.dirty d.carried
    (top.stack ∙ ap (λ es. es ++ c.args.entry ∷ []) (sym below) ∙ ap (λ (x : Entry). c.drop_top.new.self.stack ++ x ∷ []) top.is) (spent_current (found_in c.args.map.now) c.args.self.now e spent))
    (λ none. absurd (cc none))

abbrev live : (c : After-mark_object) → IsLive (found_in c.args.map.now) (next c) (object c)
live c =
    let u = subst (λ (x : Entry). IsUnread (found_in c.args.map.now) c.args.self.now x (object c)) c.requires.top.is c.requires.top.unread in
    record {
      entry = entry_of (object c);
      current = refl;
      unread = record { object = u.object; base = refl; normal = u.normal; marked = subst (λ r. Has r (granule (object c).base)) (sym c.drop_top.ensures.marks) u.marked; left = u.left };
    }

reads : (c : After-mark_object) → ReadsOn (found_in c.args.map.now) (row c).seen (object c).len (next c) (on c)
reads c =
    let words = (row c).seen in let f = object c in let d = c.drop_top.ensures in
    record {
      object = f;
      live = live c;
      fits = omega arith;
      mid = with_current (with_carried c.mark_object.new.self c.drop_top.new.self.carried) (entry_of f);
      reads = words_current (found_in c.args.map.now) c.drop_top.new.self (entry_of f) (row c).marks;
      page = page_of (word_address f 0);
      one_page = λ i from below. (let l = long c in top_page (length c.args.map.now) (found_in c.args.map.now) c.args.self.now c.args.entry c.requires.top i (omega arith));
      carried = c.mark_object.new.self.carried;
      carries = subst (λ (k : ℕ). CarriesPage (found_in c.args.map.now) (PAGE_BYTES * k) (words_from words f 0 f.len) (page_of (word_address f 0)) c.drop_top.new.self.carried c.mark_object.new.self.carried) (sym c.requires.pages ∙ sym (ap length d.dirty))
          (row c).carries;
      new_is = (let all : 0 + f.len ≡ f.len = omega arith in ap (λ (n : ℕ). with_current c.mark_object.new.self (record { base = f.base; next = n; len = f.len })) (sym all));
    }

pub returns-clause-takes : goal.returns-clause-takes
returns-clause-takes c e spent =
    let f = object c in let r = row c in let l = long c in
    let all : 0 + f.len ≡ c.args.entry.len = omega arith in
    let before : Marking = with_current c.args.self.now e in (
      last c,
      read_out (found_in c.args.map.now) r.seen f.len (next c) (on c) f (reads c) (live c) (omega arith) (last c) refl,
      subst (λ (n : ℕ). Takes (found_in c.args.map.now) c.args.reader.now.moments before n (on c)) all (read (settled nothing (settles c e spent)) (record { seen = r.seen; woven = r.woven; reads = reads c })),
    )

pub returns-clause-known : goal.returns-clause-known
returns-clause-known c n known =
    let top = c.requires.top in let d = c.drop_top.ensures in
    from_more (found_in c.args.map.now) (on c) c.mark_object.new.self n c.mark_object.new.self.stack (λ k h. h)
    (known_on (length c.args.map.now) (found_in c.args.map.now) c.requires.lawful.map (next c) (ap length d.marks ∙ marks_of _ _ c.laws.ensures c.requires.pages) n
    (top_taken (found_in c.args.map.now) (length c.args.map.now) c.args.self.now n c.args.entry top (next c) d.marks (d.stack top.below c.args.entry top.stack) known)
    (row c).seen (object c).len (on c) (reads c))
