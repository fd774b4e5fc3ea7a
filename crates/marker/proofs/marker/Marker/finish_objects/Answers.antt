use Rattle.std.proofs.Common.{◌≡◌, ℕ, ◌+◌, ◌*◌, ◌<◌, ◌≤◌, ◌∙◌, ◌++◌, ◌∷◌, List, [], length, map, get_or, refl, sym, ap, subst, append-nil, arith}
use Rattle.std.specs.Prelude.{drop}
use Rattle.std.proofs.lemmas.List.{drop_all, drop_more, length-map, length-reverse}
use Rattle.std.proofs.lemmas.List.Elements.{Contains-get_or}
use Rattle.words.specs.declared.limits.TheConstants.{MARK_STACK_ENTRIES}
use Rattle.block_map.specs.declared.found.Found.{Found}
use Rattle.block_map.specs.FoundIn.{found_in}
use Rattle.marker.specs.declared.entry.Entry.{Entry}
use Rattle.marker.specs.declared.together.Begun.{Begun}
use Rattle.words.specs.Layout.{page_of}
use Rattle.words.specs.declared.limits.TheConstants.{PAGE_BYTES}
use Rattle.marker.specs.Marking.{bytes_of, with_stack, word_address}
use Rattle.marker.specs.Beside.{MarksRow}
use Rattle.marker.specs.Growth.{entry_of}
use Rattle.marker.specs.Entries.{IsUnread, TakesWhole}
use Rattle.marker.specs.Begun.{IsBegun, entry_begun, entries_begun, words_begun}
use Rattle.marker.proofs.Beginning.{entries_first, entries_none, words_first}
use Rattle.marker.proofs.Closures.{marks_of}
use Rattle.marker.proofs.Finishing.{begun_more, finished_known, finished_marks, finished_sizes, finished_few, finished_stack, finished_takes, next}
use Rattle.marker.proofs.Wholes.{whole_none}
use Rattle.marker.proofs.marker.Marker.finish_objects.Goals as goal
use Rattle.marker.proofs.marker.Marker.finish_objects.Goals.{After-from-read}

pub loop-k-init : goal.loop-k-init
loop-k-init c =
    let es = c.args.self.now.stack ++ entries_begun c.args.begun.now.items in
    record {
      takes = ([], sym (append-nil c.args.self.now.stack), subst (λ l. TakesWhole (found_in c.args.map.now) c.args.reader.now.moments (with_stack c.args.self.now es) 0 (with_stack c.args.self.now l)) (sym (append-nil es)) (whole_none (found_in c.args.map.now) c.args.reader.now.moments (with_stack c.args.self.now es)));
      begun = c.requires.begun;
      pages = c.requires.pages;
      size = marks_of _ _ c.laws.ensures c.requires.pages;
      room = c.requires.room;
      all = omega arith;
      known = λ n k. k;
      words = refl;
      moments = refl;
      reads = omega arith;
      objects = c.requires.objects;
    }

pub mark_begun-requires-clause-begun : goal.mark_begun-requires-clause-begun
mark_begun-requires-clause-begun c =
    let inside : c.loop-k.k < length c.args.begun.now.items = (let t = c.loop-k-test.true in let n = c.len-k-end.ensures.value in omega arith) in
    rw (c.deref.ensures.0) (c.loop-k.invariant.begun _ (Contains-get_or c.args.begun.now.items c.loop-k.k (record { base = 0; len = 0 }) inside))

pub mark_begun-requires-clause-first : goal.mark_begun-requires-clause-first
mark_begun-requires-clause-first c =
    let inside : c.loop-k.k < length c.args.begun.now.items = (let t = c.loop-k-test.true in let n = c.len-k-end.ensures.value in omega arith) in
    rw (c.deref-in-loop-k.ensures.0, c.deref.ensures.0, c.loop-k.invariant.moments) (c.requires.firsts.each c.loop-k.k inside)

-- the object that is read to its end
abbrev one : After-from-read → Begun
one c = get_or c.args.begun.now.items c.loop-k.k (record { base = 0; len = 0 })

abbrev others : After-from-read → List Begun
others c = drop (c.loop-k.k + 1) c.args.begun.now.items

inside : (c : After-from-read) → c.loop-k.k < length c.args.begun.now.items
inside c = let t = c.loop-k-test.true in let n = c.len-k-end.ensures.value in omega arith

is_begun : (c : After-from-read) → IsBegun (length c.args.map.now) (found_in c.args.map.now) c.loop-k.self (one c)
is_begun c = c.loop-k.invariant.begun (one c) (Contains-get_or c.args.begun.now.items c.loop-k.k _ (inside c))

-- it and the others were left
left : (c : After-from-read) → drop c.loop-k.k c.args.begun.now.items ≡ one c ∷ others c
left c = drop_more c.args.begun.now.items c.loop-k.k _ (inside c)

abbrev object : After-from-read → Found
object c = (is_begun c).object

entry_is : (c : After-from-read) → entry_begun (one c) ≡ entry_of (object c)
entry_is c = λ i. record { base = sym (is_begun c).unread.base i; next = 0; len = (is_begun c).len i }

row : (c : After-from-read) → MarksRow (found_in c.args.map.now) c.args.reader.now.moments (object c) 0 (object c).len (bytes_of c.loop-k.self) (page_of (word_address (object c) 0)) c.loop-k.self c.mark_begun.new.self
row c =
    let i = is_begun c in
    let same = ap (λ (l : List Begun). get_or l c.loop-k.k (record { base = 0; len = 0 })) c.deref.ensures.0 in
    let base = i.unread.base ∙ sym (ap (λ (b : Begun). b.base) same) in
    subst (λ (n : ℕ). MarksRow (found_in c.args.map.now) c.args.reader.now.moments i.object 0 i.object.len (PAGE_BYTES * n) (page_of (word_address i.object 0)) c.loop-k.self c.mark_begun.new.self) (sym c.loop-k.invariant.pages)
    (subst (λ (w : List (List ℕ)). MarksRow (found_in c.args.map.now) w i.object 0 i.object.len (PAGE_BYTES * length c.args.map.now) (page_of (word_address i.object 0)) c.loop-k.self c.mark_begun.new.self) c.loop-k.invariant.moments
    (c.mark_begun.ensures.row i.object (ap (found_in c.args.map.now) (sym base) ∙ i.unread.object) base))

entries_are : (c : After-from-read) → entries_begun (drop c.loop-k.k c.args.begun.now.items) ≡ entries_begun (others c) ++ entry_of (object c) ∷ []
entries_are c = ap entries_begun (left c) ∙ entries_first (others c) (one c) ∙ ap (λ e. entries_begun (others c) ++ e ∷ []) (entry_is c)

-- the others wait behind what was there, below what it leads to
abbrev waiting : After-from-read → List Entry
waiting c = entries_begun (others c)

many : (c : After-from-read) → length (waiting c) ≡ length (others c)
many c = length-reverse (map entry_begun (others c)) ∙ length-map (others c) entry_begun

room : (c : After-from-read) → length c.loop-k.self.stack + length (waiting c) + (object c).len ≤ MARK_STACK_ENTRIES
room c =
    let len = (is_begun c).len in
    let words = ap words_begun (left c) ∙ words_first (others c) (one c) in
    let count : length (drop c.loop-k.k c.args.begun.now.items) ≡ 1 + length (others c) = ap length (left c) ∙ (let n : length (one c ∷ others c) ≡ 1 + length (others c) = omega arith in n) in
    let m = many c in
    let before = c.loop-k.invariant.room in
    omega arith

unread : (c : After-from-read) → IsUnread (found_in c.args.map.now) c.loop-k.self (entry_of (object c)) (object c)
unread c = subst (λ e. IsUnread (found_in c.args.map.now) c.loop-k.self e (object c)) (entry_is c) (is_begun c).unread

pub loop-k-preserved : goal.loop-k-preserved
loop-k-preserved c =
    let found = found_in c.args.map.now in
    let pages = length c.args.map.now in
    let map_is = c.requires.lawful.map in
    let moments = c.args.reader.now.moments in
    let i = c.loop-k.invariant in
    let a = c.loop-k.self in let b = c.mark_begun.new.self in
    let o = is_begun c in
    let f : Found = object c in
    let len = o.len in
    let x = row c in
    let u = unread c in
    let start = c.args.self.now.stack in
    let upper = i.takes.0 in let is = i.takes.1 in
    let read = c.from-read.ensures in
    let same = ap (λ (l : List Begun). (get_or l c.loop-k.k (record { base = 0; len = 0 })).len) c.deref.ensures.0 in
    let words = ap words_begun (left c) ∙ words_first (others c) (one c) in
    let count : length (drop c.loop-k.k c.args.begun.now.items) ≡ 1 + length (others c) = ap length (left c) ∙ (let n : length (one c ∷ others c) ≡ 1 + length (others c) = omega arith in n) in
    let takes = subst (λ es. TakesWhole found moments (with_stack c.args.self.now (start ++ entries_begun c.args.begun.now.items)) c.loop-k.read (with_stack a (start ++ es ++ upper))) (entries_are c) i.takes.2 in
    let more = finished_takes pages found map_is moments f a b i.size x u o.one_page start (waiting c) upper is (room c) (with_stack c.args.self.now (start ++ entries_begun c.args.begun.now.items)) c.loop-k.read takes in
    let sizes = finished_sizes pages found map_is moments f a b i.size x u o.one_page in
    let few = finished_few pages found map_is moments f a b i.size x u o.one_page start (waiting c) upper is (room c) in
    let e = c.mark_begun.ensures in
    record {
      takes = (
        next pages found map_is moments f a b i.size x u o.one_page start (waiting c) upper is (room c),
        finished_stack pages found map_is moments f a b i.size x u o.one_page start (waiting c) upper is (room c),
        subst (λ (n : ℕ). TakesWhole found moments (with_stack c.args.self.now (start ++ entries_begun c.args.begun.now.items)) n (with_stack b (start ++ waiting c ++ next pages found map_is moments f a b i.size x u o.one_page start (waiting c) upper is (room c))))
            (let n : c.loop-k.read + f.len ≡ c.loop-k.read + c.from-read.result = omega arith in n) more,
      );
      begun = begun_more pages found a b (finished_marks pages found map_is moments f a b i.size x u o.one_page) c.args.begun.now.items i.begun;
      pages = sizes.1 ∙ i.pages;
      size = sizes.0 ∙ i.size;
      room = (let r = i.room in omega arith);
      all = (let l = i.all in omega arith);
      known = λ n k. finished_known pages found map_is moments f a b i.size x u o.one_page n (i.known n k);
      words = e.words ∙ i.words;
      moments = e.moments ∙ i.moments;
      reads = (let r = e.reads in let k = i.reads in omega arith);
      objects = e.objects;
    }

pub returns-clause-takes : goal.returns-clause-takes
returns-clause-takes c =
    let i = c.loop-k.invariant in
    let start = c.args.self.now.stack in
    let upper = i.takes.0 in
    let end = c.loop-k-test.false in
    let many = c.len-k-end.ensures.value in
    let none : drop c.loop-k.k c.args.begun.now.items ≡ [] = drop_all c.loop-k.k c.args.begun.now.items (omega arith) in
    let stack : start ++ entries_begun (drop c.loop-k.k c.args.begun.now.items) ++ upper ≡ c.loop-k.self.stack = ap (λ es. start ++ es ++ upper) (ap entries_begun none ∙ entries_none) ∙ ap (λ es. es ++ upper) (append-nil start) ∙ sym i.takes.1 in
    subst (λ es. TakesWhole (found_in c.args.map.now) c.args.reader.now.moments (with_stack c.args.self.now (start ++ entries_begun c.args.begun.now.items)) c.loop-k.read (with_stack c.loop-k.self es)) stack i.takes.2
