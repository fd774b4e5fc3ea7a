use Rattle.std.proofs.Common.{◌≡◌, ◌+◌, ◌-◌, ◌*◌, ◌≤◌, ◌<◌, ◌∙◌, ◌∷◌, ◌||◌, ℕ, List, [], length, Some, sym, ap, subst, arith}
use Rattle.std.specs.Prelude.{slice_range}
use Rattle.std.proofs.lemmas.Option.{same_Some}
use Rattle.words.specs.declared.limits.TheConstants.{PAGE_BYTES, PAGE_WORDS, WORD_BYTES}
use Rattle.words.specs.Layout.{page_of}
use Rattle.pages.specs.Memory.{word_index}
use Rattle.pages.specs.Reads.{IsWoven}
use Rattle.block_map.specs.declared.found.Found.{Found}
use Rattle.block_map.specs.FoundIn.{found_in}
use Rattle.marker.specs.Marking.{Marking, word_address}
use Rattle.marker.specs.Growth.{MarksWords, TellsStray, begun, and_word, words_from}
use Rattle.marker.specs.Beside.{MarksRow}
use Rattle.marker.specs.Begun.{IsSeen}
use Rattle.marker.proofs.Beginning.{begun_words}
use Rattle.marker.proofs.Words.{run_words, run_marked, run_carried, run_left, tells_append, words_same, words_append}
use Rattle.marker.proofs.marker.Marker.mark_begun.Goals as goal
use Rattle.marker.proofs.marker.Marker.mark_begun.Goals.{After-mark_all-rest}

-- the words behind the first
rest : (c : After-mark_all-rest) → c.read_run-words.result ≡ words_from c.read_run-words.ensures.run.0 c.requires.begun.object 1 (c.requires.begun.object.len - 1)
rest c =
    let b = c.requires.begun in
    let f : Found = b.object in
    let n = c.from-others.ensures in let l = b.len in let some = b.placed.some in
    let above = b.placed.above in let low = b.placed.below in let al = b.placed.aligned in let m = c.requires.memory in
    let seen = c.read_run-words.ensures.run.0 in
    let size = c.read_run-words.ensures.run.1.size c.args.reader.now.words c.laws-2.ensures.one in
    let base : f.base ≡ c.args.begun.base = b.unread.base in
    let start : ℕ = c.args.begun.base + WORD_BYTES in
    let count : c.from-others.result - 1 ≡ f.len - 1 = omega arith in
    let is : start ≡ word_address f 1 = omega arith in
    let inside : word_index start + (f.len - 1) ≤ length seen = omega arith in
    c.read_run-words.ensures.run.2 ∙ ap (λ n. slice_range seen (word_index start) (word_index start + n)) count ∙ run_words seen f 1 (f.len - 1) start is (omega arith) inside

-- all words of the object
row : (c : After-mark_all-rest) → (m : List ℕ) × IsWoven c.args.reader.now.moments m × (c.args.first ∷ c.read_run-words.result ≡ words_from m c.requires.begun.object 0 c.requires.begun.object.len)
row c =
    let b = c.requires.begun in
    let seen = c.read_run-words.ensures.run.0 in
    let size : length seen ≡ PAGE_WORDS * length c.args.map.now = c.read_run-words.ensures.run.1.size c.args.reader.now.words c.laws-2.ensures.one ∙ c.requires.memory in
    let at : c.args.begun.base ≡ b.object.base = sym b.unread.base in
    let m = begun_words (length c.args.map.now) c.args.reader.now.moments b.object b.placed c.args.first seen
    (subst (λ (a : ℕ). IsSeen c.args.reader.now.moments a c.args.first) at c.requires.first)
    c.read_run-words.ensures.run.1 size in
    (m.0, m.1, ap (λ l. c.args.first ∷ l) (rest c) ∙ m.2)

abbrev words_are : After-mark_all-rest → List ℕ
words_are c = c.args.first ∷ c.read_run-words.result

marks : (c : After-mark_all-rest) → MarksWords (found_in c.args.map.now) c.args.self.now (words_are c) c.mark_all-rest.new.self
marks c =
    words_append (found_in c.args.map.now) c.args.self.now (c.args.first ∷ []) c.mark_word-is_stray.new.self
    (and_word {ws = []} {w = c.args.first} begun c.mark_word-is_stray.ensures.marks) c.mark_all-rest.ensures.marks

stray : (c : After-mark_all-rest) → TellsStray (found_in c.args.map.now) (PAGE_BYTES * length c.args.map.now) (words_are c) (c.mark_word-is_stray.result || c.mark_all-rest.result)
stray c =
    tells_append (found_in c.args.map.now) (PAGE_BYTES * length c.args.map.now) (c.args.first ∷ []) c.read_run-words.result c.mark_word-is_stray.result c.mark_all-rest.result
    c.mark_word-is_stray.ensures.stray c.mark_all-rest.ensures.stray

-- the object lies in the heap, and its page is one of it
on_page : (c : After-mark_all-rest) → page_of c.args.begun.base < length c.mark_all-rest.new.self.carried
on_page c =
    let b = c.requires.begun in
    let low = b.placed.below in let above = b.placed.above in let some = b.placed.some in
    let base : b.object.base ≡ c.args.begun.base = b.unread.base in
    let consistent = c.laws.ensures.carried in let pages = c.requires.pages in
    let same = ap length (words_same (found_in c.args.map.now) c.args.self.now (marks c)) in
    omega arith

pub carry-requires-clause-inside : goal.carry-requires-clause-inside
carry-requires-clause-inside c = on_page (goal.at.carry-requires-clause-inside c).After-mark_all-rest

-- the object is that of its base
is_object : (c : After-mark_all-rest) → (f : Found) → found_in c.args.map.now c.args.begun.base ≡ Some f → c.requires.begun.object ≡ f
is_object c f is = same_Some c.requires.begun.object f (sym c.requires.begun.unread.object ∙ ap (found_in c.args.map.now) c.requires.begun.unread.base ∙ is)

pub returns-then-is_stray-rest-clause-row : goal.returns-then-is_stray-rest-clause-row
returns-then-is_stray-rest-clause-row c f is base =
    let a = (goal.at.returns-then-is_stray-rest-clause-row c).After-mark_all-rest in
    let b = c.requires.begun in
    let r = row a in
    let at : b.object.base ≡ c.args.begun.base = b.unread.base in
    let on = on_page a in
    subst (λ (g : Found). MarksRow (found_in c.args.map.now) c.args.reader.now.moments g 0 g.len (PAGE_BYTES * length c.args.map.now) (page_of (word_address g 0)) c.args.self.now c.carry.new.self) (is_object a f is)
    (subst (λ (m : Marking). MarksRow (found_in c.args.map.now) c.args.reader.now.moments b.object 0 b.object.len (PAGE_BYTES * length c.args.map.now) (page_of (word_address b.object 0)) c.args.self.now m) (sym c.carry.ensures)
    (record {
      seen = r.0;
      woven = r.1;
      marks = run_marked (found_in c.args.map.now) c.args.self.now c.mark_all-rest.new.self _ _ r.2 (marks a);
      carries = run_carried (found_in c.args.map.now) (PAGE_BYTES * length c.args.map.now) c.args.self.now c.mark_all-rest.new.self _ _ _ _ _ r.2 (marks a) (stray a) c.if-is_stray-rest.true (omega arith) (omega arith);
    }))

pub returns-else-is_stray-rest-clause-row : goal.returns-else-is_stray-rest-clause-row
returns-else-is_stray-rest-clause-row c f is base =
    let a = (goal.at.returns-else-is_stray-rest-clause-row c).After-mark_all-rest in
    let b = c.requires.begun in
    let r = row a in
    subst (λ (g : Found). MarksRow (found_in c.args.map.now) c.args.reader.now.moments g 0 g.len (PAGE_BYTES * length c.args.map.now) (page_of (word_address g 0)) c.args.self.now c.mark_all-rest.new.self) (is_object a f is)
    (record {
      seen = r.0;
      woven = r.1;
      marks = run_marked (found_in c.args.map.now) c.args.self.now c.mark_all-rest.new.self _ _ r.2 (marks a);
      carries = run_left (found_in c.args.map.now) (PAGE_BYTES * length c.args.map.now) c.args.self.now c.mark_all-rest.new.self _ _ _ _ r.2 (marks a) (stray a) c.if-is_stray-rest.false;
    })
