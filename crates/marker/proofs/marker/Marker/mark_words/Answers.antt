use Rattle.std.proofs.Common.{ℕ, ◌≡◌, ◌+◌, ◌*◌, ◌≤◌, ◌∙◌, length, sym, ap, subst, arith}
use Rattle.pages.specs.Memory.{word_index}
use Rattle.words.specs.declared.limits.TheConstants.{PAGE_BYTES, WORD_BYTES}
use Rattle.words.specs.Layout.{page_of}
use Rattle.block_map.specs.FoundIn.{found_in}
use Rattle.marker.specs.Marking.{Marking, word_address}
use Rattle.marker.specs.Growth.{words_from}
use Rattle.marker.specs.Beside.{MarksRow}
use Rattle.marker.proofs.Beside.{row_at}
use Rattle.marker.proofs.Words.{run_words, run_marked, run_carried, run_left, run_page, words_same}
use Rattle.marker.proofs.marker.Marker.mark_words.Goals as goal
use Rattle.marker.proofs.marker.Marker.mark_words.Goals.{After-mark_all}

pub overflow_add-start : goal.overflow_add-start
overflow_add-start c =
    let f = c.from.ensures in let p = c.requires.row.placed.below in let s = c.laws.ensures.few in let n = c.requires.pages in let l = c.requires.row.fits in let at = c.requires.row.at in omega arith

-- the words that were read
run : (c : After-mark_all) → c.read_run.result ≡ words_from c.read_run.ensures.run.0 c.requires.row.object c.args.first c.args.count
run c =
    let f = c.from.ensures in
    let p = c.requires.row.placed.below in let q = c.requires.row.placed.above in let r = c.requires.row.placed.aligned in let l = c.requires.row.fits in let m = c.requires.memory in
    let at = c.requires.row.at in
    let start : ℕ = c.args.base + WORD_BYTES * c.from.result in
    let seen = c.read_run.ensures.run.0 in
    let size = c.read_run.ensures.run.1.size c.args.reader.now.words c.laws-2.ensures.one in
    let is : start ≡ word_address c.requires.row.object c.args.first = omega arith in
    let inside : word_index start + c.args.count ≤ length seen = omega arith in
    c.read_run.ensures.run.2 ∙ run_words seen c.requires.row.object c.args.first c.args.count start is (omega arith) inside

pub carry-requires-clause-inside : goal.carry-requires-clause-inside
carry-requires-clause-inside c =
    let a = (goal.at.carry-requires-clause-inside c).After-mark_all in
    let f = c.from.ensures in let at = c.requires.row.at in
    let consistent = c.laws.ensures.carried in let pages = c.requires.pages in
    let size = ap length (words_same (found_in c.args.map.now) c.args.self.now c.mark_all.ensures.marks) in
    let on = run_page (length c.args.map.now) c.read_run.ensures.run.0 c.requires.row.object c.args.first c.args.count (found_in c.args.map.now) (PAGE_BYTES * length c.args.map.now) c.read_run.result c.mark_all.result c.requires.row.placed c.requires.row.fits (run a) c.mark_all.ensures.stray c.if-mark_all.true in
    omega arith

pub returns-then-mark_all-clause-row : goal.returns-then-mark_all-clause-row
returns-then-mark_all-clause-row c f same =
    let a = (goal.at.returns-then-mark_all-clause-row c).After-mark_all in
    let from = c.from.ensures in let at = c.requires.row.at in
    let consistent = c.laws.ensures.carried in let pages = c.requires.pages in
    let size = ap length (words_same (found_in c.args.map.now) c.args.self.now c.mark_all.ensures.marks) in
    let on = run_page (length c.args.map.now) c.read_run.ensures.run.0 c.requires.row.object c.args.first c.args.count (found_in c.args.map.now) (PAGE_BYTES * length c.args.map.now) c.read_run.result c.mark_all.result c.requires.row.placed c.requires.row.fits (run a) c.mark_all.ensures.stray c.if-mark_all.true in
    row_at (found_in c.args.map.now) c.args.reader.now.moments c.requires.row.object f c.args.first c.args.count (PAGE_BYTES * length c.args.map.now) c.args.self.now c.carry.new.self (c.requires.row.at ∙ sym same)
    (subst (λ (m : Marking). MarksRow (found_in c.args.map.now) c.args.reader.now.moments c.requires.row.object c.args.first c.args.count (PAGE_BYTES * length c.args.map.now) (page_of (word_address c.requires.row.object c.args.first)) c.args.self.now m) (sym c.carry.ensures)
    (record {
      seen = c.read_run.ensures.run.0;
      woven = c.read_run.ensures.run.1;
      marks = run_marked (found_in c.args.map.now) c.args.self.now c.mark_all.new.self _ _ (run a) c.mark_all.ensures.marks;
      carries = run_carried (found_in c.args.map.now) (PAGE_BYTES * length c.args.map.now) c.args.self.now c.mark_all.new.self _ _ _ _ _ (run a) c.mark_all.ensures.marks c.mark_all.ensures.stray c.if-mark_all.true (omega arith) (omega arith);
    }))

pub returns-else-mark_all-clause-row : goal.returns-else-mark_all-clause-row
returns-else-mark_all-clause-row c f same =
    let a = (goal.at.returns-else-mark_all-clause-row c).After-mark_all in
    row_at (found_in c.args.map.now) c.args.reader.now.moments c.requires.row.object f c.args.first c.args.count (PAGE_BYTES * length c.args.map.now) c.args.self.now c.mark_all.new.self (c.requires.row.at ∙ sym same) (record {
      seen = c.read_run.ensures.run.0;
      woven = c.read_run.ensures.run.1;
      marks = run_marked (found_in c.args.map.now) c.args.self.now c.mark_all.new.self _ _ (run a) c.mark_all.ensures.marks;
      carries = run_left (found_in c.args.map.now) (PAGE_BYTES * length c.args.map.now) c.args.self.now c.mark_all.new.self _ _ _ _ (run a) c.mark_all.ensures.marks c.mark_all.ensures.stray c.if-mark_all.false;
    })
