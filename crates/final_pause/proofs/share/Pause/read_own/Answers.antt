use Rattle.std.proofs.Common.{◌≡◌, ◌∙◌, ℕ, true, false, List, length, set, refl, sym, ap, subst, arith}
use Rattle.words.specs.Layout.{page_of}
use Rattle.marker.specs.Marking.{bytes_of, word_address}
use Rattle.marker.specs.Growth.{CarriesPage, TellsStray, words_from}
use Rattle.marker.proofs.Words.{run_page, carries_some, carries_none}
use Rattle.final_pause.specs.Pauses.{pause_view}
use Rattle.final_pause.specs.Helping.{found, own_words, VisitsAll}
use Rattle.final_pause.proofs.Reading.{lent_words}
use Rattle.final_pause.proofs.OwnWords.{tells_whole, reads_own}
use Rattle.final_pause.proofs.share.Pause.read_own.Goals as goal

pub overflow_add-start : goal.overflow_add-start
overflow_add-start g c =
    let f = c.from.ensures in let p = (c.requires.fits.ready.map.placed _ _ c.requires.object.points).below in
    let s = c.requires.fits.ready.few in let l = c.requires.inside in omega arith

pub read_run-requires-clause-above : goal.read_run-requires-clause-above
read_run-requires-clause-above g c =
    let q = (c.requires.fits.ready.map.placed _ _ c.requires.object.points).above in omega arith

pub read_run-requires-clause-inside : goal.read_run-requires-clause-inside
read_run-requires-clause-inside g c =
    let r = c.requires.fits.ready in let at = r.map.placed _ _ c.requires.object.points in
    let f = c.from.ensures in let p = at.below in let q = at.above in let a = at.aligned in let l = c.requires.inside in let m = r.memory in
    omega arith

pub page_of-requires : goal.page_of-requires
page_of-requires g c =
    let q = (c.requires.fits.ready.map.placed _ _ c.requires.object.points).above in omega arith

-- where a word is stray, there is one, and so its page is one of the heap
pub carry-requires : goal.carry-requires
carry-requires g c =
    let p = pause_view c.args.self.now in let object = c.args.piece.found in let r = c.requires.fits.ready in let placed = r.map.placed _ _ c.requires.object.points in
    let f = c.from.ensures in
    let run = lent_words p.memory p.memory c.read_run.result (length p.map) object c.args.piece.first c.args.piece.count _ placed c.requires.inside r.memory (omega arith) c.read_run.ensures refl in
    let tells : TellsStray (found p) (bytes_of p.marker) (own_words p c.args.helper.now.place (words_from p.memory object c.args.piece.first c.args.piece.count)) true =
    subst (λ (ws : List ℕ). TellsStray (found p) (bytes_of p.marker) (own_words p c.args.helper.now.place ws) true) run (subst (TellsStray (found p) (bytes_of p.marker) (own_words p c.args.helper.now.place c.read_run.result)) c.if-visit_all_own.true c.visit_all_own.ensures.stray) in
    let q = c.page_of.ensures in
    let on = run_page (length p.map) p.memory object c.args.piece.first c.args.piece.count (found p) (bytes_of p.marker) _ true placed c.requires.inside refl (tells_whole p c.args.helper.now.place _ tells) refl in
    let size = c.visit_all_own.ensures.visits.extends.carried_len in let pages = c.requires.fits.carried in
    omega arith

pub returns-then-visit_all_own : goal.returns-then-visit_all_own
returns-then-visit_all_own g c =
    let p = pause_view c.args.self.now in let object = c.args.piece.found in let r = c.requires.fits.ready in let placed = r.map.placed _ _ c.requires.object.points in
    let f = c.from.ensures in
    let run = lent_words p.memory p.memory c.read_run.result (length p.map) object c.args.piece.first c.args.piece.count _ placed c.requires.inside r.memory (omega arith) c.read_run.ensures refl in
    let tells : TellsStray (found p) (bytes_of p.marker) (own_words p c.args.helper.now.place (words_from p.memory object c.args.piece.first c.args.piece.count)) true =
    subst (λ (ws : List ℕ). TellsStray (found p) (bytes_of p.marker) (own_words p c.args.helper.now.place ws) true) run (subst (TellsStray (found p) (bytes_of p.marker) (own_words p c.args.helper.now.place c.read_run.result)) c.if-visit_all_own.true c.visit_all_own.ensures.stray) in
    let q = c.page_of.ensures in
    let on = run_page (length p.map) p.memory object c.args.piece.first c.args.piece.count (found p) (bytes_of p.marker) _ true placed c.requires.inside refl (tells_whole p c.args.helper.now.place _ tells) refl in
    let size = c.visit_all_own.ensures.visits.extends.carried_len in let pages = c.requires.fits.carried in
    let k = c.carry.ensures in
    let is : c.page_of.result ≡ page_of (word_address object c.args.piece.first) = omega arith in
    reads_own p object c.args.piece.first c.args.piece.count (page_of (word_address object c.args.piece.first)) c.args.helper.now c.visit_all_own.new.helper c.carry.new.helper c.requires.inside c.requires.one_page
    (subst (λ (ws : List ℕ). VisitsAll p (own_words p c.args.helper.now.place ws) c.args.helper.now c.visit_all_own.new.helper) run c.visit_all_own.ensures.visits)
    k.claimer k.waiting k.dirty k.place
    (subst (CarriesPage (found p) (bytes_of p.marker) (own_words p c.args.helper.now.place (words_from p.memory object c.args.piece.first c.args.piece.count)) (page_of (word_address object c.args.piece.first)) c.visit_all_own.new.helper.carried)
    (ap (λ (n : ℕ). set c.visit_all_own.new.helper.carried n true) (sym is) ∙ sym k.carried)
    (carries_some (found p) (bytes_of p.marker) _ (page_of (word_address object c.args.piece.first)) c.visit_all_own.new.helper.carried (omega arith) tells))

pub returns-else-visit_all_own : goal.returns-else-visit_all_own
returns-else-visit_all_own g c =
    let p = pause_view c.args.self.now in let object = c.args.piece.found in let r = c.requires.fits.ready in let placed = r.map.placed _ _ c.requires.object.points in
    let f = c.from.ensures in
    let run = lent_words p.memory p.memory c.read_run.result (length p.map) object c.args.piece.first c.args.piece.count _ placed c.requires.inside r.memory (omega arith) c.read_run.ensures refl in
    let tells : TellsStray (found p) (bytes_of p.marker) (own_words p c.args.helper.now.place (words_from p.memory object c.args.piece.first c.args.piece.count)) false =
    subst (λ (ws : List ℕ). TellsStray (found p) (bytes_of p.marker) (own_words p c.args.helper.now.place ws) false) run (subst (TellsStray (found p) (bytes_of p.marker) (own_words p c.args.helper.now.place c.read_run.result)) c.if-visit_all_own.false c.visit_all_own.ensures.stray) in
    let h = c.visit_all_own.new.helper in
    reads_own p object c.args.piece.first c.args.piece.count (page_of (word_address object c.args.piece.first)) c.args.helper.now h h c.requires.inside c.requires.one_page
    (subst (λ (ws : List ℕ). VisitsAll p (own_words p c.args.helper.now.place ws) c.args.helper.now h) run c.visit_all_own.ensures.visits)
    refl refl refl refl
    (carries_none (found p) (bytes_of p.marker) _ (page_of (word_address object c.args.piece.first)) h.carried tells)

pub overflow_cast-page_of : goal.overflow_cast-page_of
overflow_cast-page_of g c =
    let r = c.requires.fits.ready in let placed = r.map.placed _ _ c.requires.object.points in
    let f = c.from.ensures in let p = placed.below in let a = placed.above in let s = r.few in let l = c.requires.inside in let q = c.page_of.ensures in omega arith
