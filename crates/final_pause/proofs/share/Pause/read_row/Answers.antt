use Rattle.std.proofs.Common.{◌≡◌, ◌∙◌, ℕ, true, false, List, length, set, refl, sym, ap, subst, arith}
use Rattle.words.specs.Layout.{page_of}
use Rattle.marker.specs.Marking.{bytes_of}
use Rattle.marker.specs.Growth.{CarriesPage, TellsStray, words_from}
use Rattle.marker.proofs.Words.{run_page, carries_some, carries_none}
use Rattle.final_pause.specs.Pauses.{pause_view}
use Rattle.final_pause.specs.Helping.{found, VisitsAll}
use Rattle.final_pause.proofs.Reading.{lent_words, reads_run}
use Rattle.final_pause.proofs.share.Pause.read_row.Goals as goal

pub read_run-requires-clause-above : goal.read_run-requires-clause-above
read_run-requires-clause-above g c =
    let row = c.requires.row.2 in let q = (c.requires.fits.ready.map.placed _ _ row.is).above in let at = row.at in omega arith

pub read_run-requires-clause-inside : goal.read_run-requires-clause-inside
read_run-requires-clause-inside g c =
    let row = c.requires.row.2 in let r = c.requires.fits.ready in let placed = r.map.placed _ _ row.is in
    let s = row.at in let p = placed.below in let q = placed.above in let a = placed.aligned in let l = row.inside in let m = r.memory in
    omega arith

pub page_of-requires : goal.page_of-requires
page_of-requires g c =
    let row = c.requires.row.2 in let q = (c.requires.fits.ready.map.placed _ _ row.is).above in let at = row.at in omega arith

-- where a word is stray, there is one, and so its page is one of the heap
pub carry-requires : goal.carry-requires
carry-requires g c =
    let p = pause_view c.args.self.now in let f = c.requires.row.0 in let first = c.requires.row.1 in let row = c.requires.row.2 in
    let r = c.requires.fits.ready in let placed = r.map.placed _ _ row.is in
    let run = lent_words p.memory p.memory c.read_run.result (length p.map) f first c.args.count c.args.start placed row.inside r.memory row.at c.read_run.ensures refl in
    let tells : TellsStray (found p) (bytes_of p.marker) (words_from p.memory f first c.args.count) true =
    subst (λ (ws : List ℕ). TellsStray (found p) (bytes_of p.marker) ws true) run (subst (TellsStray (found p) (bytes_of p.marker) c.read_run.result) c.if-visit_all.true c.visit_all.ensures.stray) in
    let q = c.page_of.ensures in let at = row.at in
    let on = run_page (length p.map) p.memory f first c.args.count (found p) (bytes_of p.marker) _ true placed row.inside refl tells refl in
    let size = c.visit_all.ensures.visits.extends.carried_len in let pages = c.requires.fits.carried in
    omega arith

pub returns-then-visit_all : goal.returns-then-visit_all
returns-then-visit_all g c f first row =
    let p = pause_view c.args.self.now in let r = c.requires.fits.ready in let placed = r.map.placed _ _ row.is in
    let run = lent_words p.memory p.memory c.read_run.result (length p.map) f first c.args.count c.args.start placed row.inside r.memory row.at c.read_run.ensures refl in
    let tells : TellsStray (found p) (bytes_of p.marker) (words_from p.memory f first c.args.count) true =
    subst (λ (ws : List ℕ). TellsStray (found p) (bytes_of p.marker) ws true) run (subst (TellsStray (found p) (bytes_of p.marker) c.read_run.result) c.if-visit_all.true c.visit_all.ensures.stray) in
    let q = c.page_of.ensures in let at = row.at in
    let on = run_page (length p.map) p.memory f first c.args.count (found p) (bytes_of p.marker) _ true placed row.inside refl tells refl in
    let size = c.visit_all.ensures.visits.extends.carried_len in let pages = c.requires.fits.carried in
    let k = c.carry.ensures in
    let is : c.page_of.result ≡ page_of c.args.start = omega arith in
    reads_run p f first c.args.count (page_of c.args.start) c.args.helper.now c.visit_all.new.helper c.carry.new.helper row.inside row.one_page
    (subst (λ (ws : List ℕ). VisitsAll p ws c.args.helper.now c.visit_all.new.helper) run c.visit_all.ensures.visits)
    k.claimer k.waiting k.dirty k.place
    (subst (CarriesPage (found p) (bytes_of p.marker) (words_from p.memory f first c.args.count) (page_of c.args.start) c.visit_all.new.helper.carried)
    (ap (λ (n : ℕ). set c.visit_all.new.helper.carried n true) (sym is) ∙ sym k.carried)
    (carries_some (found p) (bytes_of p.marker) _ (page_of c.args.start) c.visit_all.new.helper.carried (omega arith) tells))

pub returns-else-visit_all : goal.returns-else-visit_all
returns-else-visit_all g c f first row =
    let p = pause_view c.args.self.now in let r = c.requires.fits.ready in let placed = r.map.placed _ _ row.is in
    let run = lent_words p.memory p.memory c.read_run.result (length p.map) f first c.args.count c.args.start placed row.inside r.memory row.at c.read_run.ensures refl in
    let tells : TellsStray (found p) (bytes_of p.marker) (words_from p.memory f first c.args.count) false =
    subst (λ (ws : List ℕ). TellsStray (found p) (bytes_of p.marker) ws false) run (subst (TellsStray (found p) (bytes_of p.marker) c.read_run.result) c.if-visit_all.false c.visit_all.ensures.stray) in
    let h = c.visit_all.new.helper in
    reads_run p f first c.args.count (page_of c.args.start) c.args.helper.now h h row.inside row.one_page
    (subst (λ (ws : List ℕ). VisitsAll p ws c.args.helper.now c.visit_all.new.helper) run c.visit_all.ensures.visits)
    refl refl refl refl
    (carries_none (found p) (bytes_of p.marker) _ (page_of c.args.start) h.carried tells)

pub overflow_cast-page_of : goal.overflow_cast-page_of
overflow_cast-page_of g c =
    let row = c.requires.row.2 in let r = c.requires.fits.ready in let placed = r.map.placed _ _ row.is in
    let at = row.at in let p = placed.below in let a = placed.above in let s = r.few in let l = row.inside in let q = c.page_of.ensures in omega arith
