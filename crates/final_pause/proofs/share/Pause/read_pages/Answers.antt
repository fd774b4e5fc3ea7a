use Rattle.std.proofs.Common.{ℕ, ◌<◌, length, subst, below_more, ⊎_elim, arith}
use Rattle.std.proofs.lemmas.Bool.{cases_lt}
use Rattle.marker.specs.Marking.{word_address}
use Rattle.marker.proofs.Rescanning.{reads_own}
use Rattle.words.specs.Bits.{Has}
use Rattle.mark_bits.specs.Tables.{view}
use Rattle.final_pause.specs.Dealing.{rank}
use Rattle.final_pause.specs.Pauses.{pause_view}
use Rattle.final_pause.specs.Helping.{found}
use Rattle.final_pause.specs.Serving.{IsPageRead}
use Rattle.final_pause.proofs.Serving.{serves_trans, words_more}
use Rattle.final_pause.proofs.share.Pause.read_pages.Goals as goal

pub loop-page-preserved : goal.loop-page-preserved
loop-page-preserved g c =
    let p = pause_view c.args.self.now in let old = c.args.helper.now in let h = c.loop-page.helper in let page = c.loop-page.page in
    let inv = c.loop-page.invariant in let h' = c.read_dirty-number.new.helper in let s = c.read_dirty-number.ensures.serves in let place = old.place in
    let row = p.marker.dirty in
    record {
      serves = serves_trans p old h h' inv.serves s;
      read = λ k lt d. below_more (λ j. Has row j → IsPageRead p (view h'.claimer) h'.carried place (rank row j) j) page
          (λ j low d. words_more p (view h.claimer) (view h'.claimer) h.carried h'.carried s.learns.known s.carried place (rank row j) _ _ (inv.read j low d))
          (λ d. subst (λ (n : ℕ). IsPageRead p (view h'.claimer) h'.carried place n page) inv.count
          (subst (λ (n : ℕ). IsPageRead p (view h'.claimer) h'.carried n c.loop-page.number page) inv.serves.place (c.read_dirty-number.ensures.read d)))
          k lt d;
      count = c.read_dirty-number.ensures.count;
      few = c.read_dirty-number.ensures.few;
    }

pub returns-clause-read : goal.returns-clause-read
returns-clause-read g c = λ page inside d f o n m turn i lt from below. ⊎_elim
    (λ (used : page < c.used-page-end.result).
    let end = c.loop-page-test.false in
    c.loop-page.invariant.read page (omega (arith, used, end)) d f o n m turn i lt from below)
    (λ past.
    let p = pause_view c.args.self.now in let map = c.requires.fits.ready.map in
    let on = c.used-page-end.ensures.below (word_address f i) f (reads_own (length p.map) (found p) map f i o lt) in
    let above = (map.placed f.base f o).above in
    absurd (omega (arith, past, on, from, above)))
    (cases_lt page c.used-page-end.result)
