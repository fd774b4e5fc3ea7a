use Rattle.std.proofs.Common.{[], ◌∷◌, ◌==◌, ◌||◌, ℕ, List, sym, subst}
use Rattle.std.proofs.lemmas.List.Elements.{filter-append}
use Rattle.marker.specs.Growth.{TellsStray}
use Rattle.marker.specs.Marking.{bytes_of}
use Rattle.marker.proofs.Words.{tells_append, tells_nothing}
use Rattle.final_pause.specs.Pauses.{pause_view}
use Rattle.final_pause.specs.Helping.{found, own_words, span_turn, VisitsAll}
use Rattle.final_pause.proofs.Growing.{visits_none, visits_append}
use Rattle.final_pause.proofs.share.Pause.visit_all_own.Goals as goal

pub loop-word-init : goal.loop-word-init
loop-word-init g c =
    let p = pause_view c.args.self.now in
    record { visits = visits_none p c.args.helper.now c.requires.of; stray = tells_nothing (found p) (bytes_of p.marker) }

pub loop-word-preserved : goal.loop-word-preserved
loop-word-preserved g c =
    let p = pause_view c.args.self.now in let i = c.loop-word.invariant in let e = c.visit_own-stray.ensures in
    let old = c.args.helper.now in let h = c.loop-word.helper in let h' = c.visit_own-stray.new.helper in let w : ℕ = c.in-Some.word in
    let split = sym (filter-append (λ (n : ℕ). span_turn p n == old.place) c.loop-word.yielded (w ∷ [])) in
    let v = subst (λ (n : ℕ). VisitsAll p (own_words p n (w ∷ [])) h h') i.visits.extends.place e.visits in
    let t = subst (λ (n : ℕ). TellsStray (found p) (bytes_of p.marker) (own_words p n (w ∷ [])) c.visit_own-stray.result) i.visits.extends.place e.stray in
    record {
      visits = subst (λ (l : List ℕ). VisitsAll p l old h') split (visits_append p (own_words p old.place c.loop-word.yielded) (own_words p old.place (w ∷ [])) old h h' i.visits v);
      stray = subst (λ (l : List ℕ). TellsStray (found p) (bytes_of p.marker) l (c.loop-word.stray || c.visit_own-stray.result)) split
          (tells_append (found p) (bytes_of p.marker) (own_words p old.place c.loop-word.yielded) (own_words p old.place (w ∷ [])) c.loop-word.stray c.visit_own-stray.result i.stray t);
    }
