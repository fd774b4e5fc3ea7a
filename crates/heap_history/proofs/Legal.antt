-- The chain of states behind a history is a run that tells it.
use Rattle.std.proofs.Common.{◌≡◌, ℕ, List, [], ◌∷◌, sym, ap, ◌∙◌, subst}
use Rattle.std.specs.Prelude.{map}
use Rattle.heap_spec.specs.Runs.{Moment, Told, Run, opening_start}
use Rattle.heap_spec.specs.Histories.{IsRun, LegalHistory}
use Rattle.heap_spec.specs.SequentialObject.{HeapState, StateStep}
use Rattle.history.specs.Histories.{Walks}
use Rattle.heap_history.specs.Passes.{MadeEvent, HeapPass, IsLegalPass}
use Rattle.heap_history.specs.Laws.{tells}
use Rattle.heap_history.proofs.Stored.{reached_fresh}

abbrev told : Run → List Told
told run = map (λ (m : Moment). m.told) run

walks_tell : (s t : HeapState) (es : List MadeEvent) → Walks StateStep s es t → (t.pages ≡ s.pages) × (told t.run ≡ tells (told s.run) es)
walks_tell s t [] w = (ap (λ (x : HeapState). x.pages) (sym w), ap (λ (x : HeapState). told x.run) (sym w))
walks_tell s t (e ∷ es) w =
    let rest = walks_tell w.0 t es w.2 in
    let goes = w.1.goes in
    (rest.0 ∙ ap (λ (x : HeapState). x.pages) goes, rest.1 ∙ ap (λ (x : HeapState). tells (told x.run) es) goes)

pub seen_is_legal : (pages : ℕ) (pass : HeapPass) → IsLegalPass pages pass → LegalHistory pages (tells [] pass.seen)
seen_is_legal pages pass fine =
    let t = fine.legal.0 in
    let reached = fine.legal.1 in
    let tell = walks_tell reached.0 t pass.seen reached.2 in (
      t.run,
      subst (λ n. IsRun (opening_start n) t.run) (tell.0 ∙ reached.1.pages_are) (reached_fresh pages pass.seen t reached).is_run,
      tell.1 ∙ ap (λ (r : Run). tells (told r) pass.seen) reached.1.nothing,
    )
