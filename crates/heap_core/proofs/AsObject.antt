-- The core's lines as steps of its states, and the marker's as none.
use Rattle.std.proofs.Common.{Result, Ok, Err, ◌≡◌, ℕ, Bool, true, false, refl, sym, ap, ◌∙◌, subst, true≢false}
use Rattle.std.specs.Prelude.{⊤, slice_get}
use Rattle.words.specs.declared.refusal.Refusal.{Refusal}
use Rattle.roots.specs.Roots.{root_words_of}
use Rattle.history.specs.Objects.{StepsFrom}
use Rattle.heap_spec.specs.declared.event.Event.{Event}
use Rattle.heap_spec.specs.declared.event.Event.TheVariants.{Attach, Mutator, Begin, BeginPartial, Roots, Mark, Retrace, Finish, Sweep, Collect, Number}
use Rattle.heap_spec.specs.declared.reply.Reply.{Reply}
use Rattle.heap_spec.specs.Heap.{Heap}
use Rattle.heap_spec.specs.Runs.{Start, Run, opening_start, is_marking, needs_full, goes_on}
use Rattle.heap_spec.specs.Histories.{Happens}
use Rattle.heap_spec.specs.Transcripts.{LineOf, IsWrongPhase}
use Rattle.heap_spec.specs.Ranges.{InRange}
use Rattle.heap_spec.specs.SequentialObject.{HeapState, heap_of, MayMake, StateStep}
use Rattle.heap_core.specs.CoreContents.{CoreContents}
use Rattle.heap_core.specs.Standing.{StandsFor}
use Rattle.heap_core.specs.Collections.{ClosesMarks, IsGrantedInPhase}
use Rattle.heap_core.specs.Following.{Follows, IsLine}
use Rattle.heap_core.specs.AsObject.{Stands, Can}
use Rattle.heap_core.proofs.Following.{marks_follow}

-- who may ask the core for an event fits it
can_fits : (c : CoreContents) (s : Heap) (who : ℕ) (event : Event) → StandsFor c s → Can c who event → MayMake s who event
can_fits c s who Attach stands can = (can.0, rw stands.mutators (can.1.is_vacant, can.1.lowest))
can_fits c s who (Mutator slot call) stands can = record { range = can.range; own = can.own; mutator = can.mutator; attached = ap (λ l. slice_get l who) stands.mutators ∙ can.attached }
can_fits c s who Begin stands can = can.0
can_fits c s who BeginPartial stands can = can.0
can_fits c s who Roots stands can = can
can_fits c s who (Mark n) stands can = can
can_fits c s who Retrace stands can = can
can_fits c s who Finish stands can = can.0
can_fits c s who Sweep stands can = can
can_fits c s who Collect stands can = can
can_fits c s who Number stands can = can

-- and the phase grants it
can_right : (c : CoreContents) (who : ℕ) (event : Event) (marking : Bool) → c.cycle.is_marking ≡ marking → Can c who event → IsWrongPhase marking event → ⊥
can_right c who Attach marking is can wrong = wrong
can_right c who (Mutator slot call) marking is can wrong = wrong
can_right c who Begin marking is can wrong = true≢false (sym wrong ∙ (sym is ∙ can.1))
can_right c who BeginPartial marking is can wrong = true≢false (sym wrong ∙ (sym is ∙ can.1))
can_right c who Roots marking is can wrong = can
can_right c who (Mark n) marking is can wrong = can
can_right c who Retrace marking is can wrong = can
can_right c who Finish marking is can wrong = true≢false (sym can.1 ∙ (is ∙ wrong))
can_right c who Sweep marking is can wrong = wrong
can_right c who Collect marking is can wrong = wrong
can_right c who Number marking is can wrong = wrong

-- and no full cycle is needed where one would be refused
can_need : (c : CoreContents) (who : ℕ) (event : Event) → event ≡ BeginPartial → Can c who event → c.cycle.needs_full ≡ false
can_need c who event is can = let partial = subst (Can c who) is can in partial.2

-- So its line goes on by what happens.
happened : (start : Start) (run : Run) (s : Heap) (who : ℕ) {event : Event} {reply : Reply} {next : Run} → LineOf start run event reply next → MayMake s who event → (IsWrongPhase (is_marking start run) event → ⊥) → (event ≡ BeginPartial → needs_full start run ≡ false)
    → (s' : Heap) × Happens start run event reply s' × (next ≡ goes_on run event reply s')
happened start run s who (LineOf.happens {s' = s'} h) fits right need = (s', h, refl)
happened start run s who (LineOf.refused wrong) fits right need = absurd (right wrong)
happened start run s who (LineOf.needs idle needs) fits right need = absurd (true≢false (sym needs ∙ need refl))
happened start run s who (LineOf.roots on) fits right need = absurd fits
happened start run s who (LineOf.mark on few) fits right need = absurd fits
happened start run s who (LineOf.retrace on few) fits right need = absurd fits
happened start run s who (LineOf.sweep few) fits right need = absurd fits
happened start run s who LineOf.number fits right need = absurd fits

pub line_steps : (old new : CoreContents) (who : ℕ) (event : Event) (reply : Reply) → Can old who event → InRange event → IsLine old event reply new → StepsFrom Stands StateStep old who event reply new
line_steps old new who event reply can range line state follows =
    let start = opening_start state.pages in
    let next = line start state.run follows in
    let fits = can_fits old (heap_of state) who event follows.stands can in
    let went = happened start state.run (heap_of state) who next.1 fits (can_right old who event (is_marking start state.run) follows.phase can) (λ is. sym follows.needs ∙ can_need old who event is can) in (
      record { pages = state.pages; run = next.0 },
      record { fits = fits; in_range = range; heap = went.0; happens = went.1; goes = ap (λ (run : Run). record { pages = state.pages; run = run }) went.2 },
      next.2,
    )

-- an event that nothing can happen by
abbrev IsQuiet : Event → Type 0
IsQuiet Attach = ⊥
IsQuiet (Mutator slot call) = ⊥
IsQuiet Begin = ⊥
IsQuiet BeginPartial = ⊥
IsQuiet Roots = Unit {0}
IsQuiet (Mark n) = Unit {0}
IsQuiet Retrace = Unit {0}
IsQuiet Finish = ⊥
IsQuiet Sweep = Unit {0}
IsQuiet Collect = ⊥
IsQuiet Number = Unit {0}

nothing_happens : (start : Start) (run : Run) (event : Event) (reply : Reply) (s' : Heap) → IsQuiet event → Happens start run event reply s' → ⊥
nothing_happens start run Attach reply s' quiet h = quiet
nothing_happens start run (Mutator slot call) reply s' quiet h = quiet
nothing_happens start run Begin reply s' quiet h = quiet
nothing_happens start run BeginPartial reply s' quiet h = quiet
nothing_happens start run Roots reply s' quiet h = h
nothing_happens start run (Mark n) reply s' quiet h = h
nothing_happens start run Retrace reply s' quiet h = h
nothing_happens start run Finish reply s' quiet h = quiet
nothing_happens start run Sweep reply s' quiet h = h
nothing_happens start run Collect reply s' quiet h = quiet
nothing_happens start run Number reply s' quiet h = h

-- its line leaves the run as it is
run_stays : (start : Start) (run : Run) {event : Event} {reply : Reply} {next : Run} → IsQuiet event → LineOf start run event reply next → next ≡ run
run_stays start run {event = event} {reply = reply} quiet (LineOf.happens {s' = s'} h) = absurd (nothing_happens start run event reply s' quiet h)
run_stays start run quiet (LineOf.refused wrong) = refl
run_stays start run quiet (LineOf.needs idle need) = absurd quiet
run_stays start run quiet (LineOf.roots on) = refl
run_stays start run quiet (LineOf.mark on few) = refl
run_stays start run quiet (LineOf.retrace on few) = refl
run_stays start run quiet (LineOf.sweep few) = refl
run_stays start run quiet LineOf.number = refl

-- so that the core stands afterwards for all that it stood for
pub line_stays : (old new : CoreContents) (event : Event) (reply : Reply) → IsQuiet event → IsLine old event reply new → (state : HeapState) → Stands old state → Stands new state
line_stays old new event reply quiet line state follows =
    let next = line (opening_start state.pages) state.run follows in
    subst (λ (run : Run). Follows new (opening_start state.pages) run) (run_stays (opening_start state.pages) state.run quiet next.1) next.2

-- Closing the marks is no event either.
pub closes_stay : (old new : CoreContents) (r : Result ⊤ Refusal) → IsGrantedInPhase true old r new (λ _. ClosesMarks old new) → (state : HeapState) → Stands old state → Stands new state
closes_stay old new (Ok done) g state follows = marks_follow (root_words_of old.roots) old new g.0 g.1.marks (opening_start state.pages) state.run follows
closes_stay old new (Err why) g state follows = subst (λ (c : CoreContents). Stands c state) (sym g.2) follows
