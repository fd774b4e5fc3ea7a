-- In a cycle that began with the marks of the last one the old objects are touched.
use Rattle.std.proofs.Common.{◌≡◌, ℕ, ◌<◌, ◌≤◌, true, refl, sym, ◌∙◌, subst, inl, inr, ⊎_elim}
use Rattle.std.proofs.lemmas.Bool.{true≢false, cases_lt}
use Rattle.heap_spec.specs.declared.event.Event.{Event}
use Rattle.heap_spec.specs.declared.event.Event.TheVariants.{Attach, Mutator, Begin, BeginPartial, Roots, Mark, Retrace, Finish, Sweep, Collect, Number}
use Rattle.heap_spec.specs.declared.reply.Reply.{Reply}
use Rattle.heap_spec.specs.Heap.{Heap, Object, HasObject}
use Rattle.heap_spec.specs.Closure.{given}
use Rattle.heap_spec.specs.Runs.{Start, Run, Touched, StaysTouched, heap_after, is_marking, old_births, goes_on}
use Rattle.heap_spec.specs.Histories.{Happens}
use Rattle.heap_spec.specs.Laws.{IsOldOrNew}
use Rattle.heap_spec.specs.PartialCycles.{IsInPartial, begins, on}
use Rattle.heap_spec.proofs.Births.{step_births}

marking : (start : Start) (earlier : Run) {run : Run} → IsInPartial start earlier run → is_marking start run ≡ true
marking start earlier (begins happens) = refl
marking start earlier (on inner happens marks) = marks

-- each object of so old a birth is touched
abbrev AreTouched : Start → Run → ℕ → Type 0
AreTouched start run last = (base : ℕ) (o : Object) → HasObject (heap_after start run) base o → o.birth ≤ last → Touched start run o.birth

module _ (start : Start) (run : Run) (s' : Heap) (last : ℕ) (before : AreTouched start run last) where
  stays : ((base : ℕ) (o : Object) → HasObject s' base o → IsOldOrNew (heap_after start run) base o) → (base : ℕ) (o : Object) → HasObject s' base o → o.birth ≤ last → StaysTouched (Touched start run) (heap_after start run) s' o.birth
  stays either base o has old = (
    base,
    o,
    has,
    refl,
    given has (⊎_elim
        (λ was. inl (subst (Touched start run) (sym was.2.birth) (before base was.0 was.1 (subst (λ b. b ≤ last) was.2.birth old))))
        (λ born. inr born)
        (either base o has)),
  )

  goes : (event : Event) (reply : Reply) → is_marking start run ≡ true → Happens start run event reply s' → is_marking start (goes_on run event reply s') ≡ true → AreTouched start (goes_on run event reply s') last
  goes Attach reply was happens marks = stays (step_births (heap_after start run) Attach reply s' happens)
  goes (Mutator slot call) reply was happens marks = stays (step_births (heap_after start run) (Mutator slot call) reply s' happens)
  goes Begin reply was happens marks = absurd (true≢false (sym was ∙ happens.0))
  goes BeginPartial reply was happens marks = absurd (true≢false (sym was ∙ happens.0))
  goes Finish reply was happens marks = absurd (true≢false (sym marks))
  goes Collect reply was happens marks = absurd (true≢false (sym marks))
  goes Roots reply was happens marks = absurd happens
  goes (Mark n) reply was happens marks = absurd happens
  goes Retrace reply was happens marks = absurd happens
  goes Sweep reply was happens marks = absurd happens
  goes Number reply was happens marks = absurd happens

old_touched : (start : Start) (earlier : Run) {run : Run} → IsInPartial start earlier run → AreTouched start run (old_births start earlier)
old_touched start earlier (begins happens) base o has old = (base, o, has, refl, given has old)
old_touched start earlier (on {run = run} {event = event} {reply = reply} {s' = s'} inner happens marks) base o has old =
    goes start run s' (old_births start earlier) (old_touched start earlier inner) event reply (marking start earlier inner) happens marks base o has old

pub untouched_young : (start : Start) (earlier run : Run) → IsInPartial start earlier run → (base : ℕ) (o : Object) → HasObject (heap_after start run) base o → (Touched start run o.birth → ⊥) → old_births start earlier < o.birth
untouched_young start earlier run inner base o has out = ⊎_elim (λ young. young) (λ old. absurd (out (old_touched start earlier inner base o has old))) (cases_lt (old_births start earlier) o.birth)
