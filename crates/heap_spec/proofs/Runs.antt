-- What holds in every run of a new heap.
use Rattle.std.proofs.Common.{◌≡◌, ◌+◌, ◌*◌, Bool, true, false, cond, inl, inr, ℕ, List, [], ◌∷◌, refl, sym, ap, ◌∙◌, subst}
use Rattle.std.specs.Prelude.{All, Option, Some, None, Contains, slice_index, ◌==◌, ◌&&◌}
use Rattle.std.proofs.lemmas.Bool.{true≢false, eqb-true}
use Rattle.std.proofs.lemmas.List.Folds.{Any-from_list_any}
use Rattle.std.proofs.lemmas.Option.{none-some, same_Some}
use Rattle.std.proofs.lemmas.List.Elements.{All-head, All-tail, All-contains}
use Rattle.heap_spec.specs.declared.event.Event.{Event}
use Rattle.heap_spec.specs.declared.event.Event.TheVariants.{Attach, Mutator, Begin, BeginPartial, Roots, Mark, Retrace, Finish, Sweep, Collect, Number}
use Rattle.heap_spec.specs.declared.reply.Reply.{Reply}
use Rattle.heap_spec.specs.Heap.{Heap, Object, HasObject, is_born, names, loses_word, with_cleared}
use Rattle.heap_spec.specs.Closure.{Reached, IsInClosure}
use Rattle.heap_spec.specs.Runs.{Start, Run, Moment, opening_start, heap_after, old_births, Touched, touched_after}
use Rattle.heap_spec.specs.Cycles.{TakesOut, CollectsFully}
use Rattle.heap_spec.specs.Histories.{Happens, IsRun}
use Rattle.heap_spec.specs.Ranges.{InRange}
use Rattle.heap_spec.specs.Sound.{IsSound, HaveDistinctBirths}
use Rattle.heap_spec.specs.Laws.{IsRunFromOpening, KeepsReached, HasOnlyReached, HadLink, IsKeptWord}
use Rattle.heap_spec.proofs.Closures.{in_idem, reached_in}
use Rattle.heap_spec.proofs.Links.{left_by, same_left, stays_by, same_cleared, cleared_at}
use Rattle.heap_spec.proofs.Calls.{calls_kept, attaches_kept, takes_out_kept, opening_is}

-- what happens next keeps the heap sound
pub happens_kept : (start : Start) (run : Run) (event : Event) (reply : Reply) (s' : Heap) → IsSound (heap_after start run) → InRange event → Happens start run event reply s' → IsSound s'
happens_kept start run Attach reply s' h range step = attaches_kept _ h step
happens_kept start run (Mutator slot call) reply s' h range step = calls_kept _ slot call h range.1 step
happens_kept start run Begin reply s' h range step = subst IsSound (sym step.1.1) h
happens_kept start run BeginPartial reply s' h range step = subst IsSound (sym step.2.1) h
happens_kept start run Finish reply s' h range step = takes_out_kept _ _ _ s' h step.1.takes
happens_kept start run Collect reply s' h range step = takes_out_kept _ _ _ s' h step.takes
happens_kept start run Roots reply s' h range step = absurd step
happens_kept start run (Mark n) reply s' h range step = absurd step
happens_kept start run Retrace reply s' h range step = absurd step
happens_kept start run Sweep reply s' h range step = absurd step
happens_kept start run Number reply s' h range step = absurd step

pub run_kept : (start : Start) (run : Run) → IsSound start.heap → All (λ (m : Moment). InRange m.told.event) run → IsRun start run → IsSound (heap_after start run)
run_kept start [] h range runs = h
run_kept start (m ∷ run) h range runs =
    happens_kept start run m.told.event m.told.reply m.heap (run_kept start run h (All-tail (λ (m : Moment). InRange m.told.event) m run range) runs.1) (All-head (λ (m : Moment). InRange m.told.event) m run range) runs.0

pub fresh_sound : (pages : ℕ) (run : Run) → IsRunFromOpening pages run → IsSound (heap_after (opening_start pages) run)
fresh_sound pages run h = run_kept (opening_start pages) run (opening_is pages h.some_page h.few_pages) h.in_range h.is_run

-- after any event the touched births are closed
after_closed : (event : Event) (aged : ℕ) (before : ℕ → Type 0) (old new : Heap) → HaveDistinctBirths new.objects → (birth : ℕ) → IsInClosure new (touched_after event aged before old new) birth → touched_after event aged before old new birth
after_closed Begin aged before old new d birth x = in_idem new _ d birth x
after_closed BeginPartial aged before old new d birth x = in_idem new _ d birth x
after_closed _ aged before old new d birth x = in_idem new _ d birth x

pub touched_closed : (start : Start) (m : Moment) (run : Run) → HaveDistinctBirths m.heap.objects → (birth : ℕ) → IsInClosure m.heap (Touched start (m ∷ run)) birth → Touched start (m ∷ run) birth
touched_closed start m run d birth x = after_closed m.told.event (old_births start run) (Touched start run) (heap_after start run) m.heap d birth x

pub fresh_touched_closed : (pages : ℕ) (run : Run) → IsRunFromOpening pages run → (birth : ℕ) → IsInClosure (heap_after (opening_start pages) run) (Touched (opening_start pages) run) birth → Touched (opening_start pages) run birth
fresh_touched_closed pages [] h birth x = absurd (none-some x.1 x.2)
fresh_touched_closed pages (m ∷ run) h birth x = let sound = fresh_sound pages (m ∷ run) h in touched_closed (opening_start pages) m run sound.objects.distinct birth x

-- and they hold what is reached
after_reached : (event : Event) (aged : ℕ) (before : ℕ → Type 0) (old new : Heap) (base : ℕ) (o : Object) → HasObject new base o → Reached new base → touched_after event aged before old new o.birth
after_reached Begin aged before old new base o has r = (base, o, has, refl, r)
after_reached BeginPartial aged before old new base o has r = (base, o, has, refl, reached_in new _ r)
after_reached _ aged before old new base o has r = (base, o, has, refl, reached_in new _ r)

pub touched_reached : (start : Start) (m : Moment) (run : Run) (base : ℕ) (o : Object) → HasObject m.heap base o → Reached m.heap base → Touched start (m ∷ run) o.birth
touched_reached start m run base o has r = after_reached m.told.event (old_births start run) (Touched start run) (heap_after start run) m.heap base o has r

pub fresh_touched_reached : (pages : ℕ) (run : Run) (base : ℕ) (o : Object) → HasObject (heap_after (opening_start pages) run) base o → Reached (heap_after (opening_start pages) run) base → Touched (opening_start pages) run o.birth
fresh_touched_reached pages [] base o has r = absurd (none-some o has)
fresh_touched_reached pages (m ∷ run) base o has r = touched_reached (opening_start pages) m run base o has r

-- what a collection takes out was not reached
not_among : (s : Heap) (bases : List ℕ) (reply : Reply) (s' : Heap) → TakesOut s bases reply s' → (base : ℕ) → Reached s base → Contains bases base → ⊥
not_among s bases reply s' takes base r among = All-contains (λ b. Reached s b → ⊥) bases base takes.unreached among r

-- a collection keeps what is reached
reached_stays : (s : Heap) (bases : List ℕ) (reply : Reply) (s' : Heap) → TakesOut s bases reply s' → (base : ℕ) (o : Object) → HasObject s base o → Reached s base
    → HasObject s' base (with_cleared (loses_word s bases) base o)
reached_stays s bases reply s' takes base o has r =
    ap (λ (t : Heap). t.objects base) takes.after ∙ stays_by s bases base o has (not_among s bases reply s' takes base r)

and_parts : (x y : Bool) → (x && y) ≡ true → (x ≡ true) × (y ≡ true)
and_parts true y e = (refl, e)
and_parts false y e = absurd (true≢false (sym e))

-- the word of a link that loses its word
born_some : (x : Option Object) (birth : ℕ) → is_born x birth ≡ true → (o : Object) × (x ≡ Some o) × (o.birth ≡ birth)
born_some None birth e = absurd (true≢false (sym e))
born_some (Some o) birth e = (o, refl, eqb-true o.birth birth e)

had_link : (s : Heap) (bases : List ℕ) (reply : Reply) (s' : Heap) → TakesOut s bases reply s' → (a : ℕ) → loses_word s bases a ≡ true → HadLink s a
had_link s bases reply s' takes a e =
    let l = Any-from_list_any (λ l. (l.address == a) && names s bases l) s.links e in
    let both = and_parts (l.1.address == a) (names s bases l.1) l.4 in
    let b = Any-from_list_any (λ b. is_born (s.objects b) l.1.birth) bases both.1 in
    let o = born_some (s.objects b.1) l.1.birth b.4 in
    record {
      link = l.1;
      stood = (l.0, l.2, l.3);
      at = eqb-true l.1.address a both.0;
      named = b.1;
      object = o.0;
      has = o.1;
      names = o.2;
      unreached = All-contains (λ b. Reached s b → ⊥) bases b.1 takes.unreached (b.0, b.2, b.3);
    }

kept_word : (s : Heap) (a old : ℕ) (b : Bool) → (b ≡ true → HadLink s a) → IsKeptWord s a old (cond b 0 old)
kept_word s a old true had = inr (refl, had refl)
kept_word s a old false had = inl refl

pub keeps_reached : (s : Heap) (bases : List ℕ) (reply : Reply) (s' : Heap) → TakesOut s bases reply s' → KeepsReached s s'
keeps_reached s bases reply s' takes = record {
  stays = λ base o has r. (with_cleared (loses_word s bases) base o, reached_stays s bases reply s' takes base o has r, same_cleared (loses_word s bases) base o);
  words = λ base o p has r there i.
      let same : p ≡ with_cleared (loses_word s bases) base o = same_Some p _ (sym there ∙ reached_stays s bases reply s' takes base o has r) in
      let word : slice_index p.words i ≡ cond (loses_word s bases (base + 8 * i)) 0 (slice_index o.words i) = ap (λ (x : Object). slice_index x.words i) same ∙ cleared_at (loses_word s bases) base o.words i in
      subst (IsKeptWord s (base + 8 * i) (slice_index o.words i)) (sym word) (kept_word s (base + 8 * i) (slice_index o.words i) (loses_word s bases (base + 8 * i)) (had_link s bases reply s' takes (base + 8 * i)));
}

-- and no other
pub only_reached : (s : Heap) (reply : Reply) (s' : Heap) → CollectsFully s reply s' → HasOnlyReached s s'
only_reached s reply s' collects base p has =
    let left = left_by s collects.bases base p (sym (ap (λ (t : Heap). t.objects base) collects.takes.after) ∙ has) in
    ((left.object, left.has, same_left s collects.bases base p left), λ unreached. left.out (collects.all base left.object left.has unreached))
