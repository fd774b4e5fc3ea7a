-- A replay has one next run.
use Rattle.std.proofs.Common.{◌≡◌, ℕ, ◌+◌, Bool, true, false, List, length, replicate, cond, eqb, refl, sym, ap, ◌∙◌, subst, arith, ⊎_elim}
use Rattle.std.specs.Prelude.{Contains, Option, Some, None, option_map, filter, not, ◌&&◌, ◌||◌, ◌==◌}
use Rattle.std.specs.List.{list_any}
use Rattle.std.proofs.lemmas.List.Folds.{Any-from_list_any, list_any-from_Any}
use Rattle.std.proofs.lemmas.List.Elements.{All-contains}
use Rattle.std.proofs.lemmas.Option.{same_Some}
use mathlib.Core.Path.{fun_ext}
use Rattle.words.specs.declared.class.Kind.{Kind}
use Rattle.words.specs.declared.class.Placement.{Placement}
use Rattle.heap_spec.specs.declared.call.Call.{Call}
use Rattle.heap_spec.specs.declared.call.Call.TheVariants.{Alloc}
use Rattle.heap_spec.specs.declared.event.Event.{Event}
use Rattle.heap_spec.specs.declared.event.Event.TheVariants.{Attach, Mutator, Begin, BeginPartial, Roots, Mark, Retrace, Finish, Sweep, Collect, Number}
use Rattle.heap_spec.specs.declared.reply.Reply.{Reply}
use Rattle.heap_spec.specs.declared.reply.Reply.TheVariants.{Done, Count, Refused}
use Rattle.words.specs.declared.refusal.Refusal.TheVariants.{WrongPhase, NeedsFull}
use Rattle.heap_spec.specs.Heap.{Heap, Object, Mutator as HeapMutator, Link as HeapLink, HasObject, IsAttached, without, without_at, with_cleared, names, lies_in, is_born, covers}
use Rattle.heap_spec.specs.Room.{length_of}
use Rattle.heap_spec.specs.Ranges.{InRange}
use Rattle.heap_spec.specs.Sound.{IsSound}
use Rattle.heap_spec.specs.Laws.{IsLegible}
use Rattle.heap_spec.specs.Closure.{Reached}
use Rattle.heap_spec.specs.Cycles.{CollectsFully}
use Rattle.heap_spec.specs.Runs.{Start, Run, heap_after, is_marking, goes_on}
use Rattle.heap_spec.specs.Histories.{Happens}
use Rattle.heap_spec.specs.Steps.{Acts, Calls, acts, vacant, Attaches, with_new, with_register}
use Rattle.heap_spec.specs.Transcripts.{LineOf, IsWrongPhase}
use Rattle.heap_spec.proofs.Loads.{same_mutator}
use Rattle.heap_spec.proofs.Outcomes.{calls_refused, calls_same}
use Rattle.heap_spec.specs.Touching.{HasApartObjects}
use Rattle.heap_spec.proofs.Objects.{at_cases}
use Rattle.heap_spec.proofs.Touching.{sound_apart}
use Rattle.heap_spec.proofs.Calls.{calls_kept, attaches_kept, takes_out_kept}
use Rattle.plain_heap.specs.Answering.{IsBornAt}
use Rattle.replayer.specs.declared.hint.Hint.{Hint}
use Rattle.replayer.specs.declared.hint.Hint.TheVariants.{Nothing, Place, Forgot}
use Rattle.replayer.specs.Replays.{NamesPlace, NamesBases, IsReplay}
use Rattle.replayer.specs.Laws.{SayTheSame, AreOneNext}

legible : (s : Heap) → HasApartObjects s → IsLegible s
legible s h = record { one = h.one; some = h.some }

-- an object that was born is where the request was granted
born_here : (s : Heap) → HasApartObjects s → (slot d a base : ℕ) (m : HeapMutator) (kind : Kind) (placement : Placement) → IsBornAt s base (with_register (with_new s a kind placement) slot m d a) → base ≡ a
born_here s h slot d a base m kind placement born =
    ⊎_elim (λ same. same.0) (λ other. let old = h.born base born.object other.1 in let new = born.newest in absurd (omega (arith, old, new)))
    (at_cases s.objects a (Some (record { birth = s.births + 1; kind = kind; words = replicate (length_of placement) 0 })) base (Some born.object) born.there)

-- An object is born at one base in both heaps.
abbrev BothBorn : Heap → Heap → Heap → Type 0
BothBorn s t t' = (base : ℕ) × IsBornAt s base t × IsBornAt s base t'

both_born : (hint hint' : Hint) → SayTheSame hint hint' → (s t t' : Heap) → NamesPlace hint s t → NamesPlace hint' s t' → BothBorn s t t'
both_born (Place a) (Place b) e s t t' x y = (a, x, subst (λ z. IsBornAt s z t') (sym e) y)
both_born (Place a) Nothing e s t t' x y = absurd e
both_born (Place a) (Forgot b) e s t t' x y = absurd e
both_born Nothing hint e s t t' x y = absurd x
both_born (Forgot a) hint e s t t' x y = absurd x

-- a request that is granted at one base
module _ (s : Heap) (h : HasApartObjects s) (slot d n : ℕ) (kind : Kind) where
  granted : (m : HeapMutator) {t t' : Heap} → Acts s slot m (Alloc d n kind) Done t → Acts s slot m (Alloc d n kind) Done t' → BothBorn s t t' → t ≡ t'
  granted m (Acts.allocated {placement = p} a e room) (Acts.allocated {placement = q} b e' room') born =
      let at : born.0 ≡ a = born_here s h slot d a born.0 m kind p born.1 in
      let at' : born.0 ≡ b = born_here s h slot d b born.0 m kind q born.2 in
      ap (λ z. with_register (with_new s z kind p) slot m d z) (sym at ∙ at') ∙ ap (λ z. with_register (with_new s b kind z) slot m d b) (same_Some p q (sym e ∙ e'))

  requested : (m : HeapMutator) → IsAttached s slot m → (t' : Heap) {reply : Reply} {t : Heap} → Acts s slot m (Alloc d n kind) reply t → Calls s slot (Alloc d n kind) reply t' → (reply ≡ Done → BothBorn s t t') → t ≡ t'
  requested m at t' (Acts.bad_size e) other born = sym (calls_refused s slot (Alloc d n kind) other)
  requested m at t' (Acts.full e none) other born = sym (calls_refused s slot (Alloc d n kind) other)
  requested m at t' (Acts.allocated {placement = p} a e room) (acts {m = k} at' act) born =
      granted m (Acts.allocated a e room) (subst (λ x. Acts s slot x (Alloc d n kind) Done t') (sym (same_mutator s slot m k at at')) act) (born refl)

  request_next : (t' : Heap) {reply : Reply} {t : Heap} → Calls s slot (Alloc d n kind) reply t → Calls s slot (Alloc d n kind) reply t' → (reply ≡ Done → BothBorn s t t') → t ≡ t'
  request_next t' (acts {m = m} at act) other born = requested m at t' act other born
  request_next t' (vacant none) other born = sym (calls_refused s slot (Alloc d n kind) other)

-- a call of a mutator, by whether it is a request
call_next : (s : Heap) → HasApartObjects s → (slot : ℕ) (call : Call) (reply : Reply) (t t' : Heap) → Calls s slot call reply t → Calls s slot call reply t'
    → ((into words : ℕ) (kind : Kind) → call ≡ Alloc into words kind → reply ≡ Done → BothBorn s t t') → t ≡ t'
call_next s h slot (Alloc d n kind) reply t t' one other born = request_next s h slot d n kind t' one other (λ done. born d n kind refl done)
call_next s h slot call reply t t' one other born = (calls_same s (legible s h) slot call reply reply t t' one other).1 tt

attach_next : (s : Heap) {reply : Reply} {t t' : Heap} → Attaches s reply t → Attaches s reply t' → t ≡ t'
attach_next s (Attaches.attached low) (Attaches.attached low') = refl
attach_next s (Attaches.no_slot none) (Attaches.no_slot none') = refl

-- what two lists of bases take out, which name the same
pub named_next : (hint hint' : Hint) → SayTheSame hint hint' → (n : ℕ) (s t t' : Heap) → NamesBases hint n s t → NamesBases hint' n s t' → t ≡ t'
named_next (Forgot a) (Forgot b) e n s t t' x y = x.after ∙ ap (without s) e ∙ sym y.after
named_next (Forgot a) Nothing e n s t t' x y = absurd e
named_next (Forgot a) (Place b) e n s t t' x y = absurd e
named_next Nothing hint e n s t t' x y = absurd x
named_next (Place a) hint e n s t t' x y = absurd x

both_ways : (a b : Bool) → (a ≡ true → b ≡ true) → (b ≡ true → a ≡ true) → a ≡ b
both_ways true b to from = sym (to refl)
both_ways false true to from = from refl
both_ways false false to from = refl

-- a test finds the same among the same bases
passes : (p : ℕ → Bool) (xs ys : List ℕ) → ((x : ℕ) → Contains xs x → Contains ys x) → list_any p xs ≡ true → list_any p ys ≡ true
passes p xs ys to e = let any = Any-from_list_any p xs e in let among = to any.1 (any.0, any.2, any.3) in list_any-from_Any p ys (among.0, any.1, among.1, among.2, any.4)

pub any_same : (xs ys : List ℕ) → ((x : ℕ) → Contains xs x → Contains ys x) → ((x : ℕ) → Contains ys x → Contains xs x) → (p : ℕ → Bool) → list_any p xs ≡ list_any p ys
any_same xs ys to from p = both_ways (list_any p xs) (list_any p ys) (passes p xs ys to) (passes p ys xs from)

-- the heap without objects, by what the tests say of these
abbrev left : Heap → (ℕ → Option Object) → (HeapLink → Bool) → (HeapLink → Bool) → Heap
left s objects named lies = record s {
  objects = λ q. option_map (with_cleared (λ a. list_any (λ (l : HeapLink). (l.address == a) && named l) s.links) q) (objects q);
  links = filter (λ l. not (named l || lies l)) s.links;
}

-- the same bases leave the same heap
pub without_same : (s : Heap) (xs ys : List ℕ) → ((p : ℕ → Bool) → list_any p xs ≡ list_any p ys) → without s xs ≡ without s ys
without_same s xs ys same =
    let objects : without_at s.objects xs ≡ without_at s.objects ys = fun_ext (λ q. ap (λ b. cond b None (s.objects q)) (same (λ b. eqb b q))) in
    let named : names s xs ≡ names s ys = fun_ext (λ l. same (λ b. is_born (s.objects b) l.birth)) in
    let lies : lies_in s xs ≡ lies_in s ys = fun_ext (λ l. same (λ b. covers b (s.objects b) l.address)) in
    ap (λ f. left s f (names s xs) (lies_in s xs)) objects ∙ ap (λ f. left s (without_at s.objects ys) f (lies_in s xs)) named ∙ ap (λ f. left s (without_at s.objects ys) (names s ys) f) lies

-- full collections take the same objects out
module _ (s : Heap) (reply : Reply) where
  in_other : {t t' : Heap} (one : CollectsFully s reply t) (other : CollectsFully s reply t') (base : ℕ) → Contains one.bases base → Contains other.bases base
  in_other one other base here =
      let object = All-contains (λ b. (o : Object) × HasObject s b o) one.bases base one.takes.objects here in
      other.all base object.0 object.1 (All-contains (λ b. Reached s b → ⊥) one.bases base one.takes.unreached here)

  collect_next : {t t' : Heap} → CollectsFully s reply t → CollectsFully s reply t' → t ≡ t'
  collect_next one other = one.takes.after ∙ without_same s one.bases other.bases (any_same one.bases other.bases (in_other one other) (in_other other one)) ∙ sym other.takes.after

-- a refusal is another reply
refused_done : Refused WrongPhase ≡ Done → ⊥
refused_done e = cc

needed_done : Refused NeedsFull ≡ Done → ⊥
needed_done e = cc

refused_count : (n : ℕ) → Refused WrongPhase ≡ Count n → ⊥
refused_count n e = cc

-- what happens next
module _ (start : Start) (run : Run) (h : HasApartObjects (heap_after start run)) where
  -- What the hints say of two heaps after an event.
  pub record SaidOf (event : Event) (reply : Reply) (t t' : Heap) : Type 0 where
    pub born : (slot into words : ℕ) (kind : Kind) → event ≡ Mutator slot (Alloc into words kind) → reply ≡ Done → BothBorn (heap_after start run) t t'
    pub ended : (n : ℕ) → event ≡ Finish → reply ≡ Count n → t ≡ t'

  happens_next : (event : Event) (reply : Reply) (t t' : Heap) → Happens start run event reply t → Happens start run event reply t' → SaidOf event reply t t' → t ≡ t'
  happens_next Attach reply t t' one other said = attach_next (heap_after start run) one other
  happens_next (Mutator slot call) reply t t' one other said = call_next (heap_after start run) h slot call reply t t' one other (λ into words kind e done. said.born slot into words kind (ap (Mutator slot) e) done)
  happens_next Begin reply t t' one other said = one.1.1 ∙ sym other.1.1
  happens_next BeginPartial reply t t' one other said = one.2.1 ∙ sym other.2.1
  happens_next Finish reply t t' one other said = said.ended (length one.1.bases) refl one.1.takes.number
  happens_next Collect reply t t' one other said = collect_next (heap_after start run) reply one other
  happens_next Roots reply t t' one other said = absurd one
  happens_next (Mark n) reply t t' one other said = absurd one
  happens_next Retrace reply t t' one other said = absurd one
  happens_next Sweep reply t t' one other said = absurd one
  happens_next Number reply t t' one other said = absurd one

  -- what happens is no refusal by the phase
  not_refused : (event : Event) (t : Heap) → Happens start run event (Refused WrongPhase) t → IsWrongPhase (is_marking start run) event → ⊥
  not_refused Attach t one wrong = wrong
  not_refused (Mutator slot call) t one wrong = wrong
  not_refused Begin t one wrong = refused_done one.1.0
  not_refused BeginPartial t one wrong = refused_done one.2.0
  not_refused Finish t one wrong = refused_count (length one.1.bases) one.1.takes.number
  not_refused Collect t one wrong = wrong
  not_refused Roots t one wrong = one
  not_refused (Mark n) t one wrong = one
  not_refused Retrace t one wrong = one
  not_refused Sweep t one wrong = one
  not_refused Number t one wrong = one

  number_stays : {reply : Reply} {next : Run} → LineOf start run Number reply next → next ≡ run
  number_stays (LineOf.happens one) = absurd one
  number_stays (LineOf.refused wrong) = absurd wrong
  number_stays LineOf.number = refl

  pub line_next : {event : Event} {reply : Reply} {next next' : Run} → LineOf start run event reply next → LineOf start run event reply next' → SaidOf event reply (heap_after start next) (heap_after start next') → next ≡ next'
  line_next (LineOf.happens {event = event} {reply = reply} {s' = t} one) (LineOf.happens {s' = t'} other) said = ap (goes_on run event reply) (happens_next event reply t t' one other said)
  line_next (LineOf.happens {event = event} {s' = t} one) (LineOf.refused wrong) said = absurd (not_refused event t one wrong)
  line_next (LineOf.happens one) (LineOf.needs m need) said = absurd (needed_done one.2.0)
  line_next (LineOf.happens one) (LineOf.roots m) said = absurd one
  line_next (LineOf.happens one) (LineOf.mark m few) said = absurd one
  line_next (LineOf.happens one) (LineOf.retrace m few) said = absurd one
  line_next (LineOf.happens one) (LineOf.sweep few) said = absurd one
  line_next (LineOf.happens one) LineOf.number said = absurd one
  line_next (LineOf.refused {event = event} wrong) (LineOf.happens {s' = t} one) said = absurd (not_refused event t one wrong)
  line_next (LineOf.refused wrong) (LineOf.refused wrong') said = refl
  line_next (LineOf.needs m need) (LineOf.happens other) said = absurd (needed_done other.2.0)
  line_next (LineOf.needs m need) (LineOf.needs m' need') said = refl
  line_next (LineOf.roots m) (LineOf.happens other) said = absurd other
  line_next (LineOf.roots m) (LineOf.roots m') said = refl
  line_next (LineOf.mark m few) (LineOf.happens other) said = absurd other
  line_next (LineOf.mark m few) (LineOf.mark m' few') said = refl
  line_next (LineOf.retrace m few) (LineOf.happens other) said = absurd other
  line_next (LineOf.retrace m few) (LineOf.retrace m' few') said = refl
  line_next (LineOf.sweep few) (LineOf.happens other) said = absurd other
  line_next (LineOf.sweep few) (LineOf.sweep few') said = refl
  line_next LineOf.number other said = sym (number_stays other)

-- what is kept by what happens
module _ (start : Start) (run : Run) (h : IsSound (heap_after start run)) where
  happens_kept : (event : Event) → InRange event → (reply : Reply) (t : Heap) → Happens start run event reply t → IsSound t
  happens_kept Attach range reply t step = attaches_kept (heap_after start run) h step
  happens_kept (Mutator slot call) range reply t step = calls_kept (heap_after start run) slot call h range.1 step
  happens_kept Begin range reply t step = subst IsSound (sym step.1.1) h
  happens_kept BeginPartial range reply t step = subst IsSound (sym step.2.1) h
  happens_kept Finish range reply t step = takes_out_kept (heap_after start run) step.1.bases reply t h step.1.takes
  happens_kept Collect range reply t step = takes_out_kept (heap_after start run) step.bases reply t h step.takes
  happens_kept Roots range reply t step = absurd step
  happens_kept (Mark n) range reply t step = absurd step
  happens_kept Retrace range reply t step = absurd step
  happens_kept Sweep range reply t step = absurd step
  happens_kept Number range reply t step = absurd step

  line_kept : (event : Event) → InRange event → {reply : Reply} {next : Run} → LineOf start run event reply next → IsSound (heap_after start next)
  line_kept event range (LineOf.happens {reply = reply} {s' = t} step) = happens_kept event range reply t step
  line_kept event range (LineOf.refused wrong) = h
  line_kept event range (LineOf.needs m need) = h
  line_kept event range (LineOf.roots m) = h
  line_kept event range (LineOf.mark m few) = h
  line_kept event range (LineOf.retrace m one) = h
  line_kept event range (LineOf.sweep one) = h
  line_kept event range LineOf.number = h

pub one_next : (start : Start) (run : Run) → IsSound (heap_after start run) → (event : Event) → InRange event → (reply : Reply) (hint hint' : Hint) → SayTheSame hint hint' → (next next' : Run)
    → IsReplay hint start run event reply next → IsReplay hint' start run event reply next' → AreOneNext start next next'
one_next start run h event range reply hint hint' same next next' one other = record {
  same = line_next start run (sound_apart (heap_after start run) h) one.line other.line (record {
    born = λ slot into words kind is done. both_born hint hint' same (heap_after start run) (heap_after start next) (heap_after start next') (one.place slot into words kind is done) (other.place slot into words kind is done);
    ended = λ n is counts. named_next hint hint' same n (heap_after start run) (heap_after start next) (heap_after start next') (one.finished n is counts) (other.finished n is counts);
  });
  sound = line_kept start run h event range one.line;
}
