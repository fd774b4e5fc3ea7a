-- What lines leave of a heap.
use Rattle.std.proofs.Common.{[], ◌∷◌, ◌≡◌, ◌+◌, ◌≤◌, ℕ, List, refl, sym, ap, ◌∙◌, subst, arith, ⊎_elim}
use Rattle.std.specs.Prelude.{Some}
use Rattle.std.proofs.lemmas.Bool.{cases_eq}
use Rattle.words.specs.declared.class.Kind.{Kind}
use Rattle.words.specs.declared.refusal.Refusal.{Refusal}
use Rattle.heap_spec.specs.declared.call.Call.{Call}
use Rattle.heap_spec.specs.declared.call.Call.TheVariants.{Alloc, Free}
use Rattle.heap_spec.specs.declared.event.Event.{Event}
use Rattle.heap_spec.specs.declared.event.Event.TheVariants.{Attach, Mutator, Begin, BeginPartial, Roots, Mark, Retrace, Finish, Sweep, Collect, Number}
use Rattle.heap_spec.specs.declared.reply.Reply.{Reply}
use Rattle.heap_spec.specs.declared.reply.Reply.TheVariants.{Done, Refused}
use Rattle.heap_spec.specs.Heap.{Heap, Object, Mutator as HeapMutator, HasObject, with_at}
use Rattle.heap_spec.specs.Cycles.{TakesOut}
use Rattle.heap_spec.specs.Histories.{Happens}
use Rattle.heap_spec.specs.Runs.{Start, Run, heap_after}
use Rattle.heap_spec.specs.Steps.{Acts, Attaches, Calls, acts, vacant, register}
use Rattle.heap_spec.specs.Transcripts.{LineOf}
use Rattle.heap_spec.proofs.Objects.{at_cases, with_at-same, with_at-other}
use Rattle.heap_spec.proofs.Links.{left_by}
use Rattle.heap_spec.proofs.Outcomes.{calls_refused}
use Rattle.recording.proofs.Knowing.{HasIn}

-- at most one object is born
acts_few : (s : Heap) (slot : ℕ) (m : HeapMutator) {call : Call} {reply : Reply} {s' : Heap} → Acts s slot m call reply s' → s'.births ≤ s.births + 1
acts_few s slot m (Acts.allocated a e room) = omega arith
acts_few s slot m _ = omega arith

happens_few : (start : Start) (run : Run) (event : Event) (reply : Reply) (s' : Heap) → Happens start run event reply s' → s'.births ≤ (heap_after start run).births + 1
happens_few start run Attach reply s' h = attach h
  where
    attach : {reply : Reply} {s' : Heap} → Attaches (heap_after start run) reply s' → s'.births ≤ (heap_after start run).births + 1
    attach (Attaches.attached low) = omega arith
    attach (Attaches.no_slot none) = omega arith
happens_few start run (Mutator slot call) reply s' h = calls h
  where
    calls : {reply : Reply} {s' : Heap} → Calls (heap_after start run) slot call reply s' → s'.births ≤ (heap_after start run).births + 1
    calls (acts {m = m} at act) = acts_few (heap_after start run) slot m act
    calls (vacant none) = omega arith
happens_few start run Begin reply s' h = let same = ap (λ (s : Heap). s.births) h.1.1 in omega arith
happens_few start run BeginPartial reply s' h = let same = ap (λ (s : Heap). s.births) h.2.1 in omega arith
happens_few start run Finish reply s' h = let same = ap (λ (s : Heap). s.births) h.1.takes.after in omega arith
happens_few start run Collect reply s' h = let same = ap (λ (s : Heap). s.births) h.takes.after in omega arith
happens_few start run _ reply s' h = absurd h

pub line_few : (start : Start) (run : Run) {event : Event} {reply : Reply} {next : Run} → LineOf start run event reply next → (heap_after start next).births ≤ (heap_after start run).births + 1
line_few start run (LineOf.happens {event = event} {reply = reply} {s' = s'} h) = happens_few start run event reply s' h
line_few start run _ = omega arith

-- a refused call leaves the heap
pub refused_same : (start : Start) (run : Run) (event : Event) (reply : Reply) (why : Refusal) {next : Run} → reply ≡ Refused why → LineOf start run event reply next → heap_after start next ≡ heap_after start run
refused_same start run event reply why is (LineOf.happens {s' = s'} h) = by event (subst (λ q. Happens start run event q s') is h)
  where
    attach : {q : Reply} → q ≡ Refused why → {t : Heap} → Attaches (heap_after start run) q t → t ≡ heap_after start run
    attach e (Attaches.attached low) = absurd (cc)
    attach e (Attaches.no_slot none) = refl

    by : (e : Event) → Happens start run e (Refused why) s' → s' ≡ heap_after start run
    by Attach h = attach refl h
    by (Mutator slot call) h = calls_refused (heap_after start run) slot call h
    by Begin h = h.1.1
    by BeginPartial h = h.2.1
    by Finish h = absurd (let number = h.1.takes.number in cc)
    by Collect h = absurd (let number = h.takes.number in cc)
    by _ h = absurd h
refused_same start run event reply why is _ = refl

-- calls that neither make an object nor free one leave the bases
abbrev pub IsNoBirth : Call → Type 0
IsNoBirth (Alloc into words kind) = ⊥
IsNoBirth (Free r) = ⊥
IsNoBirth _ = Unit {0}

-- an object for another at one base leaves the bases
put_leaves : (s : Heap) (k : ℕ) (q x : Object) → HasObject s k q → (b : ℕ) (o : Object) → HasObject s b o → (p : Object) × (with_at s.objects k (Some x) b ≡ Some p)
put_leaves s k q x at b o has = ⊎_elim (λ same. (x, with_at-same s.objects k (Some x) b same)) (λ other. (o, with_at-other s.objects k (Some x) b other ∙ has)) (cases_eq b k)

put_back : (s : Heap) (k : ℕ) (q x : Object) → HasObject s k q → (b : ℕ) (p : Object) → with_at s.objects k (Some x) b ≡ Some p → (o : Object) × HasObject s b o
put_back s k q x at b p has = ⊎_elim (λ here. (q, ap s.objects here.0 ∙ at)) (λ other. (p, other.1)) (at_cases s.objects k (Some x) b (Some p) has)

acts_leave : (s : Heap) (slot : ℕ) (m : HeapMutator) {call : Call} {reply : Reply} {s' : Heap} → Acts s slot m call reply s' → IsNoBirth call → HasIn s s' × HasIn s' s
acts_leave s slot m (Acts.stored {base = k} {o = q} al reads) none = (put_leaves s k q _ reads.0, put_back s k q _ reads.0)
acts_leave s slot m (Acts.allocated a e room) none = absurd none
acts_leave s slot m (Acts.freed has) none = absurd none
acts_leave s slot m _ none = (λ b o has. (o, has), λ b o has. (o, has))

free_less : (s : Heap) (slot : ℕ) (m : HeapMutator) {r : ℕ} {reply : Reply} {s' : Heap} → Acts s slot m (Free r) reply s' → HasIn s' s
free_less s slot m (Acts.freed {r = r} has) b p there = let left = left_by s (register m r ∷ []) b p there in (left.object, left.has)
free_less s slot m (Acts.free_nothing none) b p there = (p, there)
free_less s slot m (Acts.free_inside reads ne) b p there = (p, there)

-- events that leave the bases
abbrev pub IsStill : Event → Type 0
IsStill (Mutator slot call) = IsNoBirth call
IsStill Attach = Unit {0}
IsStill Begin = Unit {0}
IsStill BeginPartial = Unit {0}
IsStill Roots = Unit {0}
IsStill (Mark n) = Unit {0}
IsStill Retrace = Unit {0}
IsStill Finish = ⊥
IsStill Sweep = Unit {0}
IsStill Collect = ⊥
IsStill Number = Unit {0}

pub same_heap : (s s' : Heap) → s' ≡ s → HasIn s s' × HasIn s' s
same_heap s s' is = (λ b o has. (o, ap (λ (x : Heap). x.objects b) is ∙ has), λ b o has. (o, ap (λ (x : Heap). x.objects b) (sym is) ∙ has))

happens_leaves : (start : Start) (run : Run) (event : Event) (reply : Reply) (s' : Heap) → IsStill event → Happens start run event reply s' → HasIn (heap_after start run) s' × HasIn s' (heap_after start run)
happens_leaves start run Attach reply s' still h = attach h
  where
    attach : {q : Reply} {t : Heap} → Attaches (heap_after start run) q t → HasIn (heap_after start run) t × HasIn t (heap_after start run)
    attach (Attaches.attached low) = (λ b o has. (o, has), λ b o has. (o, has))
    attach (Attaches.no_slot none) = (λ b o has. (o, has), λ b o has. (o, has))
happens_leaves start run (Mutator slot call) reply s' still h = calls h
  where
    calls : {q : Reply} {t : Heap} → Calls (heap_after start run) slot call q t → HasIn (heap_after start run) t × HasIn t (heap_after start run)
    calls (acts {m = m} at act) = acts_leave (heap_after start run) slot m act still
    calls (vacant none) = (λ b o has. (o, has), λ b o has. (o, has))
happens_leaves start run Begin reply s' still h = same_heap _ s' h.1.1
happens_leaves start run BeginPartial reply s' still h = same_heap _ s' h.2.1
happens_leaves start run Finish reply s' still h = absurd still
happens_leaves start run Collect reply s' still h = absurd still
happens_leaves start run _ reply s' still h = absurd h

pub line_leaves : (start : Start) (run : Run) {event : Event} {reply : Reply} {next : Run} → IsStill event → LineOf start run event reply next → HasIn (heap_after start run) (heap_after start next) × HasIn (heap_after start next) (heap_after start run)
line_leaves start run still (LineOf.happens {event = event} {reply = reply} {s' = s'} h) = happens_leaves start run event reply s' still h
line_leaves start run still _ = (λ b o has. (o, has), λ b o has. (o, has))

-- a request that is not refused is granted
pub granted : (s : Heap) (slot into words : ℕ) (kind : Kind) {reply : Reply} {s' : Heap} → Calls s slot (Alloc into words kind) reply s' → ((why : Refusal) → reply ≡ Refused why → ⊥) → reply ≡ Done
granted s slot into words kind (acts at (Acts.allocated a e room)) fair = refl
granted s slot into words kind (acts at (Acts.bad_size e)) fair = absurd (fair _ refl)
granted s slot into words kind (acts at (Acts.full e none)) fair = absurd (fair _ refl)
granted s slot into words kind (vacant none) fair = absurd (fair _ refl)

pub freed_less : (s : Heap) (slot r : ℕ) {reply : Reply} {s' : Heap} → Calls s slot (Free r) reply s' → HasIn s' s
freed_less s slot r (acts {m = m} at act) = free_less s slot m act
freed_less s slot r (vacant none) = λ b o has. (o, has)

pub taken_less : (s s' : Heap) (bases : List ℕ) (reply : Reply) → TakesOut s bases reply s' → HasIn s' s
taken_less s s' bases reply takes b p has = let left = left_by s bases b p (sym (ap (λ (x : Heap). x.objects b) takes.after) ∙ has) in (left.object, left.has)
