-- An object that a register of an attached mutator has stays, whatever others do but for frees.
use Rattle.std.proofs.Common.{◌≡◌, ◌≢◌, ℕ, zero, suc, ◌<◌, List, [], ◌∷◌, length, sym, ap, ◌∙◌, subst, arith, ⊎_elim}
use Rattle.std.specs.Prelude.{Some, All, Contains, slice_get, flat_map}
use Rattle.std.proofs.lemmas.Bool.{cases_eq}
use Rattle.std.proofs.lemmas.Option.{same_Some, none-some}
use Rattle.std.proofs.lemmas.List.{length-set}
use Rattle.std.proofs.lemmas.List.Concat.{flat_map-cons}
use Rattle.std.proofs.lemmas.List.Elements.{All-head, All-tail, Contains-append_left, Contains-append_right, Contains-get_or}
use Rattle.words.specs.declared.class.Kind.{Kind}
use Rattle.words.specs.declared.class.Placement.{Placement}
use Rattle.words.specs.declared.class.Placement.TheVariants.{Small, Large}
use Rattle.history.specs.Histories.{AreOfOthers, Walks}
use Rattle.heap_spec.specs.declared.call.Call.{Call}
use Rattle.heap_spec.specs.declared.event.Event.{Event}
use Rattle.heap_spec.specs.declared.event.Event.TheVariants.{Attach, Mutator, Begin, BeginPartial, Roots, Mark, Retrace, Finish, Sweep, Collect, Number}
use Rattle.heap_spec.specs.declared.reply.Reply.{Reply}
use Rattle.heap_spec.specs.Heap.{Heap, Object, Mutator as HeapMutator, IsSameObject, HasObject, IsAttached, words_of_slot}
use Rattle.heap_spec.specs.Room.{HasRoom}
use Rattle.heap_spec.specs.Closure.{Reached, root}
use Rattle.heap_spec.specs.Steps.{Acts, Attaches, Calls, register}
use Rattle.heap_spec.specs.Sound.{IsSound, IsCell}
use Rattle.heap_spec.specs.Laws.{IsRunFromOpening}
use Rattle.heap_spec.specs.SequentialObject.{HeapState, heap_of, StateStep}
use Rattle.heap_spec.proofs.Layouts.{IsPlacement, placed, cell_lies, cell_off, off_pages}
use Rattle.heap_spec.proofs.Objects.{with_at-same, with_at-other, same_object, object_lies}
use Rattle.heap_spec.proofs.Runs.{fresh_sound, keeps_reached}
use Rattle.heap_history.specs.Passes.{MadeEvent}
use Rattle.heap_history.specs.Laws.{IsNoFreeCall, IsNoFree}
use Rattle.heap_history.proofs.Slots.{step_mutators}
use Rattle.heap_history.proofs.Stored.{step_fresh}

-- the object is there still
abbrev pub Stays : Heap → ℕ → Object → Type 0
Stays s base o = (p : Object) × HasObject s base p × IsSameObject o p

same_then : (o p q : Object) → IsSameObject o p → IsSameObject p q → IsSameObject o q
same_then o p q a b = record { birth = b.birth ∙ a.birth; kind = b.kind ∙ a.kind; size = b.size ∙ a.size }

-- no object has a base with room
pub room_none : (s : Heap) → IsSound s → (placement : Placement) (kind : Kind) (a : ℕ) → IsPlacement placement → HasRoom s placement kind a → (o : Object) → HasObject s a o → ⊥
room_none s h (Small n) kind a class room o has =
    let lies = object_lies s h a o has in
    let cell : IsCell s.pages a n = record { page = room.page; cell = room.cell; class = class; in_heap = room.in_heap; in_page = room.in_page; is_cell = room.is_cell } in
    let some = (cell_lies s.pages a n cell).some in
    let some' = lies.some in
    ⊎_elim
    (λ free. ⊎_elim (λ before. omega arith) (λ after. omega arith) (cell_off s.pages a n a (length o.words) cell (free a o has)))
    (λ cut. none-some o (sym cut.1 ∙ has))
    room.cut
room_none s h (Large count) kind a some room o has =
    let lies = object_lies s h a o has in
    let some' = lies.some in
    let start = room.is_start in
    ⊎_elim (λ before. omega arith) (λ after. omega arith) (off_pages room.first count a (length o.words) some lies.some (λ page from below. room.free page from below a o has))

-- so a call that is no free leaves each object
acts_stay : (s : Heap) (slot : ℕ) (m : HeapMutator) → IsSound s → {call : Call} {reply : Reply} {s' : Heap} → Acts s slot m call reply s' → IsNoFreeCall call → (base : ℕ) (o : Object) → HasObject s base o → Stays s' base o
acts_stay s slot m h (Acts.stored {base = b} {o = q} al reads) free base o has = ⊎_elim
    (λ here. let e : q ≡ o = same_Some q o (sym reads.0 ∙ (ap s.objects (sym here) ∙ has)) in (
      _,
      with_at-same s.objects b _ base here,
      record { birth = ap (λ (x : Object). x.birth) e; kind = ap (λ (x : Object). x.kind) e; size = length-set q.words _ _ ∙ ap (λ (x : Object). length x.words) e },
    ))
    (λ other. (o, with_at-other s.objects b _ base other ∙ has, same_object o))
    (cases_eq base b)
acts_stay s slot m h (Acts.allocated {n = n} {kind = kind} {placement = placement} a e room) free base o has = ⊎_elim
    (λ here. absurd (room_none s h placement kind a (placed _ n placement e) room o (ap s.objects (sym here) ∙ has)))
    (λ other. (o, with_at-other s.objects a _ base other ∙ has, same_object o))
    (cases_eq base a)
acts_stay s slot m h (Acts.freed gone) free base o has = absurd free
acts_stay s slot m h _ free base o has = (o, has, same_object o)

pub calls_stay : (s : Heap) (slot : ℕ) → IsSound s → {call : Call} {reply : Reply} {s' : Heap} → Calls s slot call reply s' → IsNoFreeCall call → (base : ℕ) (o : Object) → HasObject s base o → Stays s' base o
calls_stay s slot h (Calls.acts {m = m} at act) free base o has = acts_stay s slot m h act free base o has
calls_stay s slot h (Calls.vacant none) free base o has = (o, has, same_object o)

attaches_stay : (s : Heap) {reply : Reply} {s' : Heap} → Attaches s reply s' → (base : ℕ) (o : Object) → HasObject s base o → Stays s' base o
attaches_stay s (Attaches.attached lowest) base o has = (o, has, same_object o)
attaches_stay s (Attaches.no_slot none) base o has = (o, has, same_object o)

-- and every step that is no free leaves each reached one
heap_stays : (s t : HeapState) (by : ℕ) (event : Event) (reply : Reply) (h : StateStep s by event reply t) → IsSound (heap_of s) → IsNoFree event → (base : ℕ) (o : Object) → HasObject (heap_of s) base o → Reached (heap_of s) base → Stays h.heap base o
heap_stays s t by Attach reply h sound free base o has reached = attaches_stay (heap_of s) h.happens base o has
heap_stays s t by (Mutator slot call) reply h sound free base o has reached = calls_stay (heap_of s) slot sound h.happens free base o has
heap_stays s t by Begin reply h sound free base o has reached = (o, ap (λ (x : Heap). x.objects base) h.happens.1.1 ∙ has, same_object o)
heap_stays s t by BeginPartial reply h sound free base o has reached = (o, ap (λ (x : Heap). x.objects base) h.happens.2.1 ∙ has, same_object o)
heap_stays s t by Finish reply h sound free base o has reached = (keeps_reached _ _ _ _ h.happens.1.takes).stays base o has reached
heap_stays s t by Collect reply h sound free base o has reached = (keeps_reached _ _ _ _ h.happens.takes).stays base o has reached
heap_stays s t by Roots reply h sound free base o has reached = absurd h.fits
heap_stays s t by (Mark n) reply h sound free base o has reached = absurd h.fits
heap_stays s t by Retrace reply h sound free base o has reached = absurd h.fits
heap_stays s t by Sweep reply h sound free base o has reached = absurd h.fits
heap_stays s t by Number reply h sound free base o has reached = absurd h.fits

-- what a register has is a root word
flat_contains : {X A : Type 0} (f : X → List A) (xs : List X) (i : ℕ) (x : X) (y : A) → slice_get xs i ≡ Some x → Contains (f x) y → Contains (flat_map f xs) y
flat_contains f [] i x y e c = absurd (none-some x e)
flat_contains f (z ∷ zs) zero x y e c = subst (λ l. Contains l y) (sym (flat_map-cons f z zs)) (Contains-append_left (f z) (flat_map f zs) y (subst (λ w. Contains (f w) y) (sym (same_Some z x e)) c))
flat_contains f (z ∷ zs) (suc i) x y e c = subst (λ l. Contains l y) (sym (flat_map-cons f z zs)) (Contains-append_right (f z) (flat_map f zs) y (flat_contains f zs i x y e c))

-- so an object that it has is reached
pub held_reached : (s : Heap) → IsSound s → (who : ℕ) (m : HeapMutator) (d a : ℕ) (o : Object) → IsAttached s who m → d < length m.registers → register m d ≡ a → HasObject s a o → Reached s a
held_reached s h who m d a o at lt is has =
    let some = (object_lies s h a o has).some in
    let word : Contains m.registers a = subst (λ w. Contains m.registers w) is (Contains-get_or m.registers d 0 lt) in
    root (Contains-append_left (flat_map words_of_slot s.mutators) s.globals a (flat_contains words_of_slot s.mutators who (Some m) a at (Contains-append_left m.registers m.stack a word)))
    (has, (omega arith, omega arith))

-- The object and the mutator stay along a chain of others' steps that are no frees.
pub walks_held : (s t : HeapState) (es : List MadeEvent) → Walks StateStep s es t → IsRunFromOpening s.pages s.run → (who : ℕ) (m : HeapMutator) (d a : ℕ) (o : Object)
    → IsAttached (heap_of s) who m → d < length m.registers → register m d ≡ a → HasObject (heap_of s) a o → AreOfOthers who es → All (λ (e : MadeEvent). IsNoFree e.call) es
    → IsAttached (heap_of t) who m × Stays (heap_of t) a o
walks_held s t [] w fresh who m d a o at lt is has others free = subst (λ (x : HeapState). IsAttached (heap_of x) who m × Stays (heap_of x) a o) w (at, (o, has, same_object o))
walks_held s t (e ∷ es) w fresh who m d a o at lt is has others free =
    let sound = fresh_sound s.pages s.run fresh in
    let stays = heap_stays s w.0 e.who e.call e.reply w.1 sound (All-head (λ (x : MadeEvent). IsNoFree x.call) e es free) a o has (held_reached (heap_of s) sound who m d a o at lt is has) in
    let there : HasObject (heap_of w.0) a stays.0 = ap (λ (x : HeapState). (heap_of x).objects a) w.1.goes ∙ stays.1 in
    let still = step_mutators s w.0 e.who who e.call e.reply (All-head (λ (x : MadeEvent). x.who ≢ who) e es others) w.1 ∙ at in
    let rest = walks_held w.0 t es w.2 (step_fresh s w.0 e.who e.call e.reply w.1 fresh) who m d a stays.0 still lt is there (All-tail (λ (x : MadeEvent). x.who ≢ who) e es others) (All-tail (λ (x : MadeEvent). IsNoFree x.call) e es free) in
    (rest.0, (rest.1.0, rest.1.1, same_then o stays.0 rest.1.0 stays.2 rest.1.2))
