-- What a legal history leads to, and a register after it was set.
use Rattle.std.proofs.Common.{◌≡◌, ◌≢◌, ℕ, ◌<◌, List, [], ◌∷◌, ◌++◌, length, refl, sym, ap, ◌∙◌, subst, arith, get_or-set_same}
use Rattle.std.specs.Prelude.{Some, slice_get, slice_set}
use Rattle.std.proofs.lemmas.Option.{slice_get_within}
use Rattle.std.proofs.lemmas.List.Elements.{All-cons, All-nil, All-head, All-tail}
use Rattle.history.specs.Histories.{AreOfOthers, Walks, Reaches}
use Rattle.heap_spec.specs.declared.call.Call.TheVariants.{Set}
use Rattle.heap_spec.specs.declared.event.Event.{Event}
use Rattle.heap_spec.specs.declared.event.Event.TheVariants.{Mutator}
use Rattle.heap_spec.specs.declared.reply.Reply.{Reply}
use Rattle.heap_spec.specs.declared.reply.Reply.TheVariants.{Done}
use Rattle.heap_spec.specs.Heap.{Heap, Mutator as HeapMutator, IsAttached}
use Rattle.heap_spec.specs.Steps.{Acts, Calls, acts, with_register, register}
use Rattle.heap_spec.specs.Runs.{Moment}
use Rattle.heap_spec.specs.Ranges.{InRange}
use Rattle.heap_spec.specs.Sound.{IsSound}
use Rattle.heap_spec.specs.Laws.{IsRunFromOpening}
use Rattle.heap_spec.proofs.Calls.{attached_is}
use Rattle.heap_spec.proofs.Runs.{fresh_sound}
use Rattle.heap_spec.specs.SequentialObject.{HeapState, heap_of, Opens, StateStep}
use Rattle.heap_history.specs.Passes.{MadeEvent}
use Rattle.heap_history.proofs.Slots.{slice_get-set_same, step_mutators}

-- a chain ends with its last step
pub walks_last : (s t : HeapState) (es : List MadeEvent) (e : MadeEvent) → Walks StateStep s (es ++ e ∷ []) t → (u : HeapState) × Walks StateStep s es u × StateStep u e.who e.call e.reply t
walks_last s t [] e w = (s, refl, subst (λ (x : HeapState). StateStep s e.who e.call e.reply x) w.2 w.1)
walks_last s t (x ∷ xs) e w = let r = walks_last w.0 t xs e w.2 in (r.0, (w.0, w.1, r.1), r.2)

-- and goes through each beginning of it
pub walks_through : (s t : HeapState) (es more : List MadeEvent) → Walks StateStep s (es ++ more) t → (u : HeapState) × Walks StateStep s es u × Walks StateStep u more t
walks_through s t [] more w = (s, refl, w)
walks_through s t (x ∷ xs) more w = let r = walks_through w.0 t xs more w.2 in (r.0, (w.0, w.1, r.1), r.2)

-- a state that a history leads to is a run of a new heap, with its numbers in range
pub step_fresh : (s u : HeapState) (who : ℕ) (asked : Event) (reply : Reply) → StateStep s who asked reply u → IsRunFromOpening s.pages s.run → IsRunFromOpening u.pages u.run
step_fresh s u who asked reply h f = subst (λ (x : HeapState). IsRunFromOpening x.pages x.run) (sym h.goes) (record {
  some_page = f.some_page;
  few_pages = f.few_pages;
  in_range = All-cons (λ (m : Moment). InRange m.told.event) _ s.run h.in_range f.in_range;
  is_run = (h.happens, f.is_run);
})

walks_fresh : (s t : HeapState) (es : List MadeEvent) → Walks StateStep s es t → IsRunFromOpening s.pages s.run → IsRunFromOpening t.pages t.run
walks_fresh s t [] w f = subst (λ (x : HeapState). IsRunFromOpening x.pages x.run) w f
walks_fresh s t (e ∷ es) w f = walks_fresh w.0 t es w.2 (step_fresh s w.0 e.who e.call e.reply w.1 f)

pub reached_fresh : (pages : ℕ) (es : List MadeEvent) (t : HeapState) → Reaches (Opens pages) StateStep es t → IsRunFromOpening t.pages t.run
reached_fresh pages es t r =
    walks_fresh r.0 t es r.2 (subst (λ l. IsRunFromOpening r.0.pages l) (sym r.1.nothing)
    (record { some_page = r.1.some_page; few_pages = r.1.few_pages; in_range = All-nil (λ (m : Moment). InRange m.told.event); is_run = tt }))

pub reached_sound : (pages : ℕ) (es : List MadeEvent) (t : HeapState) → Reaches (Opens pages) StateStep es t → IsSound (heap_of t)
reached_sound pages es t r = fresh_sound t.pages t.run (reached_fresh pages es t r)

-- others leave a slot's registers and stack
pub walks_mutators : (s t : HeapState) (es : List MadeEvent) (who : ℕ) → Walks StateStep s es t → AreOfOthers who es → slice_get (heap_of t).mutators who ≡ slice_get (heap_of s).mutators who
walks_mutators s t [] who w others = ap (λ (x : HeapState). slice_get (heap_of x).mutators who) (sym w)
walks_mutators s t (e ∷ es) who w others =
    walks_mutators w.0 t es who w.2 (All-tail (λ (x : MadeEvent). x.who ≢ who) e es others)
    ∙ step_mutators s w.0 e.who who e.call e.reply (All-head (λ (x : MadeEvent). x.who ≢ who) e es others) w.1

-- what a register is after it was set
pub set_is : (s : Heap) (slot r w : ℕ) {s' : Heap} → Calls s slot (Set r w) Done s' → (m : HeapMutator) × IsAttached s slot m × (s' ≡ with_register s slot m r w)
set_is s slot r w (acts {m = m} at Acts.set) = (m, at, refl)

-- a mutator and its register after it was set
pub set_leaves : (s t : HeapState) (who slot r w : ℕ) → IsSound (heap_of s) → StateStep s who (Mutator slot (Set r w)) Done t → (m : HeapMutator) × IsAttached (heap_of t) slot m × (register m r ≡ w)
set_leaves s t who slot r w sound step =
    let is = set_is (heap_of s) slot r w step.happens in
    let m = is.0 in
    let now : heap_of t ≡ with_register (heap_of s) slot m r w = ap heap_of step.goes ∙ is.2 in
    let changed : HeapMutator = record m { registers = slice_set m.registers r w } in
    let there : r < length m.registers = (let size = (attached_is (heap_of s) slot m sound is.1).registers.size in let range = step.in_range.1.0 in omega (arith, size, range)) in (
      changed,
      ap (λ (x : Heap). slice_get x.mutators slot) now ∙ slice_get-set_same (heap_of s).mutators slot (Some changed) (slice_get_within (heap_of s).mutators slot (Some m) is.1),
      get_or-set_same m.registers r w 0 there,
    )
