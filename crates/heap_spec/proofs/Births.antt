-- The objects after a step: old ones, and one that was born in it.
use Rattle.std.proofs.Common.{[], ◌∷◌, ◌≡◌, ℕ, ◌+◌, length, sym, ap, ◌∙◌, arith, inl, inr, ⊎_elim}
use Rattle.std.proofs.lemmas.Option.{same_Some}
use Rattle.std.proofs.lemmas.List.{length-set}
use Rattle.heap_spec.specs.declared.call.Call.{Call}
use Rattle.heap_spec.specs.declared.event.Event.{Event}
use Rattle.heap_spec.specs.declared.event.Event.TheVariants.{Attach, Mutator}
use Rattle.heap_spec.specs.declared.reply.Reply.{Reply}
use Rattle.heap_spec.specs.Heap.{Heap, Object, Mutator as HeapMutator, HasObject}
use Rattle.heap_spec.specs.Steps.{Acts, Attaches, Calls, Step, register}
use Rattle.heap_spec.specs.Laws.{IsOldOrNew}
use Rattle.heap_spec.proofs.Objects.{at_cases, same_object}
use Rattle.heap_spec.proofs.Links.{left_by, same_left}

acts_births : (s : Heap) (slot : ℕ) (m : HeapMutator) {call : Call} {reply : Reply} {s' : Heap} → Acts s slot m call reply s' → (base : ℕ) (p : Object) → HasObject s' base p → IsOldOrNew s base p
acts_births s slot m (Acts.stored {base = b} {o = o} al reads) base p has = ⊎_elim
    (λ here. let e = same_Some _ p here.1 in inl (
      o,
      ap s.objects here.0 ∙ reads.0,
      record {
        birth = ap (λ (x : Object). x.birth) (sym e);
        kind = ap (λ (x : Object). x.kind) (sym e);
        size = ap (λ (x : Object). length x.words) (sym e) ∙ length-set o.words _ _;
      },
    ))
    (λ other. inl (p, other.1, same_object p))
    (at_cases s.objects b _ base _ has)
acts_births s slot m (Acts.allocated {kind = kind} {placement = placement} a e room) base p has = ⊎_elim
    (λ here. inr (let birth : s.births + 1 ≡ p.birth = ap (λ (x : Object). x.birth) (same_Some _ p here.1) in omega arith))
    (λ other. inl (p, other.1, same_object p))
    (at_cases s.objects a _ base _ has)
acts_births s slot m (Acts.freed {r = r} gone) base p has = let left = left_by s (register m r ∷ []) base p has in inl (left.object, left.has, same_left s (register m r ∷ []) base p left)
acts_births s slot m _ base p has = inl (p, has, same_object p)

calls_births : (s : Heap) (slot : ℕ) (call : Call) {reply : Reply} {s' : Heap} → Calls s slot call reply s' → (base : ℕ) (p : Object) → HasObject s' base p → IsOldOrNew s base p
calls_births s slot call (Calls.acts {m = m} at acts) base p has = acts_births s slot m acts base p has
calls_births s slot call (Calls.vacant none) base p has = inl (p, has, same_object p)

attaches_births : (s : Heap) {reply : Reply} {s' : Heap} → Attaches s reply s' → (base : ℕ) (p : Object) → HasObject s' base p → IsOldOrNew s base p
attaches_births s (Attaches.attached lowest) base p has = inl (p, has, same_object p)
attaches_births s (Attaches.no_slot none) base p has = inl (p, has, same_object p)

pub step_births : (s : Heap) (event : Event) (reply : Reply) (s' : Heap) → Step s event reply s' → (base : ℕ) (p : Object) → HasObject s' base p → IsOldOrNew s base p
step_births s Attach reply s' step base p has = attaches_births s step base p has
step_births s (Mutator slot call) reply s' step base p has = calls_births s slot call step base p has
step_births s _ reply s' step base p has = absurd step
