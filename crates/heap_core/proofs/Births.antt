-- Where an object was born in a step, there was none.
use Rattle.std.proofs.Common.{◌≡◌, ℕ, zero, suc, ◌+◌, ◌*◌, ◌<◌, ◌≤◌, [], ◌∷◌, length, sym, ap, ◌∙◌, ⊎_elim, arith}
use Rattle.std.proofs.lemmas.Option.{same_Some, none-some}
use Rattle.words.specs.declared.class.Kind.{Kind}
use Rattle.words.specs.declared.class.Placement.{Placement}
use Rattle.words.specs.declared.class.Placement.TheVariants.{Small, Large}
use Rattle.words.specs.declared.limits.TheConstants.{FIRST_ADDRESS}
use Rattle.heap_spec.specs.Layout.{LiesOn}
use Rattle.heap_spec.specs.declared.call.Call.{Call}
use Rattle.heap_spec.specs.declared.event.Event.{Event}
use Rattle.heap_spec.specs.declared.event.Event.TheVariants.{Attach, Mutator}
use Rattle.heap_spec.specs.declared.reply.Reply.{Reply}
use Rattle.heap_spec.specs.Heap.{Heap, Object, Mutator as HeapMutator, HasObject}
use Rattle.heap_spec.specs.Room.{HasRoom}
use Rattle.heap_spec.specs.Steps.{Acts, Attaches, Calls, Step, register}
use Rattle.heap_spec.proofs.Objects.{at_cases}
use Rattle.heap_spec.proofs.Links.{left_by, same_left}
use Rattle.heap_spec.proofs.Layouts.{IsPlacement, placed}

-- where there is room for a request no object has its base
room_none : (s : Heap) (placement : Placement) (kind : Kind) (a : ℕ) → IsPlacement placement → HasRoom s placement kind a → (o : Object) → HasObject s a o → 0 < length o.words → ⊥
room_none s (Small class) kind a fit room o has some = ⊎_elim (λ empty. empty a o has (lies class room.in_page room.is_cell)) (λ cut. none-some o (sym cut.1 ∙ has)) room.cut
  where
    lies : (class : ℕ) → class * (room.cell + 1) ≤ 512 → a ≡ FIRST_ADDRESS + 4096 * room.page + 8 * (class * room.cell) → LiesOn a (length o.words) room.page
    lies zero in_page is = (omega arith, omega arith)
    lies (suc c) in_page is = (omega arith, omega arith)
room_none s (Large pages) kind a fit room o has some =
    let start = room.is_start in let more : 0 < pages = fit in
    room.free room.first (omega arith) (omega arith) a o has (omega arith, omega arith)

-- The heap's objects have words, and their births are counted.
pub record HasCountedObjects (s : Heap) : Type 0 where
  pub some : (base : ℕ) (o : Object) → HasObject s base o → 0 < length o.words
  pub born : (base : ℕ) (o : Object) → HasObject s base o → o.birth ≤ s.births

acts_apart : (s : Heap) → HasCountedObjects s → (slot : ℕ) (m : HeapMutator) {call : Call} {reply : Reply} {s' : Heap} → Acts s slot m call reply s' → (base : ℕ) (p : Object) → HasObject s' base p → s.births < p.birth → (o : Object) → HasObject s base o → ⊥
acts_apart s all slot m (Acts.stored {base = b} {o = x} al reads) base p has born o was = ⊎_elim
    (λ here. let e = ap (λ (y : Object). y.birth) (same_Some _ p here.1) in let old = all.born b x reads.0 in omega arith)
    (λ other. let old = all.born base p other.1 in omega arith)
    (at_cases s.objects b _ base _ has)
acts_apart s all slot m (Acts.allocated {n = n} {kind = kind} {placement = placement} a e room) base p has born o was = ⊎_elim
    (λ here. room_none s placement kind a (placed _ n placement e) room o (ap s.objects (sym here.0) ∙ was) (all.some base o was))
    (λ other. let old = all.born base p other.1 in omega arith)
    (at_cases s.objects a _ base _ has)
acts_apart s all slot m (Acts.freed {r = r} gone) base p has born o was =
    let left = left_by s (register m r ∷ []) base p has in
    let same = (same_left s (register m r ∷ []) base p left).birth in
    let old = all.born base left.object left.has in omega arith
acts_apart s all slot m _ base p has born o was = let old = all.born base p has in omega arith

calls_apart : (s : Heap) → HasCountedObjects s → (slot : ℕ) (call : Call) {reply : Reply} {s' : Heap} → Calls s slot call reply s' → (base : ℕ) (p : Object) → HasObject s' base p → s.births < p.birth → (o : Object) → HasObject s base o → ⊥
calls_apart s all slot call (Calls.acts {m = m} at acts) base p has born o was = acts_apart s all slot m acts base p has born o was
calls_apart s all slot call (Calls.vacant none) base p has born o was = let old = all.born base p has in omega arith

attaches_apart : (s : Heap) → HasCountedObjects s → {reply : Reply} {s' : Heap} → Attaches s reply s' → (base : ℕ) (p : Object) → HasObject s' base p → s.births < p.birth → ⊥
attaches_apart s all (Attaches.attached lowest) base p has born = let old = all.born base p has in omega arith
attaches_apart s all (Attaches.no_slot none) base p has born = let old = all.born base p has in omega arith

pub born_apart : (s : Heap) → HasCountedObjects s → (event : Event) (reply : Reply) (s' : Heap) → Step s event reply s' → (base : ℕ) (p : Object) → HasObject s' base p → s.births < p.birth → (o : Object) → HasObject s base o → ⊥
born_apart s all Attach reply s' step base p has born o was = attaches_apart s all step base p has born
born_apart s all (Mutator slot call) reply s' step base p has born o was = calls_apart s all slot call step base p has born o was
born_apart s all _ reply s' step base p has born o was = absurd step
