-- What a call of a mutator brings to where the collector reads it.
use Rattle.std.proofs.Common.{◌≡◌, ◌⊎◌, ℕ, zero, suc, ◌+◌, ◌<◌, List, [], ◌∷◌, ◌++◌, length, get_or, flat_map, replicate, sym, ap, ◌∙◌, subst, arith, inl, inr, ⊎_elim}
use Rattle.std.specs.Prelude.{Option, Some, None, Contains, slice_get, slice_index, slice_set}
use Rattle.std.proofs.lemmas.Bool.{cases_lt, cases_eq}
use Rattle.std.proofs.lemmas.Option.{same_Some, none-some, slice_get_within, slice_get-get_or}
use Rattle.std.proofs.lemmas.Grind.{get_or_default_zero}
use Rattle.std.proofs.lemmas.List.{length-set, length-replicate, get_or-set_same, get_or-set_other, get_or-replicate, get_or_past}
use Rattle.std.proofs.lemmas.List.Concat.{flat_map-cons}
use Rattle.std.proofs.lemmas.List.Elements.{Contains-append_left, Contains-append_right, Contains-append_cases, Contains-push_cases, Contains-get_or}
use Rattle.words.specs.declared.limits.TheConstants.{REGISTERS}
use Rattle.heap_spec.specs.declared.call.Call.{Call}
use Rattle.heap_spec.specs.declared.call.Call.TheVariants.{Alloc}
use Rattle.heap_spec.specs.declared.reply.Reply.{Reply}
use Rattle.heap_spec.specs.Layout.{PointsInto}
use Rattle.heap_spec.specs.Heap.{Heap, Object, Mutator as HeapMutator, IsSameObject, HasObject, PointsIntoObject, PointsIntoNothing, IsAttached, words_of_slot, root_words, without, loses_word}
use Rattle.heap_spec.specs.Room.{length_of}
use Rattle.heap_spec.specs.Steps.{Acts, Calls, Attaches, acts, vacant, register, with_mutator, with_register, newcomer}
use Rattle.heap_spec.specs.Runs.{IsBornSince}
use Rattle.heap_spec.specs.Shapes.{brought_register}
use Rattle.heap_spec.specs.Touching.{StandsIn, StandsInSome, IsBrought, HasApartObjects}
use Rattle.heap_spec.proofs.Objects.{at_cases, with_at-same, same_object}
use Rattle.heap_spec.proofs.Links.{left_by, same_left, cleared_among}

-- the words of a list after one is written
set_contains : (l : List ℕ) (i a y : ℕ) → Contains (slice_set l i a) y → Contains l y ⊎ ((slice_index (slice_set l i a) i ≡ y) × (a ≡ y))
set_contains l i a y has =
    let size : length (slice_set l i a) ≡ length l = length-set l i a in
    let lt : has.0 < length (slice_set l i a) = has.1 in
    ⊎_elim
    (λ e.
    let within : i < length (slice_set l i a) = subst (λ k. k < length (slice_set l i a)) e has.1 in
    let here : get_or (slice_set l i a) i y ≡ y = subst (λ k. get_or (slice_set l i a) k y ≡ y) e has.2 in
    inr (sym (get_or_default_zero (slice_set l i a) i y within) ∙ here, sym (get_or-set_same l i a y (omega arith)) ∙ here))
    (λ ne. inl (has.0, omega arith, sym (get_or-set_other l i has.0 a y ne) ∙ has.2))
    (cases_eq has.0 i)

-- what is in the lists of some, is in the lists of these with one other, or in the list of that one
flat_set : {X A : Type 0} (f : X → List A) (xs : List X) (i : ℕ) (x : X) (y : A) → Contains (flat_map f (slice_set xs i x)) y → Contains (flat_map f xs) y ⊎ Contains (f x) y
flat_set f [] i x y has = inl has
flat_set f (z ∷ zs) zero x y has = ⊎_elim
    (λ new. inr new)
    (λ old. inl (subst (λ l. Contains l y) (sym (flat_map-cons f z zs)) (Contains-append_right (f z) (flat_map f zs) y old)))
    (Contains-append_cases (f x) (flat_map f zs) y (subst (λ l. Contains l y) (flat_map-cons f x zs) has))
flat_set f (z ∷ zs) (suc i) x y has = ⊎_elim
    (λ old. inl (subst (λ l. Contains l y) (sym (flat_map-cons f z zs)) (Contains-append_left (f z) (flat_map f zs) y old)))
    (λ rest. ⊎_elim
    (λ old. inl (subst (λ l. Contains l y) (sym (flat_map-cons f z zs)) (Contains-append_right (f z) (flat_map f zs) y old)))
    (λ new. inr new)
    (flat_set f zs i x y rest))
    (Contains-append_cases (f z) (flat_map f (slice_set zs i x)) y (subst (λ l. Contains l y) (flat_map-cons f z (slice_set zs i x)) has))

flat_contains : {X A : Type 0} (f : X → List A) (xs : List X) (i : ℕ) (x : X) (y : A) → slice_get xs i ≡ Some x → Contains (f x) y → Contains (flat_map f xs) y
flat_contains f [] i x y e has = absurd (none-some x e)
flat_contains f (z ∷ zs) zero x y e has =
    subst (λ l. Contains l y) (sym (flat_map-cons f z zs)) (Contains-append_left (f z) (flat_map f zs) y (subst (λ v. Contains (f v) y) (sym (same_Some z x e)) has))
flat_contains f (z ∷ zs) (suc i) x y e has =
    subst (λ l. Contains l y) (sym (flat_map-cons f z zs)) (Contains-append_right (f z) (flat_map f zs) y (flat_contains f zs i x y e has))

-- the words of an attached mutator are root words
pub attached_words : (s : Heap) (slot : ℕ) (m : HeapMutator) (y : ℕ) → IsAttached s slot m → Contains (m.registers ++ m.stack) y → Contains (root_words s) y
attached_words s slot m y at has = Contains-append_left (flat_map words_of_slot s.mutators) s.globals y (flat_contains words_of_slot s.mutators slot (Some m) y at has)

-- another mutator at a slot that has one
now_attached : (s : Heap) (slot : ℕ) (m k : HeapMutator) → IsAttached s slot m → IsAttached (with_mutator s slot (Some k)) slot k
now_attached s slot m k at =
    let lt : slot < length s.mutators = slice_get_within s.mutators slot (Some m) at in
    let size : length (slice_set s.mutators slot (Some k)) ≡ length s.mutators = length-set s.mutators slot (Some k) in
    slice_get-get_or (slice_set s.mutators slot (Some k)) slot None (omega arith) ∙ ap Some (get_or-set_same s.mutators slot (Some k) None lt)

-- the root words with another mutator at a slot
slot_words : (s : Heap) (slot : ℕ) (k : Option HeapMutator) (W : ℕ → Type 0) → ((y : ℕ) → Contains (words_of_slot k) y → Contains (root_words s) y ⊎ W y)
    → (y : ℕ) → Contains (root_words (with_mutator s slot k)) y → Contains (root_words s) y ⊎ W y
slot_words s slot k W of y has = ⊎_elim
    (λ slots. ⊎_elim
    (λ old. inl (Contains-append_left (flat_map words_of_slot s.mutators) s.globals y old))
    (of y)
    (flat_set words_of_slot s.mutators slot k y slots))
    (λ globals. inl (Contains-append_right (flat_map words_of_slot s.mutators) s.globals y globals))
    (Contains-append_cases (flat_map words_of_slot (slice_set s.mutators slot k)) s.globals y has)

-- the root words with a word in a register
register_words : (s : Heap) (slot : ℕ) (m : HeapMutator) → IsAttached s slot m → (stack : List ℕ) → ((y : ℕ) → Contains stack y → Contains m.stack y) → (d w : ℕ) (W : ℕ → Type 0)
    → ((y : ℕ) → slice_index (slice_set m.registers d w) d ≡ y → w ≡ y → W y)
    → (y : ℕ) → Contains (root_words (with_register s slot (record m { stack = stack }) d w)) y → Contains (root_words s) y ⊎ W y
register_words s slot m at stack fewer d w W brings = slot_words s slot (Some (record m { registers = slice_set m.registers d w; stack = stack })) W (λ y has. ⊎_elim
    (λ reg. ⊎_elim
    (λ old. inl (attached_words s slot m y at (Contains-append_left m.registers m.stack y old)))
    (λ new. inr (brings y new.0 new.1))
    (set_contains m.registers d w y reg))
    (λ below. inl (attached_words s slot m y at (Contains-append_right m.registers m.stack y (fewer y below))))
    (Contains-append_cases (slice_set m.registers d w) stack y has))

-- the word of that register stands in it
stands_now : (s : Heap) (slot : ℕ) (m : HeapMutator) → IsAttached s slot m → (stack : List ℕ) (d w y : ℕ) → slice_index (slice_set m.registers d w) d ≡ y
    → StandsIn (with_register s slot (record m { stack = stack }) d w) slot d y
stands_now s slot m at stack d w y e =
    let k : HeapMutator = record m { registers = slice_set m.registers d w; stack = stack } in (k, now_attached s slot m k at, e)

-- what a word that stands in a register reads, a root word reads
stands_held : (s : Heap) (slot r w : ℕ) → StandsIn s slot r w → Contains (root_words s) w ⊎ (w ≡ 0)
stands_held s slot r w x = ⊎_elim
    (λ lt. inl (attached_words s slot x.0 w x.1 (Contains-append_left x.0.registers x.0.stack w (subst (Contains x.0.registers) x.2 (Contains-get_or x.0.registers r 0 lt)))))
    (λ past. inr (sym x.2 ∙ get_or_past x.0.registers r 0 past))
    (cases_lt r (length x.0.registers))

-- An object is an old one, and each of its words it had, or is among these, or points into nothing.
pub record IsOld (s s' : Heap) (W : ℕ → Type 0) (base : ℕ) (o : Object) : Type 0 where
  pub was : Object
  pub there : HasObject s base was
  pub same : IsSameObject was o
  pub words : (v : ℕ) → Contains o.words v → Contains was.words v ⊎ (W v ⊎ PointsIntoNothing s' v)

-- An object is new: one of these words points into it, and its own words point into nothing.
pub record IsNew (s s' : Heap) (W : ℕ → Type 0) (base : ℕ) (o : Object) : Type 0 where
  pub born : IsBornSince s o.birth
  pub words : (v : ℕ) → Contains o.words v → PointsIntoNothing s' v
  pub at : ℕ
  pub among : W at
  pub reads : PointsIntoObject s' at base o

-- From one heap to another no words but these came to where the collector reads them.
pub record Gains (s s' : Heap) (W : ℕ → Type 0) : Type 0 where
  pub roots : (y : ℕ) → Contains (root_words s') y → Contains (root_words s) y ⊎ (W y ⊎ PointsIntoNothing s' y)
  pub objects : (base : ℕ) (o : Object) → HasObject s' base o → IsOld s s' W base o ⊎ IsNew s s' W base o
  pub held : (w : ℕ) → W w → Contains (root_words s') w ⊎ ((base : ℕ) (o : Object) → PointsIntoObject s' w base o → IsBornSince s o.birth)

-- an object that is as it was
as_was : (s s' : Heap) (W : ℕ → Type 0) (base : ℕ) (o : Object) → HasObject s base o → IsOld s s' W base o
as_was s s' W base o has = record { was = o; there = has; same = same_object o; words = λ v among. inl among }

acts_roots : (s : Heap) (slot : ℕ) (m : HeapMutator) → IsAttached s slot m → {call : Call} {reply : Reply} {s' : Heap} → Acts s slot m call reply s'
    → (y : ℕ) → Contains (root_words s') y → Contains (root_words s) y ⊎ IsBrought s slot call s' y
acts_roots s slot m at Acts.detached = slot_words s slot None (λ y. ⊥) (λ y has. absurd (let lt = has.1 in omega arith))
acts_roots s slot m at (Acts.set {r = r} {w = w}) = register_words s slot m at m.stack (λ y has. has) r w _ (λ y e same. stands_now s slot m at m.stack r w y e)
acts_roots s slot m at (Acts.copied {d = d} {a = a}) = register_words s slot m at m.stack (λ y has. has) d _ _ (λ y e same. stands_now s slot m at m.stack d _ y e)
acts_roots s slot m at (Acts.added {d = d}) = register_words s slot m at m.stack (λ y has. has) d _ _ (λ y e same. stands_now s slot m at m.stack d _ y e)
acts_roots s slot m at (Acts.subtracted {d = d}) = register_words s slot m at m.stack (λ y has. has) d _ _ (λ y e same. stands_now s slot m at m.stack d _ y e)
acts_roots s slot m at (Acts.pushed {r = r} few) = slot_words s slot (Some (record m { stack = m.stack ++ register m r ∷ [] })) _ (λ y has. ⊎_elim
    (λ reg. inl (attached_words s slot m y at (Contains-append_left m.registers m.stack y reg)))
    (λ on. ⊎_elim
    (λ old. inl (attached_words s slot m y at (Contains-append_right m.registers m.stack y old)))
    (λ e. inr (record m { stack = m.stack ++ register m r ∷ [] }, now_attached s slot m _ at, e))
    (Contains-push_cases m.stack (register m r) y on))
    (Contains-append_cases m.registers (m.stack ++ register m r ∷ []) y has))
acts_roots s slot m at (Acts.popped {r = r} {w = w} rest e) =
    register_words s slot m at rest (λ y has. subst (λ l. Contains l y) (sym e) (Contains-append_left rest (w ∷ []) y has)) r w _ (λ y is same. stands_now s slot m at rest r w y is)
acts_roots s slot m at (Acts.loaded {d = d} al reads) = register_words s slot m at m.stack (λ y has. has) d _ _ (λ y e same. stands_now s slot m at m.stack d _ y e)
acts_roots s slot m at (Acts.allocated {d = d} {n = n} {kind = kind} {placement = placement} a e room) =
    register_words s slot m at m.stack (λ y has. has) d a _ (λ y is same.
    (record { birth = s.births + 1; kind = kind; words = replicate (length_of placement) 0 }, with_at-same s.objects a _ y (sym same), omega arith))
acts_roots s slot m at (Acts.based {d = d} {base = b} reads) = register_words s slot m at m.stack (λ y has. has) d b _ (λ y e same. stands_now s slot m at m.stack d b y e)
acts_roots s slot m at (Acts.global_got {d = d} {g = g}) = register_words s slot m at m.stack (λ y has. has) d _ _ (λ y e same. stands_now s slot m at m.stack d _ y e)
acts_roots s slot m at (Acts.global_put {g = g} {r = r}) = λ y has. ⊎_elim
    (λ slots. inl (Contains-append_left (flat_map words_of_slot s.mutators) s.globals y slots))
    (λ globals. ⊎_elim
    (λ old. inl (Contains-append_right (flat_map words_of_slot s.mutators) s.globals y old))
    (λ new. inr (m, at, new.1))
    (set_contains s.globals g (register m r) y globals))
    (Contains-append_cases (flat_map words_of_slot s.mutators) (slice_set s.globals g (register m r)) y has)
acts_roots s slot m at _ = λ y has. inl has

acts_objects : (s : Heap) (slot : ℕ) (m : HeapMutator) → IsAttached s slot m → {call : Call} {reply : Reply} {s' : Heap} → HasApartObjects s' → Acts s slot m call reply s'
    → (base : ℕ) (o : Object) → HasObject s' base o → IsOld s s' (IsBrought s slot call s') base o ⊎ IsNew s s' (IsBrought s slot call s') base o
acts_objects s slot m at d (Acts.stored {r = r} {base = b} {o = o} al reads) base p has = inl (⊎_elim
    (λ here. let e = same_Some _ p here.1 in record {
      was = o;
      there = ap s.objects here.0 ∙ reads.0;
      same = record { birth = ap (λ (x : Object). x.birth) (sym e); kind = ap (λ (x : Object). x.kind) (sym e); size = ap (λ (x : Object). length x.words) (sym e) ∙ length-set o.words _ _ };
      words = λ v among. ⊎_elim (λ old. inl old) (λ new. inr (inl (m, at, new.1))) (set_contains o.words _ _ v (subst (λ l. Contains l v) (ap (λ (x : Object). x.words) (sym e)) among));
    })
    (λ other. as_was s _ _ base p other.1)
    (at_cases s.objects b _ base _ has))
acts_objects s slot m at d (Acts.allocated {kind = kind} {placement = placement} a e room) base p has = ⊎_elim
    (λ here.
    let is = same_Some _ p here.1 in
    let birth : s.births + 1 ≡ p.birth = ap (λ (x : Object). x.birth) is in
    let some : 0 < length p.words = d.some base p has in
    inr (record {
      born = omega arith;
      words = λ v among b q reads.
          let e : 0 ≡ v = zeros (length_of placement) v (subst (λ l. Contains l v) (ap (λ (x : Object). x.words) (sym is)) among) in
          d.zero b q (reads.0, subst (λ k. PointsInto k b (length q.words)) (sym e) reads.1);
      at = base;
      among = (p, has, omega arith);
      reads = (has, (omega arith, omega arith));
    }))
    (λ other. inl (as_was s _ _ base p other.1))
    (at_cases s.objects a _ base _ has)
  where
    zeros : (n v : ℕ) → Contains (replicate n 0) v → 0 ≡ v
    zeros n v among = let size : length {A = ℕ} (replicate n 0) ≡ n = length-replicate {A = ℕ} n 0 in let lt = among.1 in sym (get_or-replicate n among.0 0 v (omega arith)) ∙ among.2
acts_objects s slot m at d (Acts.freed {r = r} gone) base p has =
    let bases = register m r ∷ [] in
    let left = left_by s bases base p has in
    inl (record {
      was = left.object;
      there = left.has;
      same = same_left s bases base p left;
      words = λ v among. ⊎_elim
          (λ zero. inr (inr (subst (PointsIntoNothing (without s bases)) (sym zero) d.zero)))
          (λ old. inl old)
          (cleared_among (loses_word s bases) base left.object.words v (subst (λ (x : Object). Contains x.words v) (sym left.is) among));
    })
acts_objects s slot m at d _ base p has = inl (as_was s _ _ base p has)

-- a word of a register points into nothing, or is a root word
by_register : (s s' : Heap) → HasApartObjects s' → (slot r w : ℕ) → StandsIn s' slot r w → Contains (root_words s') w ⊎ ((base : ℕ) (o : Object) → PointsIntoObject s' w base o → IsBornSince s o.birth)
by_register s s' d slot r w x = ⊎_elim (λ among. inl among) (λ none. inr (λ base o reads. absurd (d.zero base o (subst (λ k. PointsIntoObject s' k base o) none reads)))) (stands_held s' slot r w x)

by_some : (s s' : Heap) → HasApartObjects s' → (slot : ℕ) (r : Option ℕ) (w : ℕ) → StandsInSome s' slot r w → Contains (root_words s') w ⊎ ((base : ℕ) (o : Object) → PointsIntoObject s' w base o → IsBornSince s o.birth)
by_some s s' d slot None w x = absurd x
by_some s s' d slot (Some r) w x = by_register s s' d slot r w x

-- a word that a call brought is a root word, or points into nothing but what is new
brought_held : (s : Heap) (slot : ℕ) (call : Call) (s' : Heap) → HasApartObjects s' → (w : ℕ) → IsBrought s slot call s' w
    → Contains (root_words s') w ⊎ ((base : ℕ) (o : Object) → PointsIntoObject s' w base o → IsBornSince s o.birth)
brought_held s slot (Alloc r n kind) s' d w x = inr (λ base o reads.
    let some = d.some w x.0 x.1 in
    let same : base ≡ w = d.one w base w o x.0 reads (x.1, (omega arith, omega arith)) in
    subst (λ (p : Object). IsBornSince s p.birth) (same_Some x.0 o (sym x.1 ∙ ap s'.objects (sym same) ∙ reads.0)) x.2)
brought_held s slot call s' d w x = by_some s s' d slot (brought_register call) w x

pub calls_gain : (s : Heap) (slot : ℕ) (call : Call) (reply : Reply) (s' : Heap) → HasApartObjects s' → Calls s slot call reply s' → Gains s s' (IsBrought s slot call s')
calls_gain s slot call reply s' d (acts {m = m} at act) = record {
  roots = λ y has. ⊎_elim (λ old. inl old) (λ new. inr (inl new)) (acts_roots s slot m at act y has);
  objects = acts_objects s slot m at d act;
  held = brought_held s slot call s' d;
}
calls_gain s slot call reply s' d (vacant none) = record {
  roots = λ y has. inl has;
  objects = λ base o has. inl (as_was s _ _ base o has);
  held = brought_held s slot call s' d;
}

pub attach_gain : (s : Heap) (reply : Reply) (s' : Heap) → HasApartObjects s' → Attaches s reply s' → Gains s s' (λ w. ⊥)
attach_gain s reply s' d (Attaches.attached {slot = slot} lowest) = record {
  roots = λ y has. ⊎_elim (λ old. inl old) (λ e. inr (inr (subst (PointsIntoNothing s') e d.zero))) (slot_words s slot (Some newcomer) (λ y. 0 ≡ y) (λ y among. inr (fresh y among)) y has);
  objects = λ base o has. inl (as_was s _ _ base o has);
  held = λ w none. absurd none;
}
  where
    fresh : (y : ℕ) → Contains (newcomer.registers ++ newcomer.stack) y → 0 ≡ y
    fresh y among = ⊎_elim
        (λ regs. let size : length {A = ℕ} (replicate REGISTERS 0) ≡ REGISTERS = length-replicate {A = ℕ} REGISTERS 0 in let lt = regs.1 in sym (get_or-replicate REGISTERS regs.0 0 y (omega arith)) ∙ regs.2)
        (λ none. absurd (let lt = none.1 in omega arith))
        (Contains-append_cases newcomer.registers newcomer.stack y among)
attach_gain s reply s' d (Attaches.no_slot none) = record { roots = λ y has. inl has; objects = λ base o has. inl (as_was s _ _ base o has); held = λ w none. absurd none }
