-- How the touched births grow while a cycle marks.
use Rattle.std.proofs.Common.{◌≡◌, ◌↔◌, ◌⊎◌, ℕ, ◌<◌, true, [], ◌∷◌, length, refl, sym, ap, ◌∙◌, subst, arith, inl, inr, ⊎_elim}
use Rattle.std.specs.Prelude.{Option, Some, None, Contains, slice_get}
use Rattle.std.proofs.lemmas.Option.{same_Some}
use Rattle.std.proofs.lemmas.List.Elements.{Contains-append_left, Contains-get_or}
use Rattle.words.specs.declared.class.Kind.{Kind}
use Rattle.words.specs.declared.class.Kind.TheVariants.{Normal}
use Rattle.words.specs.declared.class.Placement.{Placement}
use Rattle.words.specs.declared.limits.TheConstants.{REGISTERS}
use Rattle.heap_spec.specs.declared.call.Call.{Call}
use Rattle.heap_spec.specs.declared.call.Call.TheVariants.{Store, Alloc}
use Rattle.heap_spec.specs.declared.event.Event.TheVariants.{Attach, Mutator}
use Rattle.heap_spec.specs.declared.reply.Reply.{Reply}
use Rattle.heap_spec.specs.declared.reply.Reply.TheVariants.{Done}
use Rattle.heap_spec.specs.Layout.{PointsInto}
use Rattle.heap_spec.specs.Heap.{Heap, Object, Mutator as HeapMutator, HasObject, PointsIntoObject, IsAttached, root_words}
use Rattle.heap_spec.specs.Closure.{Closure, given, root, word, IsInClosure}
use Rattle.heap_spec.specs.Steps.{Acts, Calls, Attaches, acts, vacant, register, with_register, with_new}
use Rattle.heap_spec.specs.Runs.{Start, Run, Touched, IsBornSince, heap_after, is_marking, goes_on}
use Rattle.heap_spec.specs.Laws.{KeepsRules, IsNoAlloc}
use Rattle.heap_spec.specs.Shapes.{brought_register}
use Rattle.heap_spec.specs.Touching.{LedTo, first, next, StandsIn, StandsInSome, HasNewborn, IsBrought, HasApartObjects, IsTouchedMore}
use Rattle.heap_spec.proofs.Closures.{closure_least}
use Rattle.heap_spec.specs.Histories.{Happens}
use Rattle.heap_spec.specs.Ranges.{InRange}
use Rattle.heap_spec.specs.Sound.{IsSound}
use Rattle.heap_spec.proofs.Objects.{at_cases, object_lies, one_read}
use Rattle.heap_spec.proofs.Calls.{attached_is}
use Rattle.heap_spec.proofs.Runs.{touched_closed, happens_kept}
use Rattle.heap_spec.proofs.Loads.{same_mutator}
use Rattle.heap_spec.proofs.Gaining.{Gains, IsNew, IsOld, attach_gain, attached_words, calls_gain}

-- What is touched after a step that brings some words, where what was touched was closed.
module _ (s s' : Heap) (T W : ℕ → Type 0) (d : HasApartObjects s) (d' : HasApartObjects s') (g : Gains s s' W) (shut : (birth : ℕ) → IsInClosure s T birth → T birth) where
  abbrev pub After : ℕ → Type 0
  After birth = T birth ⊎ IsBornSince s birth

  old_touched : (base : ℕ) (o : Object) (i : IsOld s s' W base o) → Closure s T base → T o.birth
  old_touched base o i c = subst T (sym i.same.birth) (shut i.was.birth (base, i.was, i.there, refl, c))

  old_reads : (w base : ℕ) (o : Object) (i : IsOld s s' W base o) → PointsIntoObject s' w base o → PointsIntoObject s w base i.was
  old_reads w base o i reads = (i.there, subst (λ n. PointsInto w base n) i.same.size reads.1)

  rooted : (w base : ℕ) (o : Object) → Contains (root_words s') w → PointsIntoObject s' w base o → IsTouchedMore T s s' W base o
  rooted w base o among reads = ⊎_elim
      (λ old. ⊎_elim (λ i. inl (old_touched base o i (root old (old_reads w base o i reads)))) (λ n. inr (inl n.born)) (g.objects base o reads.0))
      (λ rest. ⊎_elim (λ m. inr (inr (w, m, first reads))) (λ none. absurd (none base o reads)) rest)
      (g.roots w among)

  -- a word of a touched object that was there
  linked : (from w base : ℕ) (p o : Object) (i : IsOld s s' W from p) → T p.birth → p.kind ≡ Normal → Contains p.words w → PointsIntoObject s' w base o → IsTouchedMore T s s' W base o
  linked from w base p o i t normal among reads = ⊎_elim
      (λ old. ⊎_elim
      (λ j. inl (old_touched base o j (word (given i.there (subst T i.same.birth t)) i.there (sym i.same.kind ∙ normal) old (old_reads w base o j reads))))
      (λ n. inr (inl n.born))
      (g.objects base o reads.0))
      (λ rest. ⊎_elim (λ m. inr (inr (w, m, first reads))) (λ none. absurd (none base o reads)) rest)
      (i.words w among)

  led : (from w base : ℕ) (p o : Object) → IsTouchedMore T s s' W from p → HasObject s' from p → p.kind ≡ Normal → Contains p.words w → PointsIntoObject s' w base o → IsTouchedMore T s s' W base o
  led from w base p o more has normal among reads = ⊎_elim
      (λ i. ⊎_elim
      (λ t. linked from w base p o i t normal among reads)
      (λ rest. ⊎_elim
      (λ born. let few = d.born from i.was i.there in let same = i.same.birth in absurd (omega arith))
      (λ x. inr (inr (x.0, x.1, next x.2 has normal among reads)))
      rest)
      more)
      (λ n. absurd (n.words w among base o reads))
      (g.objects from p has)

  closes : KeepsRules s' After (λ base. (o : Object) → HasObject s' base o → IsTouchedMore T s s' W base o)
  closes = record {
    given = λ base o has births p at. subst (IsTouchedMore T s s' W base) (same_Some o p (sym has ∙ at)) (⊎_elim (λ t. inl t) (λ born. inr (inl born)) births);
    root = λ w base o among reads p at. subst (IsTouchedMore T s s' W base) (same_Some o p (sym reads.0 ∙ at)) (rooted w base o among reads);
    word = λ from w base p o more has normal among reads q at. subst (IsTouchedMore T s s' W base) (same_Some o q (sym reads.0 ∙ at)) (led from w base p o (more p has) has normal among reads);
  }

  touched_to : (base : ℕ) (o : Object) → HasObject s' base o → IsInClosure s' After o.birth → IsTouchedMore T s s' W base o
  touched_to base o has x =
      let same : x.0 ≡ base = d'.births x.0 base x.1 o x.2 has x.3 in
      closure_least s' After (λ b. (p : Object) → HasObject s' b p → IsTouchedMore T s s' W b p) closes (subst (Closure s' After) same x.4) o has

  led_in : (w : ℕ) → W w → {base : ℕ} → LedTo s' w base → Closure s' After base
  led_in w m (first {base = base} {o = o} reads) = ⊎_elim (λ among. root among reads) (λ born. given reads.0 (inr (born base o reads))) (g.held w m)
  led_in w m (next l has normal among reads) = word (led_in w m l) has normal among reads

  touched_from : (base : ℕ) (o : Object) → HasObject s' base o → IsTouchedMore T s s' W base o → IsInClosure s' After o.birth
  touched_from base o has more = (
    base,
    o,
    has,
    refl,
    ⊎_elim
        (λ t. given has (inl t))
        (λ rest. ⊎_elim (λ born. given has (inr born)) (λ x. led_in x.0 x.1 x.2) rest)
        more,
  )

  -- a root word of the heap before leads to what was touched, or is new
  module _ (known : (v : ℕ) → W v → Contains (root_words s) v) where
    at_root : (v base : ℕ) (o : Object) → W v → PointsIntoObject s' v base o → T o.birth ⊎ IsBornSince s o.birth
    at_root v base o m reads = ⊎_elim (λ i. inl (old_touched base o i (root (known v m) (old_reads v base o i reads)))) (λ n. inr n.born) (g.objects base o reads.0)

    led_known : (w : ℕ) → W w → {base : ℕ} → LedTo s' w base → (p : Object) → HasObject s' base p → T p.birth ⊎ IsBornSince s p.birth
    led_known w m (first {base = base} {o = o} reads) p there =
        subst (λ (x : Object). T x.birth ⊎ IsBornSince s x.birth) (same_Some o p (sym reads.0 ∙ there)) (at_root w base o m reads)
    led_known w m (next {from = from} {v = v} {base = base} {p = q} {o = o} l has normal among reads) p there =
        subst (λ (x : Object). T x.birth ⊎ IsBornSince s x.birth) (same_Some o p (sym reads.0 ∙ there)) (⊎_elim
        (λ i. ⊎_elim
        (λ t. ⊎_elim
        (λ old. ⊎_elim
        (λ j. inl (old_touched base o j (word (given i.there (subst T i.same.birth t)) i.there (sym i.same.kind ∙ normal) old (old_reads v base o j reads))))
        (λ n. inr n.born)
        (g.objects base o reads.0))
        (λ rest. ⊎_elim (λ brought. at_root v base o brought reads) (λ none. absurd (none base o reads)) rest)
        (i.words v among))
        (λ born. let few = d.born from i.was i.there in let same = i.same.birth in absurd (omega arith))
        (led_known w m l q has))
        (λ n. absurd (n.words v among base o reads))
        (g.objects from q has))

    touched_known : (base : ℕ) (o : Object) → HasObject s' base o → IsInClosure s' After o.birth → T o.birth ⊎ IsBornSince s o.birth
    touched_known base o has x = ⊎_elim (λ t. inl t) (λ rest. ⊎_elim (λ born. inr born) (λ y. led_known y.0 y.1 y.2 o has) rest) (touched_to base o has x)

  -- flags that tell what is touched, and then flags to which what the words lead to was added
  module _ (F F' : ℕ → Type 0) (tell : (base : ℕ) (o : Object) → HasObject s base o → F base ↔ T o.birth)
      (only : (base : ℕ) (o : Object) → HasObject s' base o → F' base → F base ⊎ ((w : ℕ) × W w × LedTo s' w base))
      (keeps : (base : ℕ) → F base → F' base)
      (adds : (w : ℕ) → W w → ((at : ℕ) (o : Object) → PointsIntoObject s' w at o → F at → (base : ℕ) → LedTo s' w base → F base) → (base : ℕ) → LedTo s' w base → F' base)
      (one : (v w : ℕ) → W v → W w → v ≡ w) where
    flag_old : (base : ℕ) (o : Object) (i : IsOld s s' W base o) → F base → T o.birth
    flag_old base o i f = subst T (sym i.same.birth) ((tell base i.was i.there).0 f)

    old_flag : (base : ℕ) (o : Object) (i : IsOld s s' W base o) → T o.birth → F base
    old_flag base o i t = (tell base i.was i.there).1 (subst T i.same.birth t)

    -- where what a word points into has its flag, what it leads to has
    all_led : (w : ℕ) → W w → (at : ℕ) (a : Object) → PointsIntoObject s' w at a → F at → {base : ℕ} → LedTo s' w base → F base
    all_led w m at a here f (first {base = base} {o = o} reads) = subst F (d'.one w at base a o here reads) f
    all_led w m at a here f (next {from = from} {v = v} {base = base} {p = p} {o = o} l has normal among reads) = ⊎_elim
        (λ i. ⊎_elim
        (λ old. ⊎_elim
        (λ j. old_flag base o j (old_touched base o j (word (given i.there ((tell from i.was i.there).0 (all_led w m at a here f l))) i.there (sym i.same.kind ∙ normal) old (old_reads v base o j reads))))
        (λ n. itself (n.at) n.among n.reads)
        (g.objects base o reads.0))
        (λ rest. ⊎_elim (λ brought. itself v brought reads) (λ none. absurd (none base o reads)) rest)
        (i.words v among))
        (λ n. absurd (n.words v among base o reads))
        (g.objects from p has)
      where
        itself : (v : ℕ) → W v → PointsIntoObject s' v base o → F base
        itself v n reads = subst F (d'.one w at base a o here (subst (λ k. PointsIntoObject s' k base o) (one v w n m) reads)) f

    pub flags_tell : (base : ℕ) (o : Object) → HasObject s' base o → F' base ↔ IsInClosure s' After o.birth
    flags_tell base o has = (
      λ f. touched_from base o has (⊎_elim
          (λ old. ⊎_elim (λ i. inl (flag_old base o i old)) (λ n. inr (inl n.born)) (g.objects base o has))
          (λ x. inr (inr x))
          (only base o has f)),
      λ x. ⊎_elim
          (λ t. ⊎_elim (λ i. keeps base (old_flag base o i t)) fresh (g.objects base o has))
          (λ rest. ⊎_elim
          (λ born. ⊎_elim (λ i. let few = d.born base i.was i.there in let same = i.same.birth in absurd (omega arith)) fresh (g.objects base o has))
          (λ y. adds y.0 y.1 (λ at a here f b l. all_led y.0 y.1 at a here f l) base y.2)
          rest)
          (touched_to base o has x),
    )
      where
        fresh : IsNew s s' W base o → F' base
        fresh n = adds n.at n.among (λ at a here f b l. all_led n.at n.among at a here f l) base (first n.reads)

-- what is touched while a cycle marks is closed
pub marking_closed : (start : Start) (run : Run) → is_marking start run ≡ true → HasApartObjects (heap_after start run) → (birth : ℕ) → IsInClosure (heap_after start run) (Touched start run) birth → Touched start run birth
marking_closed start [] marks d birth x = marks
marking_closed start (m ∷ run) marks d birth x = touched_closed start m run d.births birth x

pub call_touches : (start : Start) (run : Run) (slot : ℕ) (call : Call) (reply : Reply) (s' : Heap) → is_marking start run ≡ true
    → HasApartObjects (heap_after start run) → HasApartObjects s' → Calls (heap_after start run) slot call reply s'
    → (base : ℕ) (o : Object) → HasObject s' base o
    → Touched start (goes_on run (Mutator slot call) reply s') o.birth ↔ IsTouchedMore (Touched start run) (heap_after start run) s' (IsBrought (heap_after start run) slot call s') base o
call_touches start run slot call reply s' marks d d' step base o has =
    let s = heap_after start run in
    let g = calls_gain s slot call reply s' d' step in
    let shut = marking_closed start run marks d in
    (touched_to s s' (Touched start run) _ d d' g shut base o has, touched_from s s' (Touched start run) _ d d' g shut base o has)

-- a mutator that comes is no birth
pub same_births : (s : Heap) {reply : Reply} {s' : Heap} → Attaches s reply s' → s'.births ≡ s.births
same_births s (Attaches.attached lowest) = refl
same_births s (Attaches.no_slot none) = refl

pub attach_touches : (start : Start) (run : Run) (reply : Reply) (s' : Heap) → is_marking start run ≡ true
    → HasApartObjects (heap_after start run) → HasApartObjects s' → Attaches (heap_after start run) reply s'
    → (base : ℕ) (o : Object) → HasObject s' base o
    → Touched start (goes_on run Attach reply s') o.birth ↔ Touched start run o.birth
attach_touches start run reply s' marks d d' step base o has =
    let s = heap_after start run in
    let g = attach_gain s reply s' d' step in
    let shut = marking_closed start run marks d in (
      λ x. ⊎_elim (λ t. t) (λ rest. ⊎_elim (λ born. absurd (unborn born)) (λ y. absurd y.1) rest) (touched_to s s' (Touched start run) _ d d' g shut base o has x),
      λ t. touched_from s s' (Touched start run) _ d d' g shut base o has (inl t),
    )
  where
    unborn : IsBornSince (heap_after start run) o.birth → ⊥
    unborn born = let few = d'.born base o has in let same = same_births (heap_after start run) step in omega arith

-- a step leaves the number of pages
acts_pages : (s : Heap) (slot : ℕ) (m : HeapMutator) {call : Call} {reply : Reply} {s' : Heap} → Acts s slot m call reply s' → s'.pages ≡ s.pages
acts_pages s slot m Acts.detached = refl
acts_pages s slot m _ = refl

pub calls_pages : (s : Heap) (slot : ℕ) (call : Call) {reply : Reply} {s' : Heap} → Calls s slot call reply s' → s'.pages ≡ s.pages
calls_pages s slot call (acts {m = m} at act) = acts_pages s slot m act
calls_pages s slot call (vacant none) = refl

pub attach_pages : (s : Heap) {reply : Reply} {s' : Heap} → Attaches s reply s' → s'.pages ≡ s.pages
attach_pages s (Attaches.attached lowest) = refl
attach_pages s (Attaches.no_slot none) = refl

-- one word stands in a register
pub stands_one : (s : Heap) (slot r v w : ℕ) → StandsIn s slot r v → StandsIn s slot r w → v ≡ w
stands_one s slot r v w x y = sym x.2 ∙ ap (λ (m : HeapMutator). register m r) (same_mutator s slot x.0 y.0 x.1 y.1) ∙ y.2

one_stands : (s : Heap) (slot : ℕ) (r : Option ℕ) (v w : ℕ) → StandsInSome s slot r v → StandsInSome s slot r w → v ≡ w
one_stands s slot None v w x y = absurd x
one_stands s slot (Some r) v w x y = stands_one s slot r v w x y

-- one word is brought
pub brought_one : (s : Heap) (slot : ℕ) (call : Call) (s' : Heap) → IsNoAlloc call → (v w : ℕ) → IsBrought s slot call s' v → IsBrought s slot call s' w → v ≡ w
brought_one s slot (Alloc r n kind) s' plain v w x y = absurd plain
brought_one s slot call s' plain v w x y = one_stands s' slot (brought_register call) v w x y

-- where nothing changed nothing is new
no_newborn : (s : Heap) → HasApartObjects s → (w : ℕ) → HasNewborn s s w → ⊥
no_newborn s d w x = let few = d.born w x.0 x.1 in let more = x.2 in omega arith

-- a granted request makes one object
newborn_at : (s : Heap) → HasApartObjects s → (slot : ℕ) (m : HeapMutator) (d a : ℕ) (kind : Kind) (placement : Placement) (k : ℕ) → HasNewborn s (with_register (with_new s a kind placement) slot m d a) k → k ≡ a
newborn_at s apart slot m d a kind placement k z =
    ⊎_elim (λ here. here.0) (λ other. let few = apart.born k z.0 other.1 in let more = z.2 in absurd (omega arith)) (at_cases s.objects a _ k _ z.1)

acts_newborn : (s : Heap) → HasApartObjects s → (slot : ℕ) (m : HeapMutator) {d n : ℕ} {kind : Kind} {reply : Reply} {s' : Heap} → Acts s slot m (Alloc d n kind) reply s'
    → (v w : ℕ) → HasNewborn s s' v → HasNewborn s s' w → v ≡ w
acts_newborn s apart slot m (Acts.allocated {d = d} {kind = kind} {placement = placement} a e room) v w x y = newborn_at s apart slot m d a kind placement v x ∙ sym (newborn_at s apart slot m d a kind placement w y)
acts_newborn s apart slot m (Acts.bad_size e) v w x y = absurd (no_newborn s apart v x)
acts_newborn s apart slot m (Acts.full e none) v w x y = absurd (no_newborn s apart v x)

pub calls_newborn : (s : Heap) → HasApartObjects s → (slot d n : ℕ) (kind : Kind) {reply : Reply} {s' : Heap} → Calls s slot (Alloc d n kind) reply s'
    → (v w : ℕ) → HasNewborn s s' v → HasNewborn s s' w → v ≡ w
calls_newborn s apart slot d n kind (acts {m = m} at act) v w x y = acts_newborn s apart slot m act v w x y
calls_newborn s apart slot d n kind (vacant none) v w x y = absurd (no_newborn s apart v x)

-- and one that is not granted makes none
acts_refuse : (s : Heap) → HasApartObjects s → (slot : ℕ) (m : HeapMutator) {d n : ℕ} {kind : Kind} {reply : Reply} {s' : Heap} → Acts s slot m (Alloc d n kind) reply s' → (reply ≡ Done → ⊥)
    → (w : ℕ) → HasNewborn s s' w → ⊥
acts_refuse s apart slot m (Acts.allocated a e room) other w x = other refl
acts_refuse s apart slot m (Acts.bad_size e) other w x = no_newborn s apart w x
acts_refuse s apart slot m (Acts.full e none) other w x = no_newborn s apart w x

pub calls_refuse : (s : Heap) → HasApartObjects s → (slot d n : ℕ) (kind : Kind) {reply : Reply} {s' : Heap} → Calls s slot (Alloc d n kind) reply s' → (reply ≡ Done → ⊥) → (w : ℕ) → HasNewborn s s' w → ⊥
calls_refuse s apart slot d n kind (acts {m = m} at act) other w x = acts_refuse s apart slot m act other w x
calls_refuse s apart slot d n kind (vacant none) other w x = no_newborn s apart w x

-- a word that was a root word brings nothing but what is new
pub root_touches_nothing : (start : Start) (run : Run) (slot : ℕ) (call : Call) (reply : Reply) (s' : Heap) → is_marking start run ≡ true
    → HasApartObjects (heap_after start run) → HasApartObjects s' → Calls (heap_after start run) slot call reply s'
    → ((w : ℕ) → IsBrought (heap_after start run) slot call s' w → Contains (root_words (heap_after start run)) w)
    → (base : ℕ) (o : Object) → HasObject s' base o
    → Touched start (goes_on run (Mutator slot call) reply s') o.birth ↔ (Touched start run o.birth ⊎ IsBornSince (heap_after start run) o.birth)
root_touches_nothing start run slot call reply s' marks d d' step known base o has =
    let s = heap_after start run in
    let g = calls_gain s slot call reply s' d' step in
    let shut = marking_closed start run marks d in (
      touched_known s s' (Touched start run) _ d d' g shut known base o has,
      λ x. touched_from s s' (Touched start run) _ d d' g shut base o has (⊎_elim (λ t. inl t) (λ born. inr (inl born)) x),
    )

-- the objects of a sound heap are apart
pub sound_apart : (s : Heap) → IsSound s → HasApartObjects s
sound_apart s h = record {
  births = h.objects.distinct;
  born = λ base o has. (h.objects.born base o has).1;
  some = λ base o has. (object_lies s h base o has).some;
  one = one_read s h;
  zero = λ base o reads. let from = (object_lies s h base o reads.0).from in let low = reads.1.0 in omega arith;
}

-- a store leaves the mutators, and the count of births
acts_store : (s : Heap) (slot : ℕ) (m : HeapMutator) {a n r : ℕ} {reply : Reply} {s' : Heap} → Acts s slot m (Store a n r) reply s' → (s'.mutators ≡ s.mutators) × (s'.births ≡ s.births)
acts_store s slot m (Acts.stored al reads) = (refl, refl)
acts_store s slot m (Acts.store_misaligned al) = (refl, refl)
acts_store s slot m (Acts.store_nothing al none) = (refl, refl)

calls_store : (s : Heap) (slot a n r : ℕ) {reply : Reply} {s' : Heap} → Calls s slot (Store a n r) reply s' → (s'.mutators ≡ s.mutators) × (s'.births ≡ s.births)
calls_store s slot a n r (acts {m = m} at act) = acts_store s slot m act
calls_store s slot a n r (vacant none) = (refl, refl)

pub store_touches_nothing : (start : Start) (run : Run) (slot a n r : ℕ) (reply : Reply) (s' : Heap) → is_marking start run ≡ true → IsSound (heap_after start run) → InRange (Mutator slot (Store a n r))
    → Happens start run (Mutator slot (Store a n r)) reply s' → (base : ℕ) (o : Object) → HasObject s' base o
    → Touched start (goes_on run (Mutator slot (Store a n r)) reply s') o.birth ↔ Touched start run o.birth
store_touches_nothing start run slot a n r reply s' marks sound range step base o has =
    let both = root_touches_nothing start run slot (Store a n r) reply s' marks (sound_apart _ sound) apart' step stands base o has in
    (λ x. ⊎_elim (λ t. t) (λ born. absurd (unborn born)) (both.0 x), λ t. both.1 (inl t))
  where
    apart' : HasApartObjects s'
    apart' = sound_apart s' (happens_kept start run (Mutator slot (Store a n r)) reply s' sound range step)

    stands : (w : ℕ) → StandsIn s' slot r w → Contains (root_words (heap_after start run)) w
    stands w x =
        let at : IsAttached (heap_after start run) slot x.0 = ap (λ ms. slice_get ms slot) (sym (calls_store (heap_after start run) slot a n r step).0) ∙ x.1 in
        let size : length x.0.registers ≡ REGISTERS = (attached_is (heap_after start run) slot x.0 sound at).registers.size in
        let reg : r < REGISTERS = range.1.2 in
        attached_words (heap_after start run) slot x.0 w at (Contains-append_left x.0.registers x.0.stack w (subst (Contains x.0.registers) x.2 (Contains-get_or x.0.registers r 0 (omega arith))))

    unborn : IsBornSince (heap_after start run) o.birth → ⊥
    unborn born = let few = apart'.born base o has in let same = (calls_store (heap_after start run) slot a n r step).1 in omega arith
