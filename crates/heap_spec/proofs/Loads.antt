-- A load after a store at the same place.
use Rattle.std.proofs.Common.{◌≡◌, ℕ, ◌+◌, ◌-◌, ◌*◌, ◌/◌, ◌%◌, ◌<◌, ◌≤◌, length, refl, sym, ap, ◌∙◌, subst, arith, ⊎_elim, get_or-set_same}
use Rattle.std.specs.Prelude.{Some, None, slice_index, slice_set}
use Rattle.std.proofs.lemmas.Option.{same_Some, none-some}
use Rattle.std.proofs.lemmas.List.{length-set}
use Rattle.heap_spec.specs.declared.call.Call.TheVariants.{Load, Store}
use Rattle.heap_spec.specs.declared.reply.Reply.{Reply}
use Rattle.heap_spec.specs.declared.reply.Reply.TheVariants.{Done, Word}
use Rattle.heap_spec.specs.Heap.{Heap, Object, Mutator, PointsIntoObject, IsAttached}
use Rattle.heap_spec.specs.Steps.{Acts, Calls, acts, vacant, with_object, register, address}
use Rattle.heap_spec.specs.Sound.{IsSound}
use Rattle.heap_spec.proofs.Objects.{one_read, at_cases, with_at-same}

-- the object after a store at an address, and the heap with it
abbrev written : Mutator → ℕ → ℕ → ℕ → ℕ → Object → Object
written m a n r base o = record o { words = slice_set o.words ((address m a n - base) / 8) (register m r) }

abbrev after : Heap → Mutator → ℕ → ℕ → ℕ → ℕ → Object → Heap
after s m a n r base o = with_object s base (Some (written m a n r base o))

-- the word that was written
written_word : (m : Mutator) (a n r base : ℕ) (o : Object) → base ≤ address m a n → address m a n < base + 8 * length o.words
    → slice_index (written m a n r base o).words ((address m a n - base) / 8) ≡ register m r
written_word m a n r base o from to = get_or-set_same o.words ((address m a n - base) / 8) (register m r) 0 (omega arith)

-- what is read at the address after the store is the object that was written
same_object : (s : Heap) → IsSound s → (m : Mutator) (a n r base : ℕ) (o : Object) → PointsIntoObject s (address m a n) base o
    → (b : ℕ) (p : Object) → PointsIntoObject (after s m a n r base o) (address m a n) b p → (b ≡ base) × (written m a n r base o ≡ p)
same_object s h m a n r base o reads b p found =
    ⊎_elim (λ same. (same.0, same_Some _ p same.1)) (λ other. absurd (other.0 (one_read s h (address m a n) b base p o (other.1, found.1) reads)))
    (at_cases s.objects base (Some (written m a n r base o)) b (Some p) found.0)

still_reads : (s : Heap) (m : Mutator) (a n r base : ℕ) (o : Object) → PointsIntoObject s (address m a n) base o → PointsIntoObject (after s m a n r base o) (address m a n) base (written m a n r base o)
still_reads s m a n r base o reads = (with_at-same s.objects base _ base refl, (reads.1.0, rw (length-set o.words ((address m a n - base) / 8) (register m r)) reads.1.1))

load_acts : (s : Heap) → IsSound s → (slot : ℕ) (m : Mutator) (a n r base : ℕ) (o : Object) → address m a n % 8 ≡ 0 → PointsIntoObject s (address m a n) base o
    → {d : ℕ} {reply : Reply} {s'' : Heap} → Acts (after s m a n r base o) slot m (Load d a n) reply s'' → reply ≡ Word (register m r)
load_acts s h slot m a n r base o al reads (Acts.loaded {base = b} {o = p} al' found) =
    let same = same_object s h m a n r base o reads b p found in
    ap (λ x. Word (slice_index p.words ((address m a n - x) / 8))) same.0
    ∙ ap (λ (x : Object). Word (slice_index x.words ((address m a n - base) / 8))) (sym same.1)
    ∙ ap Word (written_word m a n r base o reads.1.0 reads.1.1)
load_acts s h slot m a n r base o al reads (Acts.load_misaligned ne) = absurd (ne al)
load_acts s h slot m a n r base o al reads (Acts.load_nothing al' none) = absurd (none base _ (still_reads s m a n r base o reads))

-- two mutators at one slot are one
pub same_mutator : (s : Heap) (slot : ℕ) (m k : Mutator) → IsAttached s slot m → IsAttached s slot k → m ≡ k
same_mutator s slot m k at at' = same_Some m k (same_Some (Some m) (Some k) (sym at ∙ at'))

load_calls : (s : Heap) → IsSound s → (slot : ℕ) (m : Mutator) → IsAttached s slot m → (a n r base : ℕ) (o : Object) → address m a n % 8 ≡ 0 → PointsIntoObject s (address m a n) base o
    → {d : ℕ} {reply : Reply} {s'' : Heap} → Calls (after s m a n r base o) slot (Load d a n) reply s'' → reply ≡ Word (register m r)
load_calls s h slot m at a n r base o al reads {d = d} {reply = reply} {s'' = s''} (acts {m = k} at' act) =
    load_acts s h slot m a n r base o al reads (subst (λ x. Acts (after s m a n r base o) slot x (Load d a n) reply s'') (sym (same_mutator s slot m k at at')) act)
load_calls s h slot m at a n r base o al reads (vacant none) = absurd (none-some m (same_Some None (Some m) (sym none ∙ at)))

store_acts : (s : Heap) → IsSound s → (slot : ℕ) (m : Mutator) → IsAttached s slot m → {a n r : ℕ} {s' : Heap} → Acts s slot m (Store a n r) Done s'
    → {d : ℕ} {reply : Reply} {s'' : Heap} → Calls s' slot (Load d a n) reply s'' → reply ≡ Word (register m r)
store_acts s h slot m at (Acts.stored {a = a} {n = n} {r = r} {base = base} {o = o} al reads) load = load_calls s h slot m at a n r base o al reads load

pub load_stored : (s : Heap) → IsSound s → (slot : ℕ) (m : Mutator) → IsAttached s slot m → {a n r : ℕ} {s' : Heap} → Calls s slot (Store a n r) Done s'
    → {d : ℕ} {reply : Reply} {s'' : Heap} → Calls s' slot (Load d a n) reply s'' → reply ≡ Word (register m r)
load_stored s h slot m at {a = a} {n = n} {r = r} (acts {m = k} {s' = s'} at' act) load =
    store_acts s h slot m at (subst (λ x. Acts s slot x (Store a n r) Done s') (sym (same_mutator s slot m k at at')) act) load
