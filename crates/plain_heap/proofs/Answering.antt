-- What calls may be answered, and that they are answered nothing else.
use Rattle.std.proofs.Common.{◌≡◌, ℕ, ◌-◌, ◌/◌, ◌%◌, get_or, [], ◌∷◌, refl, sym, ap, ◌∙◌, subst, arith, ⊎_elim}
use Rattle.std.specs.Prelude.{Contains, slice_get, Option, Some, None, IfNone}
use Rattle.std.proofs.lemmas.Bool.{cases_lt}
use Rattle.std.proofs.lemmas.List.{get_or_read}
use Rattle.words.specs.declared.limits.TheConstants.{WORD_BYTES}
use Rattle.words.specs.declared.refusal.Refusal.{Refusal}
use Rattle.words.specs.declared.refusal.Refusal.TheVariants.{NoSlot, BadSize, Full}
use Rattle.words.specs.declared.class.Kind.{Kind}
use Rattle.heap_spec.specs.declared.call.Call.{Call}
use Rattle.heap_spec.specs.declared.call.Call.TheVariants.{Load, Alloc, Free, Size, GlobalGet}
use Rattle.heap_spec.specs.declared.event.Event.TheVariants.{Attach, Mutator}
use Rattle.heap_spec.specs.declared.reply.Reply.{Reply}
use Rattle.heap_spec.specs.declared.reply.Reply.TheVariants.{Slot, Done, Word, Count, Refused}
use Rattle.heap_spec.specs.Layout.{PointsInto}
use Rattle.heap_spec.specs.Heap.{Heap, Mutator as HeapMutator, without}
use Rattle.heap_spec.specs.Laws.{IsLegible}
use Rattle.heap_spec.specs.Replies.{IsStep}
use Rattle.heap_spec.specs.Steps.{Acts, Calls, acts, vacant, Attaches, IsLowestVacant, with_register, register, address}
use Rattle.heap_spec.proofs.Outcomes.{calls_same, calls_refused}
use Rattle.links.specs.Leaving.{word_index}
use Rattle.roots.specs.Roots.{HasMutator, HasNoMutator, HasNoSlot, IsNextSlot}
use Rattle.plain_heap.specs.declared.extent.Extent.{Extent}
use Rattle.plain_heap.specs.PlainContents.{PlainContents, IsLaidOut, IsInHeap}
use Rattle.plain_heap.specs.Standing.{StandsFor}
use Rattle.plain_heap.specs.Answering.{FindsExtent, HoldsWord, MayAnswer, CanAnswer, CanAttach, IsNoStep, MakesCall, HasPlaces, GrantHasPlaces}
use Rattle.plain_heap.proofs.Stands.{StepsCall, mutator_at}
use Rattle.plain_heap.proofs.Memory.{word_in}
use Rattle.plain_heap.proofs.Objects.{in_heap, in_row, extent_of, length_shown}

-- what follows where there is none
pub none_then : {A P Q : Type 0} → (o : Option A) → IfNone o P → (P → Q) → IfNone o Q
none_then None none then = then none
none_then (Some x) none then = none

-- a heap that a plain heap stands for is legible
pub legible : (c : PlainContents) → IsLaidOut c → (s : Heap) → StandsFor c s → IsLegible s
legible c sound s h = record {
  one = λ w a b o p r q.
      let e = extent_of c sound s h a o r.0 in
      let f = extent_of c sound s h b p q.0 in
      let reads : PointsInto w e.0.base e.0.length = rw (e.2, e.3) r.1 in
      let others : PointsInto w f.0.base f.0.length = rw (f.2, f.3) q.1 in
      sym e.2 ∙ ap (λ (x : Extent). x.base) (sound.apart e.0 f.0 w e.1 f.1 reads others) ∙ f.2;
  some = λ base o has.
      let e = extent_of c sound s h base o has in
      let i : IsInHeap c.origin c.pages e.0 = in_heap c sound e.0 e.1 in
      let same = e.3 in omega (arith, i.some);
}

-- the word of an object's row is that of the object
pub holds_word : (c : PlainContents) (a w : ℕ) (e : Extent) → IsLaidOut c → Contains c.objects e → PointsInto a e.base e.length → w ≡ get_or c.words (word_index c.origin a) w → HoldsWord c a w
holds_word c a w e sound has reads is s h =
    let kept = h.kept e has in (
      e.base,
      kept.0,
      (kept.1, rw (length_shown c sound e has kept.0 kept.2) reads),
      ap (λ xs. get_or xs ((a - e.base) / WORD_BYTES) 0) kept.2.words ∙ word_in c.origin c.words c.pages a e sound.starts (in_heap c sound e has) reads ∙ sym (get_or_read c.words (word_index c.origin a) w (in_row c sound e has a reads) is 0),
    )

-- what a mutator's call may be answered the call of its slot may be
pub can_answer : (c : PlainContents) (k : ℕ) (m : HeapMutator) (call : Call) (reply : Reply) → HasMutator c.roots k m → MayAnswer c m call reply → CanAnswer c k call reply
can_answer c k m call reply at may s h = let x = may s h k in (x.0, acts (mutator_at c s h k m at) x.1)

pub can_refuse : (c : PlainContents) (k : ℕ) (call : Call) → HasNoMutator c.roots k → CanAnswer c k call (Refused NoSlot)
can_refuse c k call none s h = (s, vacant (ap (λ ms. slice_get ms k) h.mutators ∙ none))

-- a call that was made
pub made : (old new : PlainContents) (k : ℕ) (call : Call) (reply : Reply) → StepsCall old k call reply new → MakesCall old k call new
made old new k call reply steps s h = let x = steps s h in (reply, x.0, x.1, x.2)

-- a call is answered what it may be answered, and nothing else
pub one_answer : (c : PlainContents) → IsLaidOut c → (k : ℕ) (call : Call) (reply other : Reply) → CanAnswer c k call reply → (reply ≡ other → ⊥) → IsNoStep c (Mutator k call) other
one_answer c sound k call reply other can ne s h s' step =
    let x = can s h in ne (calls_same s (legible c sound s h) k call reply other x.0 s' x.1 step).0

-- a request that isn't refused is granted
act_done : (s : Heap) (k : ℕ) (m : HeapMutator) {d n : ℕ} {kind : Kind} {reply : Reply} {s' : Heap} → Acts s k m (Alloc d n kind) reply s' → ((why : Refusal) → reply ≡ Refused why → ⊥) → reply ≡ Done
act_done s k m (Acts.bad_size e) not = absurd (not BadSize refl)
act_done s k m (Acts.full e none) not = absurd (not Full refl)
act_done s k m (Acts.allocated a e room) not = refl

call_done : (s : Heap) (k d n : ℕ) (kind : Kind) {reply : Reply} {s' : Heap} → Calls s k (Alloc d n kind) reply s' → ((why : Refusal) → reply ≡ Refused why → ⊥) → reply ≡ Done
call_done s k d n kind (acts {m = m} at act) not = act_done s k m act not
call_done s k d n kind (vacant none) not = absurd (not NoSlot refl)

-- a call that was made has the answer that it may be given
pub makes_step : (old new : PlainContents) → IsLaidOut old → (k : ℕ) (call : Call) (answer reply : Reply) → CanAnswer old k call answer → answer ≡ reply → ((why : Refusal) → reply ≡ Refused why → ⊥) → GrantHasPlaces old call reply
    → (HasPlaces old call → MakesCall old k call new) → StepsCall old k call reply new
makes_step old new sound k call answer reply can is not places makes s h =
    let x = can s h in
    let step : Calls s k call reply x.0 = subst (λ r. Calls s k call r x.0) is x.1 in
    let y = makes (λ into words kind asks. places into words kind asks (call_done s k into words kind (subst (λ q. Calls s k q reply x.0) asks step) not)) s h in
    let same : y.0 ≡ reply = sym (calls_same s (legible old sound s h) k call answer y.0 x.0 y.1 x.1 y.2).0 ∙ is in
    (y.1, subst (λ r. Calls s k call r y.1) same y.2, y.3)

-- a refused call leaves the plain heap as it is
pub refused_step : (c : PlainContents) (k : ℕ) (call : Call) (answer reply : Reply) (why : Refusal) → CanAnswer c k call answer → answer ≡ reply → reply ≡ Refused why → StepsCall c k call reply c
refused_step c k call answer reply why can is refused s h =
    let x = can s h in
    let step : Calls s k call (Refused why) x.0 = subst (λ r. Calls s k call r x.0) (is ∙ refused) x.1 in
    (s, subst (λ r. Calls s k call r s) (sym refused) (subst (λ t. Calls s k call (Refused why) t) (calls_refused s k call step) step), h)

-- the lowest vacant slot of the roots is that of the heap
pub can_attach : (c : PlainContents) (slot : ℕ) → IsNextSlot c.roots slot → CanAttach c (Slot slot)
can_attach c slot next s h = (
  _,
  Attaches.attached {slot = slot} (
    ap (λ ms. slice_get ms slot) h.mutators ∙ next.is_vacant,
    λ k less none. next.lowest k less (sym (ap (λ ms. slice_get ms k) h.mutators) ∙ none),
  ),
)

pub cant_attach : (c : PlainContents) → HasNoSlot c.roots → CanAttach c (Refused NoSlot)
cant_attach c full s h = (s, Attaches.no_slot (λ k none. full k (sym (ap (λ ms. slice_get ms k) h.mutators) ∙ none)))

-- there is one lowest vacant slot
one_lowest : (s : Heap) (a b : ℕ) → IsLowestVacant s a → IsLowestVacant s b → a ≡ b
one_lowest s a b p q = ⊎_elim
    (λ less. absurd (q.1 a less p.0))
    (λ most. ⊎_elim (λ less. absurd (p.1 b less q.0)) (λ least. omega arith) (cases_lt b a))
    (cases_lt a b)

one_attach : (s : Heap) {reply other : Reply} {t t' : Heap} → Attaches s reply t → Attaches s other t' → reply ≡ other
one_attach s (Attaches.attached {slot = a} p) (Attaches.attached {slot = b} q) = ap Slot (one_lowest s a b p q)
one_attach s (Attaches.attached {slot = a} p) (Attaches.no_slot none) = absurd (none a p.0)
one_attach s (Attaches.no_slot none) (Attaches.attached {slot = b} q) = absurd (none b q.0)
one_attach s (Attaches.no_slot none) (Attaches.no_slot none') = refl

pub one_newcomer : (c : PlainContents) (reply other : Reply) → CanAttach c reply → (reply ≡ other → ⊥) → IsNoStep c Attach other
one_newcomer c reply other can ne s h s' step = ne (one_attach s (can s h).1 step)

-- a mutator that came has the reply that it may be given
pub comes : (old new : PlainContents) (answer reply other : Reply) → CanAttach old answer → answer ≡ reply → IsStep (StandsFor old) Attach other (StandsFor new) → IsStep (StandsFor old) Attach reply (StandsFor new)
comes old new answer reply other can is steps s h =
    let y = steps s h in
    (y.0, subst (λ r. Attaches s r y.0) (sym (one_attach s (can s h).1 y.1) ∙ is) y.1, y.2)

-- a load, a size, a free and a global
pub may_load : (c : PlainContents) (m : HeapMutator) (d r n w : ℕ) → address m r n % WORD_BYTES ≡ 0 → HoldsWord c (address m r n) w → MayAnswer c m (Load d r n) (Word w)
may_load c m d r n w al holds s h slot =
    let x = holds s h in
    (with_register s slot m d w, subst (λ v. Acts s slot m (Load d r n) (Word v) (with_register s slot m d v)) x.3 (Acts.loaded al x.2))

pub may_size : (c : PlainContents) (m : HeapMutator) (r : ℕ) (e : Extent) → FindsExtent c (register m r) e → MayAnswer c m (Size r) (Count e.length)
may_size c m r e found s h slot = let x = found s h in (s, subst (λ n. Acts s slot m (Size r) (Count n) s) x.2 (Acts.sized x.1))

pub may_free : (c : PlainContents) (m : HeapMutator) (r : ℕ) (e : Extent) → e.base ≡ register m r → FindsExtent c (register m r) e → MayAnswer c m (Free r) Done
may_free c m r e is found s h slot = let x = found s h in (without s (register m r ∷ []), Acts.freed {o = x.0} (ap s.objects (sym is) ∙ x.1.0))

pub may_get : (c : PlainContents) (m : HeapMutator) (d g : ℕ) → MayAnswer c m (GlobalGet d g) (Word (get_or c.roots.globals g 0))
may_get c m d g s h slot =
    let w : ℕ = get_or c.roots.globals g 0 in
    (with_register s slot m d w, subst (λ v. Acts s slot m (GlobalGet d g) (Word v) (with_register s slot m d v)) (ap (λ gs. get_or gs g 0) h.globals) Acts.global_got)
