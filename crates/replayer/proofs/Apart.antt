-- A replay has one next run, where objects may lie anywhere: none of its heaps has objects that share a byte.
use Rattle.std.proofs.Common.{◌≡◌, ℕ, ◌+◌, ◌<◌, List, [], ◌∷◌, length, replicate, refl, sym, ap, ◌∙◌, subst, arith, ⊎_elim}
use Rattle.std.specs.Prelude.{Some}
use Rattle.std.proofs.lemmas.List.{length-set, length-replicate}
use Rattle.std.proofs.lemmas.Option.{same_Some}
use Rattle.words.specs.declared.class.Kind.{Kind}
use Rattle.heap_spec.specs.declared.call.Call.{Call}
use Rattle.heap_spec.specs.declared.call.Call.TheVariants.{Alloc}
use Rattle.heap_spec.specs.declared.event.Event.{Event}
use Rattle.heap_spec.specs.declared.event.Event.TheVariants.{Attach, Mutator, Begin, BeginPartial, Roots, Mark, Retrace, Finish, Sweep, Collect, Number}
use Rattle.heap_spec.specs.declared.reply.Reply.{Reply}
use Rattle.heap_spec.specs.declared.reply.Reply.TheVariants.{Done, Count}
use Rattle.heap_spec.specs.Cycles.{TakesOut}
use Rattle.heap_spec.specs.Heap.{Heap, Object, Mutator as HeapMutator, IsSameObject, HasObject, without}
use Rattle.heap_spec.specs.Histories.{Happens}
use Rattle.heap_spec.specs.Laws.{IsNoAlloc}
use Rattle.heap_spec.specs.Layout.{PointsInto}
use Rattle.heap_spec.specs.Runs.{Start, Run, heap_after, goes_on}
use Rattle.heap_spec.specs.Steps.{Acts, Attaches, Calls, acts, vacant, register, with_register}
use Rattle.heap_spec.specs.Touching.{HasApartObjects}
use Rattle.heap_spec.specs.Transcripts.{LineOf}
use Rattle.heap_spec.proofs.Links.{left_by, same_left}
use Rattle.heap_spec.proofs.Loads.{same_mutator}
use Rattle.heap_spec.proofs.Objects.{at_cases, same_object}
use Rattle.plain_heap.specs.Anywhere.{Grants, HasRoomAnywhere, Requests, with_words}
use Rattle.plain_heap.specs.Answering.{IsBornOf}
use Rattle.replayer.specs.Anywhere.{IsNoRequest, IsReplayAnywhere, LineAnywhere, NamesObject}
use Rattle.replayer.specs.Laws.{SayTheSame}
use Rattle.replayer.specs.declared.hint.Hint.{Hint}
use Rattle.replayer.specs.declared.hint.Hint.TheVariants.{Nothing, Place, Forgot}
use Rattle.replayer.proofs.Nexts.{line_next, named_next}

-- Each object of a heap was in another one, and as many were born.
record Keeps (s t : Heap) : Type 0 where
  births : t.births ≡ s.births
  were : (base : ℕ) (p : Object) → HasObject t base p → (o : Object) × HasObject s base o × IsSameObject o p

keeps_all : (s t : Heap) → t.births ≡ s.births → t.objects ≡ s.objects → Keeps s t
keeps_all s t births objects = record { births = births; were = λ base p has. (p, ap (λ f. f base) (sym objects) ∙ has, same_object p) }

-- what a word points into was pointed into before
into_old : (s t : Heap) → Keeps s t → (w base : ℕ) (p : Object) → HasObject t base p → PointsInto w base (length p.words) → (o : Object) × HasObject s base o × PointsInto w base (length o.words)
into_old s t k w base p has into = let was = k.were base p has in (was.0, was.1, subst (PointsInto w base) was.2.size into)

kept_apart : (s t : Heap) → Keeps s t → HasApartObjects s → HasApartObjects t
kept_apart s t k h = record {
  births = λ a b o p has has' e. let x = k.were a o has in let y = k.were b p has' in h.births a b x.0 y.0 x.1 y.1 (sym x.2.birth ∙ e ∙ y.2.birth);
  born = λ base o has. let x = k.were base o has in let few = h.born base x.0 x.1 in let same = x.2.birth in let count = k.births in omega (arith, few, same, count);
  some = λ base o has. let x = k.were base o has in let more = h.some base x.0 x.1 in let same = x.2.size in omega (arith, more, same);
  one = λ w a b o p x y. let u = into_old s t k w a o x.0 x.1 in let v = into_old s t k w b p y.0 y.1 in h.one w a b u.0 v.0 (u.1, u.2) (v.1, v.2);
  zero = λ base o x. let u = into_old s t k 0 base o x.0 x.1 in h.zero base u.0 (u.1, u.2);
}

-- what takes objects out keeps the others
keeps_others : (s : Heap) (bases : List ℕ) → Keeps s (without s bases)
keeps_others s bases = record { births = refl; were = λ base p has. let left = left_by s bases base p has in (left.object, left.has, same_left s bases base p left) }

keeps_taken : (s : Heap) (bases : List ℕ) (reply : Reply) (t : Heap) → TakesOut s bases reply t → Keeps s t
keeps_taken s bases reply t takes = subst (Keeps s) (sym takes.after) (keeps_others s bases)

-- a call that is no request
acts_keep : (s : Heap) (slot : ℕ) (m : HeapMutator) {call : Call} {reply : Reply} {t : Heap} → IsNoAlloc call → Acts s slot m call reply t → Keeps s t
acts_keep s slot m plain (Acts.stored {base = b} {o = o} al reads) = record {
  births = refl;
  were = λ base p has. ⊎_elim
      (λ here. let e = same_Some _ p here.1 in
      (o, ap s.objects here.0 ∙ reads.0, record { birth = ap (λ (x : Object). x.birth) (sym e); kind = ap (λ (x : Object). x.kind) (sym e); size = ap (λ (x : Object). length x.words) (sym e) ∙ length-set o.words _ _ }))
      (λ other. (p, other.1, same_object p))
      (at_cases s.objects b _ base _ has);
}
acts_keep s slot m plain (Acts.allocated a e room) = absurd plain
acts_keep s slot m plain (Acts.freed {r = r} gone) = keeps_others s (register m r ∷ [])
acts_keep s slot m plain _ = record { births = refl; were = λ base p has. (p, has, same_object p) }

calls_keep : (s : Heap) (slot : ℕ) (call : Call) (reply : Reply) (t : Heap) → IsNoAlloc call → Calls s slot call reply t → Keeps s t
calls_keep s slot call reply t plain (acts {m = m} at act) = acts_keep s slot m plain act
calls_keep s slot call reply t plain (vacant none) = keeps_all s s refl refl

attaches_keep : (s : Heap) (reply : Reply) (t : Heap) → Attaches s reply t → Keeps s t
attaches_keep s reply t (Attaches.attached low) = keeps_all s _ refl refl
attaches_keep s reply t (Attaches.no_slot none) = keeps_all s s refl refl

no_alloc : (slot : ℕ) (call : Call) → IsNoRequest (Mutator slot call) → IsNoAlloc call
no_alloc slot (Alloc d n kind) plain = plain slot d n kind refl
no_alloc slot _ plain = tt

module _ (start : Start) (run : Run) where
  happens_keep : (event : Event) (reply : Reply) (t : Heap) → IsNoRequest event → Happens start run event reply t → Keeps (heap_after start run) t
  happens_keep Attach reply t plain step = attaches_keep (heap_after start run) reply t step
  happens_keep (Mutator slot call) reply t plain step = calls_keep (heap_after start run) slot call reply t (no_alloc slot call plain) step
  happens_keep Begin reply t plain step = subst (Keeps (heap_after start run)) (sym step.1.1) (keeps_all _ _ refl refl)
  happens_keep BeginPartial reply t plain step = subst (Keeps (heap_after start run)) (sym step.2.1) (keeps_all _ _ refl refl)
  happens_keep Finish reply t plain step = keeps_taken (heap_after start run) step.1.bases reply t step.1.takes
  happens_keep Collect reply t plain step = keeps_taken (heap_after start run) step.bases reply t step.takes
  happens_keep Roots reply t plain step = absurd step
  happens_keep (Mark n) reply t plain step = absurd step
  happens_keep Retrace reply t plain step = absurd step
  happens_keep Sweep reply t plain step = absurd step
  happens_keep Number reply t plain step = absurd step

-- A request that was granted.
module _ (s : Heap) (h : HasApartObjects s) (slot d a n : ℕ) (m : HeapMutator) (kind : Kind) (origin : ℕ) (above : 0 < origin) (room : HasRoomAnywhere s origin n a) where
  granted_apart : HasApartObjects (with_register (with_words s a kind n) slot m d a)
  granted_apart = record {
    births = λ p q o o' x y e. ⊎_elim
        (λ here. ⊎_elim
        (λ there. here.0 ∙ sym there.0)
        (λ old. let few = h.born q o' old.1 in let is = birth o here.1 in absurd (omega (arith, few, is, e)))
        (at_cases s.objects a _ q _ y))
        (λ old. ⊎_elim
        (λ there. let few = h.born p o old.1 in let is = birth o' there.1 in absurd (omega (arith, few, is, e)))
        (λ other. h.births p q o o' old.1 other.1 e)
        (at_cases s.objects a _ q _ y))
        (at_cases s.objects a _ p _ x);
    born = λ q o x. ⊎_elim (λ here. let is = birth o here.1 in omega (arith, is)) (λ old. let few = h.born q o old.1 in omega (arith, few)) (at_cases s.objects a _ q _ x);
    some = λ q o x. ⊎_elim (λ here. let is = size o here.1 in let some = room.some in omega (arith, is, some)) (λ old. h.some q o old.1) (at_cases s.objects a _ q _ x);
    one = λ w p q o o' x y. ⊎_elim
        (λ here. ⊎_elim
        (λ there. here.0 ∙ sym there.0)
        (λ old. absurd (room.free q w o' old.1 (into_new w p o here.0 here.1 x.1) y.1))
        (at_cases s.objects a _ q _ y.0))
        (λ old. ⊎_elim
        (λ there. absurd (room.free p w o old.1 (into_new w q o' there.0 there.1 y.1) x.1))
        (λ other. h.one w p q o o' (old.1, x.1) (other.1, y.1))
        (at_cases s.objects a _ q _ y.0))
        (at_cases s.objects a _ p _ x.0);
    zero = λ q o x. ⊎_elim
        (λ here. let from = room.start in let low = (into_new 0 q o here.0 here.1 x.1).0 in absurd (omega (arith, above, from, low)))
        (λ old. h.zero q o (old.1, x.1))
        (at_cases s.objects a _ q _ x.0);
  }
    where
      birth : (o : Object) → Some (record { birth = s.births + 1; kind = kind; words = replicate n 0 }) ≡ Some o → s.births + 1 ≡ o.birth
      birth o is = ap (λ (x : Object). x.birth) (same_Some _ o is)

      size : (o : Object) → Some (record { birth = s.births + 1; kind = kind; words = replicate n 0 }) ≡ Some o → n ≡ length o.words
      size o is = sym (length-replicate {A = ℕ} n 0) ∙ ap (λ (x : Object). length x.words) (same_Some _ o is)

      into_new : (w q : ℕ) (o : Object) → q ≡ a → Some (record { birth = s.births + 1; kind = kind; words = replicate n 0 }) ≡ Some o → PointsInto w q (length o.words) → PointsInto w a n
      into_new w q o at is into = subst (λ b. PointsInto w b n) at (subst (PointsInto w q) (sym (size o is)) into)

  -- an object that was born in it is the new one
  born_here : (base k : ℕ) → IsBornOf s base k (with_register (with_words s a kind n) slot m d a) → (base ≡ a) × (k ≡ n)
  born_here base k born = ⊎_elim
      (λ here. (here.0, sym born.1 ∙ sym (ap (λ (x : Object). length x.words) (same_Some _ born.0.object here.1)) ∙ length-replicate {A = ℕ} n 0))
      (λ old. let few = h.born base born.0.object old.1 in let new = born.0.newest in absurd (omega (arith, few, new)))
      (at_cases s.objects a _ base _ born.0.there)

requests_apart : (s : Heap) (origin : ℕ) → 0 < origin → HasApartObjects s → (slot d n : ℕ) (kind : Kind) (reply : Reply) (t : Heap) → Requests s origin slot d n kind reply t → HasApartObjects t
requests_apart s origin above h slot d n kind reply t (Requests.by {m = m} at (Grants.granted a k enough room)) = granted_apart s h slot d a k m kind origin above room
requests_apart s origin above h slot d n kind reply t (Requests.by at (Grants.bad_size e)) = h
requests_apart s origin above h slot d n kind reply t (Requests.by at Grants.full) = h
requests_apart s origin above h slot d n kind reply t (Requests.vacant none) = h

-- An object of so many words is born at one base in both heaps.
abbrev BothBornOf : Heap → Heap → Heap → Type 0
BothBornOf s t t' = (base : ℕ) × (k : ℕ) × IsBornOf s base k t × IsBornOf s base k t'

both_born_of : (hint hint' : Hint) (n : ℕ) → SayTheSame hint hint' → (s t t' : Heap) → NamesObject hint n s t → NamesObject hint' n s t' → BothBornOf s t t'
both_born_of (Place a) (Place b) n e s t t' x y = (a, n, x, subst (λ z. IsBornOf s z n t') (sym e) y)
both_born_of (Place a) Nothing n e s t t' x y = absurd e
both_born_of (Place a) (Forgot b) n e s t t' x y = absurd e
both_born_of Nothing hint n e s t t' x y = absurd x
both_born_of (Forgot a) hint n e s t t' x y = absurd x

-- a request that isn't granted changes nothing
requests_refused : (s : Heap) (origin slot d n : ℕ) (kind : Kind) {reply : Reply} {t : Heap} → Requests s origin slot d n kind reply t → (reply ≡ Done → ⊥) → t ≡ s
requests_refused s origin slot d n kind (Requests.by at (Grants.granted a k enough room)) plain = absurd (plain refl)
requests_refused s origin slot d n kind (Requests.by at (Grants.bad_size e)) plain = refl
requests_refused s origin slot d n kind (Requests.by at Grants.full) plain = refl
requests_refused s origin slot d n kind (Requests.vacant none) plain = refl

-- a request that was granted at one base, with so many words
grants_one : (s : Heap) (origin : ℕ) → 0 < origin → HasApartObjects s → (slot d n : ℕ) (m : HeapMutator) (kind : Kind) {t t' : Heap} → Grants s origin slot m d n kind Done t → Grants s origin slot m d n kind Done t' → BothBornOf s t t' → t ≡ t'
grants_one s origin above h slot d n m kind (Grants.granted a k enough room) (Grants.granted b j more free) born =
    let here = born_here s h slot d a k m kind origin above room born.0 born.1 born.2 in
    let there = born_here s h slot d b j m kind origin above free born.0 born.1 born.3 in
    ap (λ z. with_register (with_words s z kind k) slot m d z) (sym here.0 ∙ there.0) ∙ ap (λ z. with_register (with_words s b kind z) slot m d b) (sym here.1 ∙ there.1)

requests_one : (s : Heap) (origin : ℕ) → 0 < origin → HasApartObjects s → (slot d n : ℕ) (kind : Kind) (reply : Reply) (t t' : Heap) → Requests s origin slot d n kind reply t → Requests s origin slot d n kind reply t' → (reply ≡ Done → BothBornOf s t t') → t ≡ t'
requests_one s origin above h slot d n kind reply t t' (Requests.by {m = m} at (Grants.granted a k enough room)) other born = granted_one other (born refl)
  where
    granted_one : Requests s origin slot d n kind Done t' → BothBornOf s (with_register (with_words s a kind k) slot m d a) t' → with_register (with_words s a kind k) slot m d a ≡ t'
    granted_one (Requests.by {m = m'} at' grants) both =
        grants_one s origin above h slot d n m kind (Grants.granted a k enough room) (subst (λ x. Grants s origin slot x d n kind Done t') (sym (same_mutator s slot m m' at at')) grants) both
requests_one s origin above h slot d n kind reply t t' (Requests.by at (Grants.bad_size e)) other born = sym (requests_refused s origin slot d n kind other (λ e. cc))
requests_one s origin above h slot d n kind reply t t' (Requests.by at Grants.full) other born = sym (requests_refused s origin slot d n kind other (λ e. cc))
requests_one s origin above h slot d n kind reply t t' (Requests.vacant none) other born = sym (requests_refused s origin slot d n kind other (λ e. cc))

module _ (start : Start) (run : Run) (h : HasApartObjects (heap_after start run)) where
  other_apart : (event : Event) (reply : Reply) (next : Run) → IsNoRequest event → LineOf start run event reply next → HasApartObjects (heap_after start next)
  other_apart event reply next plain (LineOf.happens {s' = t} step) = kept_apart (heap_after start run) t (happens_keep start run event reply t plain step) h
  other_apart event reply next plain (LineOf.refused wrong) = h
  other_apart event reply next plain (LineOf.needs m need) = h
  other_apart event reply next plain (LineOf.roots m) = h
  other_apart event reply next plain (LineOf.mark m few) = h
  other_apart event reply next plain (LineOf.retrace m few) = h
  other_apart event reply next plain (LineOf.sweep few) = h
  other_apart event reply next plain LineOf.number = h

  line_apart : (origin : ℕ) → 0 < origin → (event : Event) (reply : Reply) (next : Run) → LineAnywhere origin start run event reply next → HasApartObjects (heap_after start next)
  line_apart origin above event reply next (LineAnywhere.requested {slot = slot} {into = d} {words = n} {kind = kind} {s' = t} requests) = requests_apart (heap_after start run) origin above h slot d n kind reply t requests
  line_apart origin above event reply next (LineAnywhere.other plain line) = other_apart event reply next plain line

  -- What two hints say of two heaps after an event.
  record SaidAnywhere (event : Event) (reply : Reply) (t t' : Heap) : Type 0 where
    born : (slot into words : ℕ) (kind : Kind) → event ≡ Mutator slot (Alloc into words kind) → reply ≡ Done → BothBornOf (heap_after start run) t t'
    ended : (k : ℕ) → event ≡ Finish → reply ≡ Count k → t ≡ t'

  line_one : (origin : ℕ) → 0 < origin → {event : Event} {reply : Reply} {next next' : Run} → LineAnywhere origin start run event reply next → LineAnywhere origin start run event reply next' → SaidAnywhere event reply (heap_after start next) (heap_after start next') → next ≡ next'
  line_one origin above (LineAnywhere.requested {slot = slot} {into = d} {words = n} {kind = kind} {reply = reply} {s' = t} one) (LineAnywhere.requested {s' = t'} two) said =
      ap (goes_on run (Mutator slot (Alloc d n kind)) reply) (requests_one (heap_after start run) origin above h slot d n kind reply t t' one two (said.born slot d n kind refl))
  line_one origin above (LineAnywhere.requested {slot = slot} {into = d} {words = n} {kind = kind} one) (LineAnywhere.other plain line) said = absurd (plain slot d n kind refl)
  line_one origin above (LineAnywhere.other plain line) (LineAnywhere.requested {slot = slot} {into = d} {words = n} {kind = kind} two) said = absurd (plain slot d n kind refl)
  line_one origin above (LineAnywhere.other plain one) (LineAnywhere.other plain' two) said =
      line_next start run h one two (record { born = λ slot into words kind is done. absurd (plain slot into words kind is); ended = said.ended })

-- Two runs after one are the same, and no objects share a byte in the heap after it.
pub record AreOneApart (start : Start) (next next' : Run) : Type 0 where
  pub same : next ≡ next'
  pub apart : HasApartObjects (heap_after start next)

pub one_next_anywhere : (origin : ℕ) → 0 < origin → (start : Start) (run : Run) → HasApartObjects (heap_after start run) → (event : Event) (reply : Reply) (hint hint' : Hint) (n : ℕ) → SayTheSame hint hint' → (next next' : Run)
    → IsReplayAnywhere origin hint n start run event reply next → IsReplayAnywhere origin hint' n start run event reply next' → AreOneApart start next next'
one_next_anywhere origin above start run h event reply hint hint' n same next next' one two = record {
  same = line_one start run h origin above one.line two.line (record {
    born = λ slot into words kind is done. both_born_of hint hint' n same (heap_after start run) (heap_after start next) (heap_after start next') (one.place slot into words kind is done) (two.place slot into words kind is done);
    ended = λ k is counts. named_next hint hint' same k (heap_after start run) (heap_after start next) (heap_after start next') (one.finished k is counts) (two.finished k is counts);
  });
  apart = line_apart start run h origin above event reply next one.line;
}
