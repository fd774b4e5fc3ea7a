-- An allocation, the register that has its base, and what comes after.
use Rattle.std.proofs.Common.{◌≡◌, ℕ, ◌+◌, ◌*◌, ◌<◌, ◌≤◌, ◌⊎◌, List, ◌++◌, length, refl, sym, ap, ◌∙◌, subst, arith, inl, inr, ⊎_elim, replicate, get_or-set_same}
use Rattle.std.specs.Prelude.{Some, All, slice_get, slice_index, slice_set}
use Rattle.std.proofs.lemmas.Option.{slice_get_within}
use Rattle.std.proofs.lemmas.List.{length-set, length-replicate, get_or-replicate}
use Rattle.words.specs.declared.class.Kind.{Kind}
use Rattle.history.specs.Histories.{event, AreOfOthers, Walks, Reaches}
use Rattle.heap_spec.specs.declared.call.Call.{Call}
use Rattle.heap_spec.specs.declared.call.Call.TheVariants.{Get, Alloc, Free, Base}
use Rattle.heap_spec.specs.declared.event.Event.TheVariants.{Mutator}
use Rattle.heap_spec.specs.declared.reply.Reply.{Reply}
use Rattle.heap_spec.specs.declared.reply.Reply.TheVariants.{Done, Word}
use Rattle.heap_spec.specs.Heap.{Heap, Object, Mutator as HeapMutator, HasObject, IsAttached}
use Rattle.heap_spec.specs.Room.{length_of}
use Rattle.heap_spec.specs.Steps.{Acts, Calls, acts, vacant, register}
use Rattle.heap_spec.specs.Sound.{IsSound}
use Rattle.heap_spec.specs.SequentialObject.{HeapState, heap_of, Opens, StateStep}
use Rattle.heap_spec.proofs.Calls.{attached_is}
use Rattle.heap_spec.proofs.Loads.{same_mutator}
use Rattle.heap_spec.proofs.Layouts.{AreApart, placed}
use Rattle.heap_spec.proofs.Objects.{with_at-same, object_lies, one_read, room_apart}
use Rattle.heap_history.specs.Passes.{MadeEvent, HeapPass}
use Rattle.heap_history.specs.Headline.{Makes}
use Rattle.heap_spec.specs.Laws.{IsRunFromOpening}
use Rattle.heap_history.specs.Laws.{MakesAfterNoFree, IsNoFreeCall, IsNoFree, LeavesRegister, CallsLeaveRegister}
use Rattle.heap_history.proofs.Slots.{slice_get-set_same, not_both}
use Rattle.heap_history.proofs.Stored.{walks_last, walks_through, walks_mutators, reached_fresh, reached_sound}
use Rattle.heap_history.proofs.Held.{room_none, calls_stay, walks_held}
use Rattle.heap_history.proofs.Keeping.{calls_keep}
use Rattle.heap_history.proofs.Places.{place_holds}

-- A mutator's register has the base of an object of at least so many words.
pub record Owned (s : Heap) (slot d n a : ℕ) (kind : Kind) : Type 0 where
  pub object : Object
  pub mutator : HeapMutator
  pub at : IsAttached s slot mutator
  pub there : d < length mutator.registers
  pub holds : register mutator d ≡ a
  pub has : HasObject s a object
  pub size : n ≤ length object.words
  pub of_kind : object.kind ≡ kind

-- What a granted allocation leaves: the object, whose base the register has, apart from all that were there.
pub record Allocated (s s' : Heap) (slot d n : ℕ) (kind : Kind) : Type 0 where
  pub base : ℕ
  pub owned : Owned s' slot d n base kind
  pub away : (b : ℕ) (p : Object) → HasObject s b p → AreApart base (length owned.object.words) b (length p.words)
  pub kind_is : owned.object.kind ≡ kind
  pub new : (p : Object) → HasObject s base p → ⊥
  pub zeros : (k : ℕ) → k < length owned.object.words → slice_index owned.object.words k ≡ 0

pub alloc_is : (s : Heap) (slot d n : ℕ) (kind : Kind) → IsSound s → d < 16 → {s' : Heap} → Calls s slot (Alloc d n kind) Done s' → Allocated s s' slot d n kind
alloc_is s slot d n kind h few (acts {m = m} at (Acts.allocated {placement = placement} a e room)) =
    let size = (attached_is s slot m h at).registers.size in
    let there : d < length m.registers = omega (arith, size) in
    let changed : HeapMutator = record m { registers = slice_set m.registers d a } in
    let long : length (replicate (length_of placement) 0) ≡ length_of placement = length-replicate (length_of placement) 0 in
    let is = placed _ n placement e in
    record {
      base = a;
      owned = record {
        object = record { birth = s.births + 1; kind = kind; words = replicate (length_of placement) 0 };
        mutator = changed;
        at = slice_get-set_same s.mutators slot (Some changed) (slice_get_within s.mutators slot (Some m) at);
        there = subst (λ k. d < k) (sym (length-set m.registers d a)) there;
        holds = get_or-set_same m.registers d a 0 there;
        has = with_at-same s.objects a _ a refl;
        size = subst (λ k. n ≤ k) (sym long) (place_holds _ n placement e);
        of_kind = refl;
      };
      away = λ b p has. subst (λ k. AreApart a k b (length p.words)) (sym long)
          (room_apart s h placement kind a is room b p has (λ same. room_none s h placement kind a is room p (ap s.objects (sym same) ∙ has)));
      kind_is = refl;
      new = room_none s h placement kind a is room;
      zeros = λ k lt. get_or-replicate (length_of placement) k 0 0 (omega (arith, lt, long));
    }

-- what is told of a register
pub get_is : (s : Heap) (slot d a : ℕ) {s' : Heap} → Calls s slot (Get d) (Word a) s' → (m : HeapMutator) → IsAttached s slot m → (a ≡ register m d) × (s' ≡ s)
get_is s slot d a (acts {m = k} at Acts.got) m at' = (ap (λ (x : HeapMutator). register x d) (same_mutator s slot k m at at'), refl)

-- and of the object that it reads the base of
base_is : (s : Heap) → IsSound s → (slot e d a : ℕ) (m : HeapMutator) (o : Object) → IsAttached s slot m → register m d ≡ a → HasObject s a o → {reply : Reply} {s' : Heap} → Calls s slot (Base e d) reply s' → reply ≡ Word a
base_is s h slot e d a m o at is has (acts {m = k} at' (Acts.based {base = b} {o = p} reads)) =
    let some = (object_lies s h a o has).some in
    let word : register k d ≡ a = ap (λ (x : HeapMutator). register x d) (same_mutator s slot k m at' at) ∙ is in
    ap Word (one_read s h (register k d) b a p o reads (has, (omega (arith, word), omega (arith, word))))
base_is s h slot e d a m o at is has (acts {m = k} at' (Acts.base_nothing none)) =
    let some = (object_lies s h a o has).some in
    let word : register k d ≡ a = ap (λ (x : HeapMutator). register x d) (same_mutator s slot k m at' at) ∙ is in
    absurd (none a o (has, (omega (arith, word), omega (arith, word))))
base_is s h slot e d a m o at is has (vacant none) = absurd (not_both s slot m at none)

-- the look at its register tells its base
get_owned : (s : Heap) (slot d n a b : ℕ) {kind : Kind} {s' : Heap} → Calls s slot (Get d) (Word b) s' → Owned s slot d n a kind → (a ≡ b) × Owned s' slot d n a kind
get_owned s slot d n a b {kind = kind} calls own =
    let get = get_is s slot d b calls own.mutator own.at in
    (sym (get.0 ∙ own.holds), subst (λ (x : Heap). Owned x slot d n a kind) (sym get.1) own)

-- and any call that leaves the register leaves it owned
leaves_no_free : (d : ℕ) (call : Call) → LeavesRegister d call → IsNoFreeCall call
leaves_no_free d (Free r) none = none
leaves_no_free d _ leaves = tt

call_owned : (s : Heap) (slot d n a : ℕ) {kind : Kind} → IsSound s → {call : Call} {reply : Reply} {s' : Heap} → Calls s slot call reply s' → LeavesRegister d call → Owned s slot d n a kind → Owned s' slot d n a kind
call_owned s slot d n a {kind = kind} h {call = call} calls leaves own =
    let stays = calls_stay s slot h calls (leaves_no_free d call leaves) a own.object own.has in
    let kept = calls_keep s slot own.mutator d own.at calls leaves in
    record {
      object = stays.0;
      mutator = kept.mutator;
      at = kept.at;
      there = subst (λ k. d < k) (sym kept.size) own.there;
      holds = kept.word ∙ own.holds;
      has = stays.1;
      size = subst (λ k. n ≤ k) (sym stays.2.size) own.size;
      of_kind = stays.2.kind ∙ own.of_kind;
    }

-- what others do leaves it, if they free nothing
pub walks_owned : (s t : HeapState) (es : List MadeEvent) → Walks StateStep s es t → IsRunFromOpening s.pages s.run → (who d n a : ℕ) {kind : Kind} → Owned (heap_of s) who d n a kind → AreOfOthers who es → All (λ (e : MadeEvent). IsNoFree e.call) es
    → Owned (heap_of t) who d n a kind
walks_owned s t es w fresh who d n a {kind = kind} own others free =
    let held = walks_held s t es w fresh who own.mutator d a own.object own.at own.there own.holds own.has others free in
    record { object = held.1.0; mutator = own.mutator; at = held.0; there = own.there; holds = own.holds; has = held.1.1; size = subst (λ k. n ≤ k) (sym held.1.2.size) own.size; of_kind = held.1.2.kind ∙ own.of_kind }

-- and its mutator too
pub walks_owned_mutator : (s t : HeapState) (es : List MadeEvent) (w : Walks StateStep s es t) (fresh : IsRunFromOpening s.pages s.run) (who d n a : ℕ) {kind : Kind} (own : Owned (heap_of s) who d n a kind) (others : AreOfOthers who es)
    (free : All (λ (e : MadeEvent). IsNoFree e.call) es) → (walks_owned s t es w fresh who d n a own others free).mutator ≡ own.mutator
unfolding walks_owned
walks_owned_mutator s t es w fresh who d n a own others free = refl

-- In each state to which what the pass has seen leads, its register has the base of such an object, and that base is one of these.
abbrev pub IsOwned : ℕ → ℕ → ℕ → Kind → (ℕ → Type 0) → HeapPass → Type 0
IsOwned pages d n kind Is pass = (t : HeapState) → Reaches (Opens pages) StateStep pass.seen t → (a : ℕ) × Is a × Owned (heap_of t) pass.slot d n a kind

-- the state that a call is made in
pub record Before (pages : ℕ) (pass : HeapPass) (between : List MadeEvent) (call : Call) (reply : Reply) (t : HeapState) : Type 0 where
  pub state : HeapState
  pub reached : Reaches (Opens pages) StateStep (pass.seen ++ between) state
  pub step : StateStep state pass.slot (Mutator pass.slot call) reply t

pub before : (pages : ℕ) (old new : HeapPass) (call : Call) (reply : Reply) → (makes : Makes pages old call reply new) → (t : HeapState) → Reaches (Opens pages) StateStep new.seen t → Before pages old makes.extends.between call reply t
before pages old new call reply makes t r =
    let w = subst (λ l. Walks StateStep r.0 l t) makes.extends.seen r.2 in
    let last = walks_last r.0 t (old.seen ++ makes.extends.between) (event old.slot (Mutator old.slot call) reply) w in
    record { state = last.0; reached = (r.0, r.1, last.1); step = last.2 }

-- there the object is owned still
pub owned_before : (pages d n : ℕ) (kind : Kind) (Is : ℕ → Type 0) (old new : HeapPass) (call : Call) (reply : Reply) → (after : MakesAfterNoFree pages old call reply new) → IsOwned pages d n kind Is old
    → (t : HeapState) → (at : Before pages old after.makes.extends.between call reply t) → (a : ℕ) × Is a × Owned (heap_of at.state) old.slot d n a kind
owned_before pages d n kind Is old new call reply after own t at =
    let between = after.makes.extends.between in
    let mid = walks_through at.reached.0 at.state old.seen between at.reached.2 in
    let reached : Reaches (Opens pages) StateStep old.seen mid.0 = (at.reached.0, at.reached.1, mid.1) in
    let had = own mid.0 reached in
    (had.0, had.1, walks_owned mid.0 at.state between mid.2 (reached_fresh pages old.seen mid.0 reached) old.slot d n had.0 had.2 after.makes.extends.others after.kept)

-- the mutator's own allocation
pub made_owned : (pages d n : ℕ) (kind : Kind) (old new : HeapPass) → Makes pages old (Alloc d n kind) Done new → IsOwned pages d n kind (λ a. Unit {0}) new
made_owned pages d n kind old new makes t r =
    let at = before pages old new (Alloc d n kind) Done makes t r in
    let made = alloc_is (heap_of at.state) old.slot d n kind (reached_sound pages (old.seen ++ makes.extends.between) at.state at.reached) at.step.in_range.1.0 at.step.happens in
    (made.base, tt, subst (λ (k : ℕ). Owned (heap_of t) k d n made.base kind) (sym makes.extends.slot) (subst (λ (x : Heap). Owned x old.slot d n made.base kind) (sym (ap heap_of at.step.goes)) made.owned))

-- what it is told of its register
told_owned : (pages d n a : ℕ) (kind : Kind) (old new : HeapPass) → MakesAfterNoFree pages old (Get d) (Word a) new → IsOwned pages d n kind (λ b. Unit {0}) old → IsOwned pages d n kind (λ b. b ≡ a) new
told_owned pages d n a kind old new after own t r =
    let at = before pages old new (Get d) (Word a) after.makes t r in
    let had = owned_before pages d n kind (λ b. Unit {0}) old new (Get d) (Word a) after own t at in
    let get = get_owned (heap_of at.state) old.slot d n had.0 a at.step.happens had.2 in
    (had.0, get.0, subst (λ (k : ℕ). Owned (heap_of t) k d n had.0 kind) (sym after.makes.extends.slot) (subst (λ (x : Heap). Owned x old.slot d n had.0 kind) (sym (ap heap_of at.step.goes)) get.1))

-- and its calls that leave the register
pub kept_owned : (pages d n : ℕ) (kind : Kind) (Is : ℕ → Type 0) (old : HeapPass) → {new : HeapPass} → CallsLeaveRegister pages d old new → IsOwned pages d n kind Is old → IsOwned pages d n kind Is new
kept_owned pages d n kind Is old CallsLeaveRegister.nothing own = own
kept_owned pages d n kind Is old {new = new} (CallsLeaveRegister.longer {now = now} {call = call} {reply = reply} keeps leaves after) own = λ t r.
    let at = before pages now new call reply after.makes t r in
    let had = owned_before pages d n kind Is now new call reply after (kept_owned pages d n kind Is old keeps own) t at in
    let sound = reached_sound pages (now.seen ++ after.makes.extends.between) at.state at.reached in
    let held = call_owned (heap_of at.state) now.slot d n had.0 sound at.step.happens leaves had.2 in
    (had.0, had.1, subst (λ (k : ℕ). Owned (heap_of t) k d n had.0 kind) (sym after.makes.extends.slot) (subst (λ (x : Heap). Owned x now.slot d n had.0 kind) (sym (ap heap_of at.step.goes)) held))

-- an object is owned from its allocation on
owned_on : (pages d n a : ℕ) (kind : Kind) (start made told later : HeapPass) → Makes pages start (Alloc d n kind) Done made → MakesAfterNoFree pages made (Get d) (Word a) told → CallsLeaveRegister pages d told later
    → IsOwned pages d n kind (λ b. b ≡ a) later
owned_on pages d n a kind start made told later first second keeps =
    kept_owned pages d n kind (λ b. b ≡ a) told keeps (told_owned pages d n a kind made told second (made_owned pages d n kind start made first))

pub stays : (pages d n a e : ℕ) (kind : Kind) (reply : Reply) (start made told later asked : HeapPass)
    → Makes pages start (Alloc d n kind) Done made → MakesAfterNoFree pages made (Get d) (Word a) told → CallsLeaveRegister pages d told later → MakesAfterNoFree pages later (Base e d) reply asked → reply ≡ Word a
stays pages d n a e kind reply start made told later asked first second keeps third =
    let legal = third.makes.extends.fine.legal in
    let at = before pages later asked (Base e d) reply third.makes legal.0 legal.1 in
    let had = owned_before pages d n kind (λ b. b ≡ a) later asked (Base e d) reply third (owned_on pages d n a kind start made told later first second keeps) legal.0 at in
    let own = had.2 in
    let sound = reached_sound pages (later.seen ++ third.makes.extends.between) at.state at.reached in
    base_is (heap_of at.state) sound later.slot e d had.0 own.mutator own.object own.at own.holds own.has at.step.happens ∙ ap Word had.1

pub apart : (pages d n a d' n' b : ℕ) (kind kind' : Kind) (start made told later more asked : HeapPass)
    → Makes pages start (Alloc d n kind) Done made → MakesAfterNoFree pages made (Get d) (Word a) told → CallsLeaveRegister pages d told later
    → MakesAfterNoFree pages later (Alloc d' n' kind') Done more → Makes pages more (Get d') (Word b) asked
    → (a + 8 * n ≤ b) ⊎ (b + 8 * n' ≤ a)
apart pages d n a d' n' b kind kind' start made told later more asked first second keeps third fourth =
    let legal = fourth.extends.fine.legal in
    let since = fourth.extends.between in
    let last = before pages more asked (Get d') (Word b) fourth legal.0 legal.1 in
    let mid = walks_through last.reached.0 last.state more.seen since last.reached.2 in
    let at = before pages later more (Alloc d' n' kind') Done third.makes mid.0 (last.reached.0, last.reached.1, mid.1) in
    let had = owned_before pages d n kind (λ k. k ≡ a) later more (Alloc d' n' kind') Done third (owned_on pages d n a kind start made told later first second keeps) mid.0 at in
    let own = had.2 in
    let sound = reached_sound pages (later.seen ++ third.makes.extends.between) at.state at.reached in
    let new = alloc_is (heap_of at.state) later.slot d' n' kind' sound at.step.in_range.1.0 at.step.happens in
    let slot = third.makes.extends.slot in
    let there : IsAttached (heap_of mid.0) more.slot new.owned.mutator =
    subst (λ (k : ℕ). IsAttached (heap_of mid.0) k new.owned.mutator) (sym slot) (ap (λ (s : Heap). slice_get s.mutators later.slot) (ap heap_of at.step.goes) ∙ new.owned.at) in
    let still : IsAttached (heap_of last.state) more.slot new.owned.mutator = walks_mutators mid.0 last.state since more.slot mid.2 fourth.extends.others ∙ there in
    let told2 : b ≡ new.base = (get_is (heap_of last.state) more.slot d' b last.step.happens new.owned.mutator still).0 ∙ new.owned.holds in
    let is : had.0 ≡ a = had.1 in
    let size = own.size in
    let size2 = new.owned.size in
    ⊎_elim (λ before. inr (omega arith)) (λ after. inl (omega arith)) (new.away had.0 own.object own.has)
