-- What follows from the headline for a caller.
use Rattle.std.specs.Prelude.{◌≡◌, ◌≢◌, ℕ, ◌+◌, ◌*◌, ◌<◌, ◌≤◌, ◌⊎◌, true, All, List, [], ◌∷◌, length, nat_eq}
use mathlib.Core.List.{IsPrefix}
use Rattle.std.specs.List.{IsDistinct}
use Rattle.history.specs.Histories.{count, Legal}
use Rattle.heap_spec.specs.declared.call.Call.{Call}
use Rattle.heap_spec.specs.declared.call.Call.TheVariants.{Detach, Set, Get, Load, Store, Alloc, Free, Base}
use Rattle.heap_spec.specs.declared.event.Event.{Event}
use Rattle.heap_spec.specs.declared.event.Event.TheVariants.{Attach, Mutator, Begin, BeginPartial, Roots, Mark, Retrace, Finish, Sweep, Collect, Number}
use Rattle.heap_spec.specs.declared.reply.Reply.{Reply}
use Rattle.heap_spec.specs.declared.reply.Reply.TheVariants.{Done, Word}
use Rattle.heap_spec.specs.Shapes.{written_register, IsOther}
use Rattle.heap_spec.specs.Runs.{Told}
use Rattle.heap_spec.specs.Histories.{LegalHistory}
use Rattle.heap_spec.specs.SequentialObject.{Opens, StateStep}
use Rattle.words.specs.declared.limits.TheConstants.{SLOTS, WORD_BYTES}
use Rattle.words.specs.declared.class.Kind.{Kind}
use Rattle.words.specs.declared.class.Kind.TheVariants.{Normal}
use Rattle.heap_history.specs.OfCalls.{IfCall}
use Rattle.heap_history.specs.Ranks.{rank_of}
use Rattle.heap_history.specs.Passes.{MadeEvent, HeapPass, IsLegalPass, begins_with_attach}
use Rattle.heap_history.specs.Headline.{Looks, Makes}
use Rattle.heap_history.specs.Alone.{attaches, slots_of, AreAlone, CameIn, IsKnownWhole}
use Rattle.heap_history.specs.OwnObjects.{nothing_known, AllKeepToOwn, AreAsKnown}

-- what these events tell after those that were told, the newest first
abbrev pub tells : List Told → List MadeEvent → List Told
tells told [] = told
tells told (e ∷ es) = tells (record { event = e.call; reply = e.reply } ∷ told) es

-- What a pass has seen is a legal history: some run of a new heap of so many pages tells it.
abbrev pub SeenIsLegal : Type 0
SeenIsLegal = (pages : ℕ) (pass : HeapPass) → IsLegalPass pages pass → LegalHistory pages (tells [] pass.seen)

-- a call that frees no object
abbrev pub IsNoFreeCall : Call → Type 0
IsNoFreeCall (Free r) = ⊥
IsNoFreeCall _ = Unit {0}

-- and an event that does not: a cycle may be one
abbrev pub IsNoFree : Event → Type 0
IsNoFree event = IfCall IsNoFreeCall event

-- a call that stores nothing and frees nothing
abbrev pub LeavesWordsCall : Call → Type 0
LeavesWordsCall (Store a n r) = ⊥
LeavesWordsCall (Free r) = ⊥
LeavesWordsCall _ = Unit {0}

-- and an event that does neither: a cycle may be one
abbrev pub LeavesWords : Event → Type 0
LeavesWords event = IfCall LeavesWordsCall event

-- an event that is no collection
abbrev pub IsNoCollection : Event → Type 0
IsNoCollection Attach = Unit {0}
IsNoCollection (Mutator slot call) = Unit {0}
IsNoCollection Begin = Unit {0}
IsNoCollection BeginPartial = Unit {0}
IsNoCollection Roots = Unit {0}
IsNoCollection (Mark n) = Unit {0}
IsNoCollection Retrace = Unit {0}
IsNoCollection Finish = ⊥
IsNoCollection Sweep = Unit {0}
IsNoCollection Collect = ⊥
IsNoCollection Number = Unit {0}

-- A call with no store and no free between it and what its caller had seen, whatever else others did.
pub record MakesAfterNoWrite (pages : ℕ) (old : HeapPass) (call : Call) (reply : Reply) (new : HeapPass) : Type 0 where
  pub makes : Makes pages old call reply new
  pub left : All (λ (e : MadeEvent). LeavesWords e.call) makes.extends.between

-- And with no collection between either.
pub record MakesUndisturbed (pages : ℕ) (old : HeapPass) (call : Call) (reply : Reply) (new : HeapPass) : Type 0 where
  pub after : MakesAfterNoWrite pages old call reply new
  pub kept : All (λ (e : MadeEvent). IsNoCollection e.call) after.makes.extends.between

-- A mutator puts a word into a register and stores it, whatever others do between. Its next load from the same place, if nobody
-- stores, frees or collects between, answers that word.
abbrev pub OwnLoadAnswers : Type 0
OwnLoadAnswers = (pages a n r d w : ℕ) (reply : Reply) (start set stored loaded : HeapPass)
    → Makes pages start (Set r w) Done set → Makes pages set (Store a n r) Done stored → MakesUndisturbed pages stored (Load d a n) reply loaded → reply ≡ Word w

-- A mutator puts a word into a register. Its next call, if it asks for the register, answers that word, whatever others do between.
abbrev pub OwnRegisterAnswers : Type 0
OwnRegisterAnswers = (pages r w : ℕ) (reply : Reply) (start set asked : HeapPass) → Makes pages start (Set r w) Done set → Makes pages set (Get r) reply asked → reply ≡ Word w

-- A call with no free between it and what its caller had seen, whatever else others did.
pub record MakesAfterNoFree (pages : ℕ) (old : HeapPass) (call : Call) (reply : Reply) (new : HeapPass) : Type 0 where
  pub makes : Makes pages old call reply new
  pub kept : All (λ (e : MadeEvent). IsNoFree e.call) makes.extends.between

-- a call that leaves the register as it is and frees no object
abbrev pub LeavesRegister : ℕ → Call → Type 0
LeavesRegister d Detach = ⊥
LeavesRegister d (Free r) = ⊥
LeavesRegister d call = IsOther d (written_register call)

-- Any number of a mutator's calls that leave its register, while nobody frees.
pub data CallsLeaveRegister (pages d : ℕ) (old : HeapPass) : HeapPass → Type 0 where
  nothing : CallsLeaveRegister pages d old old
  longer : {now new : HeapPass} {call : Call} {reply : Reply} → CallsLeaveRegister pages d old now → LeavesRegister d call → MakesAfterNoFree pages now call reply new → CallsLeaveRegister pages d old new

-- A mutator allocates an object, and its register has the base, as it is told. While its calls leave that register, the register has the
-- base of an object, whatever others do between them, cycles and stores among it but no free.
abbrev pub OwnObjectStays : Type 0
OwnObjectStays = (pages d n a e : ℕ) (kind : Kind) (reply : Reply) (start made told later asked : HeapPass)
    → Makes pages start (Alloc d n kind) Done made → MakesAfterNoFree pages made (Get d) (Word a) told → CallsLeaveRegister pages d told later
    → MakesAfterNoFree pages later (Base e d) reply asked → reply ≡ Word a

-- A mutator allocates a Normal object, in which no link's word lies, and calls that leave its register follow. Then it puts a word into
-- another register and stores it in the object. Its next load from there answers that word, whatever others do between, cycles among
-- it, but stores and frees.
abbrev pub OwnWordStays : Type 0
OwnWordStays = (pages d n r w k e : ℕ) (reply : Reply) (start made later set stored loaded : HeapPass) → d ≢ r → k < n
    → Makes pages start (Alloc d n Normal) Done made → CallsLeaveRegister pages d made later → MakesAfterNoFree pages later (Set r w) Done set
    → MakesAfterNoFree pages set (Store d k r) Done stored → MakesAfterNoWrite pages stored (Load e d k) reply loaded → reply ≡ Word w

-- Two objects that a mutator allocates, the second while a register has the first, don't overlap, if nobody frees between.
abbrev pub OwnObjectsApart : Type 0
OwnObjectsApart = (pages d n a d' n' b : ℕ) (kind kind' : Kind) (start made told later more asked : HeapPass)
    → Makes pages start (Alloc d n kind) Done made → MakesAfterNoFree pages made (Get d) (Word a) told → CallsLeaveRegister pages d told later
    → MakesAfterNoFree pages later (Alloc d' n' kind') Done more → Makes pages more (Get d') (Word b) asked
    → (a + WORD_BYTES * n ≤ b) ⊎ (b + WORD_BYTES * n' ≤ a)

-- A mutator's own events begin with its attach.
abbrev pub MineBegins : Type 0
MineBegins = (pages : ℕ) (pass : HeapPass) → IsLegalPass pages pass → pass.slot < SLOTS → begins_with_attach pass.mine ≡ true

-- What a pass sees has at least as many collections as what it had seen.
abbrev pub CountGrows : Type 0
CountGrows = (old new : HeapPass) → IsPrefix old.seen new.seen → count rank_of old.seen ≤ count rank_of new.seen

-- Where no more mutators came in a history than there are passes of different slots that did, nobody else had a part in it.
abbrev pub NobodyElseCame : Type 0
NobodyElseCame = (pages : ℕ) (history : List MadeEvent) (passes : List HeapPass) → Legal (Opens pages) StateStep history → IsDistinct nat_eq (slots_of passes) → All (CameIn pages history) passes
    → attaches history ≤ length passes → AreAlone (slots_of passes) history

-- Another mutator, which has seen this whole history or had left, stored and freed nothing since it came.
pub record LeftWords (pages : ℕ) (history : List MadeEvent) (pass : HeapPass) : Type 0 where
  pub known : IsKnownWhole pages history pass
  pub left : All (λ (e : MadeEvent). LeavesWords e.call) pass.mine

-- A call after a look is a call: so a mutator may look, and wait by it, between two calls.
abbrev pub LooksThenMakes : Type 0
LooksThenMakes = (pages : ℕ) (old mid new : HeapPass) (call : Call) (reply : Reply) → Looks pages old mid → Makes pages mid call reply new → Makes pages old call reply new

-- Where nobody but a mutator and these others had a part in a history, and the others stored and freed nothing, no call of the mutator has
-- a store or a free between it and what the mutator had seen.
abbrev pub OthersLeaveWords : Type 0
OthersLeaveWords = (pages : ℕ) (history : List MadeEvent) → Legal (Opens pages) StateStep history → (me : ℕ) (others : List HeapPass) → AreAlone (me ∷ slots_of others) history
    → All (LeftWords pages history) others → (old new : HeapPass) (call : Call) (reply : Reply) → old.slot ≡ me → IsPrefix new.seen history → Makes pages old call reply new
    → MakesAfterNoWrite pages old call reply new × MakesAfterNoFree pages old call reply new

-- A mutator, which has seen this whole history or had left, stored in no object but its own Normal ones, and freed none, since it came.
pub record KeptToOwn (pages : ℕ) (history : List MadeEvent) (pass : HeapPass) : Type 0 where
  pub mutator : pass.slot < SLOTS
  pub known : IsKnownWhole pages history pass
  pub kept : AllKeepToOwn nothing_known pass.mine

-- Where nobody but these mutators had a part in a history, and each stored in its own Normal objects alone and freed none, what each loads
-- from these is what it last stored there itself, and 0 before: whatever the others store, and whatever cycles run.
abbrev pub OwnWordsAsKnown : Type 0
OwnWordsAsKnown = (pages : ℕ) (history : List MadeEvent) (passes : List HeapPass) → Legal (Opens pages) StateStep history → AreAlone (slots_of passes) history → All (KeptToOwn pages history) passes
    → All (λ (p : HeapPass). AreAsKnown nothing_known p.mine) passes
