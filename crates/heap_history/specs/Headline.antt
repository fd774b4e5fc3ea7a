-- The headline, of a heap of so many pages.
use Rattle.std.specs.Prelude.{◌≡◌, ◌≢◌, ℕ, Bool, true, false, not, ⊤, List, [], ◌∷◌, ◌++◌, Result, Ok, Err}
use Rattle.words.specs.declared.refusal.Refusal.{Refusal}
use Rattle.words.specs.declared.refusal.Refusal.TheVariants.{NoSlot, WrongPhase, NeedsFull}
use Rattle.history.specs.Headline as headline
use Rattle.history.specs.Histories.{event, AreOfOthers}
use Rattle.heap_spec.specs.declared.call.Call.{Call}
use Rattle.heap_spec.specs.declared.call.Call.TheVariants.{Detach}
use Rattle.heap_spec.specs.declared.event.Event.{Event}
use Rattle.heap_spec.specs.declared.event.Event.TheVariants.{Attach, Mutator, BeginPartial}
use Rattle.heap_spec.specs.declared.reply.Reply.{Reply}
use Rattle.heap_spec.specs.declared.reply.Reply.TheVariants.{Slot, Done, Refused}
use Rattle.heap_spec.specs.SequentialObject.{Opens, StateStep}
use Rattle.heap_history.specs.Ranks.{rank_of}
use Rattle.heap_history.specs.Passes.{MadeEvent, HeapPass, IsLegalPast, is_marking, needs_full}

-- The event has this reply at one point of one growing legal history of such a heap, which begins with all that the caller's pass had
-- seen, ends with the event, and holds the caller's own events since its attach, each once, in their order.
abbrev pub Extends : ℕ → HeapPass → Event → Reply → HeapPass → Type 0
Extends pages old asked reply new = headline.Extends rank_of (Opens pages) StateStep old asked reply new

-- No event of the caller's: its own events are as before, and it may have seen more.
abbrev pub Looks : ℕ → HeapPass → HeapPass → Type 0
Looks pages old new = headline.Looks rank_of (Opens pages) StateStep old new

-- A mutator's attach, with which its own events begin: it has the slot that it was answered.
abbrev pub Begun : ℕ → HeapPass → Type 0
Begun pages pass = headline.Begun rank_of (Opens pages) StateStep pass Attach (Slot pass.slot)

-- A mutator's call, which is never told that its slot isn't attached.
pub record Makes (pages : ℕ) (old : HeapPass) (call : Call) (reply : Reply) (new : HeapPass) : Type 0 where
  pub extends : Extends pages old (Mutator old.slot call) reply new
  pub has_slot : reply ≢ Refused NoSlot

-- A call of the collector in one phase alone, which the collector's own events tell: granted exactly in that phase it is an event, and
-- refused it is none.
abbrev pub IsGrantedByOwnEvents : {A : Type 0} → Bool → ℕ → HeapPass → Event → (A → Reply) → Result A Refusal → HeapPass → Type 0
IsGrantedByOwnEvents phase pages old asked told (Ok x) new = (is_marking old.mine ≡ phase) × Extends pages old asked (told x) new
IsGrantedByOwnEvents phase pages old asked told (Err refusal) new = (is_marking old.mine ≡ not phase) × (refusal ≡ WrongPhase) × Looks pages old new

-- A partial begin is refused: a cycle is marking, as the collector's own events tell, or none is and a full cycle is needed, as all
-- events tell that the pass has seen.
pub data IsRefusedPartial (old new : HeapPass) : Refusal → Type 0 where
  wrong_phase : is_marking old.mine ≡ true → IsRefusedPartial old new WrongPhase
  needs : is_marking old.mine ≡ false → needs_full new.seen ≡ true → IsRefusedPartial old new NeedsFull

-- A cycle begins with the marks of the last one, which is an event, or it is refused and is none.
abbrev pub BeginsPartialByEvents : ℕ → HeapPass → Result ⊤ Refusal → HeapPass → Type 0
BeginsPartialByEvents pages old (Ok done) new = (is_marking old.mine ≡ false) × Extends pages old BeginPartial Done new
BeginsPartialByEvents pages old (Err refusal) new = IsRefusedPartial old new refusal × Looks pages old new

-- A mutator's last call, which is always granted: at one point of one growing legal history, which begins with all that the mutator had seen
-- and ends with the call, and holds its own events since its attach, each once, in their order. After it the slot has no mutator.
pub record Departs (pages : ℕ) (old past : HeapPass) : Type 0 where
  pub slot : past.slot ≡ old.slot
  pub between : List MadeEvent
  pub others : AreOfOthers old.slot between
  pub seen : past.seen ≡ (old.seen ++ between) ++ event old.slot (Mutator old.slot Detach) Done ∷ []
  pub mine : past.mine ≡ old.mine ++ event old.slot (Mutator old.slot Detach) Done ∷ []
  pub fine : IsLegalPast pages past
