-- What an event does to a core: it is the call of its name, and the reply is what that call answered.
use Rattle.std.specs.Prelude.{◌≡◌, true, false, List, [], ◌∷◌, ◌++◌, Result}
use Rattle.words.specs.declared.refusal.Refusal.{Refusal}
use Rattle.heap_spec.specs.declared.event.Event.{Event}
use Rattle.heap_spec.specs.declared.event.Event.TheVariants.{Attach, Mutator, Begin, BeginPartial, Roots, Mark, Retrace, Finish, Sweep, Collect, Number}
use Rattle.heap_spec.specs.declared.reply.Reply.{Reply}
use Rattle.heap_spec.specs.declared.reply.Reply.TheVariants.{Count}
use Rattle.heap_spec.specs.Replies.{count_reply, done_reply}
use Rattle.heap_spec.specs.Runs.{Told}
use Rattle.heap_core.specs.CoreContents.{CoreContents, IsCore}
use Rattle.heap_core.specs.MutatorCalls.{IsCall}
use Rattle.heap_core.specs.Collections.{IsGrantedInPhase, IsGrantedPartial, IsAlwaysGranted, BeginsCycle, BeginsPartialCycle, ReadsRoots, TakesWords, RetracesPage, EndsCycle, CollectsAll, SweepsOne}

-- the reply is that of a result of which this is true
abbrev pub Tells : {A : Type 0} → (Result A Refusal → Reply) → Reply → (Result A Refusal → Type 0) → Type 0
Tells {A = A} told reply P = (r : Result A Refusal) × (reply ≡ told r) × P r

-- the event is this call of the core
abbrev pub IsAct : CoreContents → Event → Reply → CoreContents → Type 0
IsAct old Attach reply new = IsCall old Attach reply new
IsAct old (Mutator slot call) reply new = IsCall old (Mutator slot call) reply new
IsAct old Begin reply new = Tells done_reply reply (λ r. IsGrantedInPhase false old r new (λ _. BeginsCycle old new))
IsAct old BeginPartial reply new = Tells done_reply reply (λ r. IsGrantedPartial old r new (BeginsPartialCycle old new))
IsAct old Roots reply new = Tells done_reply reply (λ r. IsGrantedInPhase true old r new (λ _. ReadsRoots old new))
IsAct old (Mark most) reply new = Tells count_reply reply (λ r. IsGrantedInPhase true old r new (λ n. TakesWords most old n new))
IsAct old Retrace reply new = Tells count_reply reply (λ r. IsGrantedInPhase true old r new (λ n. RetracesPage old n new))
IsAct old Finish reply new = Tells count_reply reply (λ r. IsGrantedInPhase true old r new (λ n. EndsCycle old n new))
IsAct old Sweep reply new = Tells count_reply reply (λ r. IsAlwaysGranted r (λ n. SweepsOne old n new))
IsAct old Collect reply new = Tells count_reply reply (λ r. IsAlwaysGranted r (λ n. CollectsAll old n new))
IsAct old Number reply new = (reply ≡ Count old.cycle.count) × (new ≡ old)

-- The events with their replies are calls of the core, one after another, and what each call leaves is a core.
pub data AreActs (old : CoreContents) : List Told → CoreContents → Type 0 where
  none : AreActs old [] old
  more : {lines : List Told} {mid new : CoreContents} (told : Told) → AreActs old lines mid → IsAct mid told.event told.reply new → IsCore new → AreActs old (lines ++ told ∷ []) new
