-- What a call through the lock tells its caller.
use Rattle.std.specs.Prelude.{◌≡◌, ℕ, Bool, true, false, All, length, List, [], ◌∷◌, ◌++◌}
use mathlib.Core.List.{IsPrefix}
use Rattle.history.specs.declared.made.Made.{Made}
use Rattle.history.specs.declared.view.Known.{Known}
use Rattle.history.specs.Histories.{event}
use Rattle.history.specs.Passes.{Agrees}
use Rattle.history.specs.Headline as headline
use Rattle.shared_register.specs.declared.register.Call.{Call}
use Rattle.shared_register.specs.declared.register.Call.TheVariants.{Attach, Set, Add, Get, Begin, Finish, Collect, Detach}
use Rattle.shared_register.specs.declared.register.Reply.{Reply}
use Rattle.shared_register.specs.Steps.{IsOpening, Steps, rank_of}

-- a call that a mutator makes between its first and its last
abbrev pub IsPlainCall : Call → Type 0
IsPlainCall Attach = ⊥
IsPlainCall (Set n) = Unit {0}
IsPlainCall (Add n) = Unit {0}
IsPlainCall Get = Unit {0}
IsPlainCall Begin = ⊥
IsPlainCall Finish = ⊥
IsPlainCall Collect = ⊥
IsPlainCall Detach = ⊥

-- calls of that kind, with room for each reply
abbrev pub AreReady : List Call → List Reply → Type 0
AreReady calls replies = All IsPlainCall calls × (length replies ≡ length calls)

-- whether a cycle runs after this call, if b says whether one ran before
abbrev pub marked : Bool → Call → Bool
marked b Attach = b
marked b (Set n) = b
marked b (Add n) = b
marked b Get = b
marked b Begin = true
marked b Finish = false
marked b Collect = false
marked b Detach = b

-- whether a cycle runs after these events, if b says whether one ran before
abbrev pub running_from : Bool → List (Made Call Reply) → Bool
running_from b [] = b
running_from b (e ∷ es) = running_from (marked b e.call) es

-- a cycle runs after these events
abbrev pub is_running : List (Made Call Reply) → Bool
is_running es = running_from false es

-- what holds of a pass between any two calls, of a register that was opened with this number
abbrev pub IsLegalPass : ℕ → Known Call Reply → Type 0
IsLegalPass start pass = Agrees rank_of (IsOpening start) Steps pass

-- the headline, of such a register
abbrev pub Extends : ℕ → Known Call Reply → Call → Reply → Known Call Reply → Type 0
Extends start old call reply new = headline.Extends rank_of (IsOpening start) Steps old call reply new

-- the headline of a first call, of such a register
abbrev pub Begun : ℕ → Known Call Reply → Call → Reply → Type 0
Begun start pass call reply = headline.Begun rank_of (IsOpening start) Steps pass call reply

-- the headline of a look that makes no call, of such a register
abbrev pub Looks : ℕ → Known Call Reply → Known Call Reply → Type 0
Looks start old new = headline.Looks rank_of (IsOpening start) Steps old new

-- a slot's calls with their replies, as events
abbrev pub events : ℕ → List Call → List Reply → List (Made Call Reply)
events who [] rs = []
events who (c ∷ cs) [] = []
events who (c ∷ cs) (r ∷ rs) = event who c r ∷ events who cs rs

-- the caller made these calls in this order, with these replies, and no others
pub record Ran (old : Known Call Reply) (calls : List Call) (replies : List Reply) (new : Known Call Reply) : Type 0 where
  pub slot : new.slot ≡ old.slot
  pub seen : IsPrefix old.seen new.seen
  pub mine : new.mine ≡ old.mine ++ events old.slot calls replies

-- the slot and its own calls stay
pub record Keeps (old new : Known Call Reply) : Type 0 where
  pub slot : new.slot ≡ old.slot
  pub mine : new.mine ≡ old.mine

-- the pass has seen exactly this history, and its own calls are its slot's in it
pub record Settled (start : ℕ) (old new : Known Call Reply) (all : List (Made Call Reply)) : Type 0 where
  pub keeps : Keeps old new
  pub seen : new.seen ≡ all
  pub fine : IsLegalPass start new

-- One history, `all`, was seen, in which the pass's own events are those that it had before and then these calls with these replies. They
-- are all that its slot did since its first
pub record StandsIn (start : ℕ) (all : List (Made Call Reply)) (old : Known Call Reply) (calls : List Call) (replies : List Reply) (new : Known Call Reply) : Type 0 where
  pub seen : new.seen ≡ all
  pub mine : new.mine ≡ old.mine ++ events old.slot calls replies
  pub fine : IsLegalPass start new
