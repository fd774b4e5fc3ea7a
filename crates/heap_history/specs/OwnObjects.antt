-- What a mutator's own events alone tell of its registers, and of the words of its own objects.
use Rattle.std.specs.Prelude.{◌≡◌, ℕ, ◌<◌, ◌==◌, Option, Some, None, IfSome, if◌then◌else◌, List, [], ◌∷◌}
use Rattle.words.specs.declared.class.Kind.{Kind}
use Rattle.words.specs.declared.class.Kind.TheVariants.{Normal}
use Rattle.heap_spec.specs.declared.call.Call.{Call}
use Rattle.heap_spec.specs.declared.call.Call.TheVariants.{Detach, Set, Get, Load, Store, Alloc, Free}
use Rattle.heap_spec.specs.declared.event.Event.{Event}
use Rattle.heap_spec.specs.declared.event.Event.TheVariants.{Attach, Mutator, Begin, BeginPartial, Roots, Mark, Retrace, Finish, Sweep, Collect, Number}
use Rattle.heap_spec.specs.declared.reply.Reply.{Reply}
use Rattle.heap_spec.specs.declared.reply.Reply.TheVariants.{Done, Word}
use Rattle.heap_spec.specs.Shapes.{written_register}
use Rattle.heap_history.specs.OfCalls.{IfCall}
use Rattle.heap_history.specs.Passes.{MadeEvent}

-- What is known of a register: nothing, its word, or that it has the base of a Normal object of the mutator's own, of at least so many
-- words, of which some are known.
pub data Content : Type 0 where
  unknown : Content
  a_word : ℕ → Content
  own_object : ℕ → (ℕ → Option ℕ) → Content

-- the word of a register, where it is known
abbrev pub known_word : Content → Option ℕ
known_word unknown = None
known_word (a_word w) = Some w
known_word (own_object n words) = None

-- how many words of an own object a register gives a mutator
abbrev pub own_words : Content → ℕ
own_words unknown = 0
own_words (a_word w) = 0
own_words (own_object n words) = n

-- a word of an own object, where it is known
abbrev pub known_at : Content → ℕ → Option ℕ
known_at unknown k = None
known_at (a_word w) k = None
known_at (own_object n words) k = words k

-- of the registers of a mutator that has just come nothing is known
abbrev pub nothing_known : ℕ → Content
nothing_known r = unknown

-- with another content of one register
abbrev pub with_content : (ℕ → Content) → ℕ → Content → ℕ → Content
with_content known d content r = if r == d then content else known r

-- what an allocation leaves in its register: an object whose words are 0
abbrev pub after_alloc : ℕ → Kind → Reply → Content
after_alloc n Normal Done = own_object n (λ k. Some 0)
after_alloc n _ _ = unknown

-- what a store leaves of the register whose object it goes to
abbrev pub after_store : Content → ℕ → Option ℕ → Reply → Content
after_store (own_object n words) k w Done = own_object n (λ i. if i == k then w else words i)
after_store _ k w _ = unknown

-- with nothing known of this register, if there is one
abbrev pub with_unknown : (ℕ → Content) → Option ℕ → ℕ → Content
with_unknown known None = known
with_unknown known (Some r) = with_content known r unknown

-- What is known after a call with its reply: of a register that it writes nothing, but of one that it sets to a word or to a new object.
abbrev pub known_after_call : (ℕ → Content) → Call → Reply → ℕ → Content
known_after_call known Detach reply = nothing_known
known_after_call known (Set r w) reply = with_content known r (a_word w)
known_after_call known (Store a k r) reply = with_content known a (after_store (known a) k (known_word (known r)) reply)
known_after_call known (Alloc r n kind) reply = with_content known r (after_alloc n kind reply)
known_after_call known (Free r) reply = nothing_known
known_after_call known call reply = with_unknown known (written_register call)

-- and after an event
abbrev pub known_after : (ℕ → Content) → Event → Reply → ℕ → Content
known_after known Attach reply = nothing_known
known_after known (Mutator slot call) reply = known_after_call known call reply
known_after known Begin reply = known
known_after known BeginPartial reply = known
known_after known Roots reply = known
known_after known (Mark n) reply = known
known_after known Retrace reply = known
known_after known Finish reply = known
known_after known Sweep reply = known
known_after known Collect reply = known
known_after known Number reply = known

-- The call stores in no object but the mutator's own Normal ones, and frees none.
abbrev pub KeepsToOwnCall : (ℕ → Content) → Call → Type 0
KeepsToOwnCall known (Store a k r) = k < own_words (known a)
KeepsToOwnCall known (Free r) = ⊥
KeepsToOwnCall known _ = Unit {0}

abbrev pub KeepsToOwn : (ℕ → Content) → Event → Type 0
KeepsToOwn known event = IfCall (KeepsToOwnCall known) event

-- and so does each of these events, one after the other
abbrev pub AllKeepToOwn : (ℕ → Content) → List MadeEvent → Type 0
AllKeepToOwn known [] = Unit {0}
AllKeepToOwn known (e ∷ es) = KeepsToOwn known e.call × AllKeepToOwn (known_after known e.call e.reply) es

-- The reply is the word that is known: of the register that is asked for, or of the own object that is loaded from.
abbrev pub IsAsKnownCall : (ℕ → Content) → Call → Reply → Type 0
IsAsKnownCall known (Get r) reply = IfSome (known_word (known r)) (λ w. reply ≡ Word w)
IsAsKnownCall known (Load r a k) reply = k < own_words (known a) → IfSome (known_at (known a) k) (λ w. reply ≡ Word w)
IsAsKnownCall known _ reply = Unit {0}

abbrev pub IsAsKnown : (ℕ → Content) → Event → Reply → Type 0
IsAsKnown known event reply = IfCall (λ call. IsAsKnownCall known call reply) event

-- and so is each reply of these events
abbrev pub AreAsKnown : (ℕ → Content) → List MadeEvent → Type 0
AreAsKnown known [] = Unit {0}
AreAsKnown known (e ∷ es) = IsAsKnown known e.call e.reply × AreAsKnown (known_after known e.call e.reply) es
