-- The roots of a heap, and what it is for them to make a step.
use Rattle.std.specs.Prelude.{◌≡◌, ℕ, ◌<◌, Option, Some, None, List, [], ◌∷◌, ◌++◌, flat_map, replicate, slice_get, slice_set}
use Rattle.words.specs.declared.limits.TheConstants.{SLOTS, GLOBALS}
use Rattle.heap_spec.specs.declared.event.Event.{Event}
use Rattle.heap_spec.specs.declared.reply.Reply.{Reply}
use Rattle.heap_spec.specs.Heap.{Heap, Mutator, words_of_slot}
use Rattle.heap_spec.specs.Steps.{Step, register}

-- The roots: the mutator at each slot, and the words of the globals; and the most words that a mutator may request.
pub record RootSet : Type 0 where
  pub mutators : List (Option Mutator)
  pub globals : List ℕ
  pub request_words : ℕ

-- the roots of a heap that opens: no mutator, and globals of 0
abbrev pub no_roots : ℕ → RootSet
no_roots request_words = record { mutators = replicate SLOTS None; globals = replicate GLOBALS 0; request_words = request_words }

-- The root words in their order: those of the attached slots, ascending, and then the globals.
abbrev pub root_words_of : RootSet → List ℕ
root_words_of roots = flat_map words_of_slot roots.mutators ++ roots.globals

-- a mutator is attached at the slot
abbrev pub HasMutator : RootSet → ℕ → Mutator → Type 0
HasMutator roots slot m = slice_get roots.mutators slot ≡ Some (Some m)

-- no mutator is attached at the slot
abbrev pub HasNoMutator : RootSet → ℕ → Type 0
HasNoMutator roots slot = slice_get roots.mutators slot ≡ Some None

-- no slot is vacant
abbrev pub HasNoSlot : RootSet → Type 0
HasNoSlot roots = (k : ℕ) → HasNoMutator roots k → ⊥

-- the lowest slot with no mutator
pub record IsNextSlot (roots : RootSet) (slot : ℕ) : Type 0 where
  pub is_vacant : HasNoMutator roots slot
  pub lowest : (k : ℕ) → k < slot → HasNoMutator roots k → ⊥

-- the mutator with this word in the register
abbrev pub with_word : Mutator → ℕ → ℕ → Mutator
with_word m r w = record m { registers = slice_set m.registers r w }

-- the mutator with the word of the register on its stack
abbrev pub with_pushed : Mutator → ℕ → Mutator
with_pushed m r = record m { stack = m.stack ++ register m r ∷ [] }

-- the word is the top of the old stack, and stands in the register now
pub record PopsWord (old : Mutator) (r w : ℕ) (new : Mutator) : Type 0 where
  pub top : old.stack ≡ new.stack ++ w ∷ []
  pub into : new.registers ≡ slice_set old.registers r w

-- A mutator has changed in this way.
pub record Changes (old : Option Mutator) (Change : Mutator → Mutator → Type 0) (new : Option Mutator) : Type 0 where
  pub before : Mutator
  pub after : Mutator
  pub at : old ≡ Some before
  pub change : Change before after
  pub now : new ≡ Some after

-- The mutator of one slot has changed in this way, and nothing else has.
pub record ChangesSlot (old : List (Option Mutator)) (slot : ℕ) (Change : Mutator → Mutator → Type 0) (new : List (Option Mutator)) : Type 0 where
  pub before : Mutator
  pub after : Mutator
  pub at : slice_get old slot ≡ Some (Some before)
  pub change : Change before after
  pub only : new ≡ slice_set old slot (Some after)

-- The globals and the limit are as they were.
pub record KeepsRest (old new : RootSet) : Type 0 where
  pub globals : new.globals ≡ old.globals
  pub request_words : new.request_words ≡ old.request_words

-- The mutator of the slot has got this word in the register, and nothing else has changed.
abbrev pub SetsWord : RootSet → ℕ → ℕ → ℕ → RootSet → Type 0
SetsWord old slot r w new = KeepsRest old new × ChangesSlot old.mutators slot (λ before after. after ≡ with_word before r w) new.mutators

-- the heap with these roots
abbrev pub with_roots : Heap → RootSet → Heap
with_roots s roots = record s { mutators = roots.mutators; globals = roots.globals; request_words = roots.request_words }

-- Whatever else the heap has, the event with its reply is a step of it that changes the roots, and nothing else.
abbrev pub StepsRoots : RootSet → Event → Reply → RootSet → Type 0
StepsRoots old event reply new = (s : Heap) → Step (with_roots s old) event reply (with_roots s new)
