-- What roots make a step by.
use Rattle.std.proofs.Common.{◌≡◌, ℕ, ◌+◌, ◌-◌, ◌%◌, ◌<◌, List, length, set, Some, sym, ap, ◌∙◌, subst, arith}
use Rattle.std.proofs.lemmas.Option.{same_Some}
use Rattle.words.specs.declared.refusal.Refusal.TheVariants.{NoSlot}
use Rattle.words.specs.declared.limits.TheConstants.{STACK_WORDS}
use Rattle.heap_spec.specs.declared.call.Call.{Call}
use Rattle.heap_spec.specs.declared.call.Call.TheVariants.{Push, Pop, Sub}
use Rattle.heap_spec.specs.declared.event.Event.TheVariants.{Mutator}
use Rattle.heap_spec.specs.declared.reply.Reply.{Reply}
use Rattle.heap_spec.specs.declared.reply.Reply.TheVariants.{Done, Word, Refused}
use Rattle.heap_spec.specs.Layout.{word_end}
use Rattle.heap_spec.specs.Heap.{Heap, Mutator as HeapMutator}
use Rattle.heap_spec.specs.Steps.{Acts, Calls, with_mutator, with_register, register}
use Rattle.roots.specs.Roots.{RootSet, HasMutator, HasNoMutator, with_word, with_pushed, PopsWord, with_roots, ChangesSlot, KeepsRest, SetsWord, StepsRoots}

-- a call for a slot that has no mutator
pub refused : (roots : RootSet) (slot : ℕ) (call : Call) → HasNoMutator roots slot → StepsRoots roots (Mutator slot call) (Refused NoSlot) roots
refused roots slot call none s = Calls.vacant none

-- a call of the mutator that the slot has
pub acts_on : (old new : RootSet) (slot : ℕ) (m : HeapMutator) (call : Call) (reply : Reply) → HasMutator old slot m
    → ((s : Heap) → Acts (with_roots s old) slot m call reply (with_roots s new)) → StepsRoots old (Mutator slot call) reply new
acts_on old new slot m call reply at acts s = Calls.acts at (acts s)

-- a slot has one mutator
pub same_mutator : (roots : RootSet) (slot : ℕ) (m n : HeapMutator) → HasMutator roots slot m → HasMutator roots slot n → m ≡ n
same_mutator roots slot m n a b = same_Some _ _ (same_Some _ _ (sym a ∙ b))

-- a call that changes no more than the slot's mutator
pub changes : (old new : RootSet) (slot : ℕ) (m n : HeapMutator) (call : Call) (reply : Reply) → HasMutator old slot m
    → new.mutators ≡ set old.mutators slot (Some n) → KeepsRest old new
    → ((s : Heap) → Acts (with_roots s old) slot m call reply (with_mutator (with_roots s old) slot (Some n))) → StepsRoots old (Mutator slot call) reply new
changes old new slot m n call reply at mutators rest acts s =
    let same : with_mutator (with_roots s old) slot (Some n) ≡ with_roots s new =
    ap (λ ms. record s { mutators = ms; globals = old.globals; request_words = old.request_words }) (sym mutators)
    ∙ ap (λ gs. record s { mutators = new.mutators; globals = gs; request_words = old.request_words }) (sym rest.globals)
    ∙ ap (λ n. record s { mutators = new.mutators; globals = new.globals; request_words = n }) (sym rest.request_words) in
    Calls.acts at (subst (Acts (with_roots s old) slot m call reply) same (acts s))

-- the mutators with a word in a register
pub set_mutators : (old new : RootSet) (slot r w : ℕ) (m : HeapMutator) → HasMutator old slot m → SetsWord old slot r w new → new.mutators ≡ set old.mutators slot (Some (with_word m r w))
set_mutators old new slot r w m at is =
    is.1.only ∙ ap (λ n. set old.mutators slot (Some n)) (is.1.change ∙ ap (λ n. with_word n r w) (same_mutator old slot is.1.before m is.1.at at))

-- a call that puts a word into a register, and changes nothing else
pub sets : (old new : RootSet) (slot r w : ℕ) (m : HeapMutator) (call : Call) (reply : Reply) → HasMutator old slot m → SetsWord old slot r w new
    → ((s : Heap) → Acts (with_roots s old) slot m call reply (with_register (with_roots s old) slot m r w)) → StepsRoots old (Mutator slot call) reply new
sets old new slot r w m call reply at is acts = changes old new slot m (with_word m r w) call reply at (set_mutators old new slot r w m at is) is.0 acts

-- a push on a stack that has room
pub pushes : (old new : RootSet) (slot r : ℕ) (m : HeapMutator) → HasMutator old slot m → length m.stack < STACK_WORDS → KeepsRest old new
    → ChangesSlot old.mutators slot (λ before after. after ≡ with_pushed before r) new.mutators → StepsRoots old (Mutator slot (Push r)) Done new
pushes old new slot r m at room rest is =
    let same : is.before ≡ m = same_mutator old slot is.before m is.at at in
    changes old new slot m (with_pushed m r) (Push r) Done at
    (is.only ∙ ap (λ n. set old.mutators slot (Some n)) (is.change ∙ ap (λ n. with_pushed n r) same)) rest (λ s. Acts.pushed room)

-- a pop of a stack that has a word
pub pops : (old new : RootSet) (slot r w : ℕ) (m : HeapMutator) → HasMutator old slot m → KeepsRest old new
    → ChangesSlot old.mutators slot (λ before after. PopsWord before r w after) new.mutators → StepsRoots old (Mutator slot (Pop r)) (Word w) new
pops old new slot r w m at rest is =
    let same : is.before ≡ m = same_mutator old slot is.before m is.at at in
    let left : List ℕ = is.after.stack in
    let after : is.after ≡ with_word (record m { stack = left }) r w =
    ap (λ (rs : List ℕ). record { registers = rs; stack = left }) (is.change.into ∙ ap (λ n. set n.registers r w) same) in
    changes old new slot m (with_word (record m { stack = left }) r w) (Pop r) (Word w) at
    (is.only ∙ ap (λ n. set old.mutators slot (Some n)) after) rest
    (λ s. Acts.popped left (ap (λ n. n.stack) (sym same) ∙ is.change.top))

-- a difference, as words have it
pub subtracted : (s : Heap) (slot : ℕ) (m : HeapMutator) (d a b x y : ℕ) → x ≡ register m a → y ≡ register m b → y < word_end
    → Acts s slot m (Sub d a b) Done (with_register s slot m d ((x + (word_end - y)) % word_end))
subtracted s slot m d a b x y ex ey small =
    let e : register m a + word_end - register m b ≡ x + (word_end - y) = omega arith in
    subst (λ w. Acts s slot m (Sub d a b) Done (with_register s slot m d (w % word_end))) e Acts.subtracted
