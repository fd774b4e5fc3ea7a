-- Steps that change no more than the roots.
use Rattle.std.proofs.Common.{◌≡◌, ℕ, set, Some, refl, sym, ap, ◌∙◌, subst}
use Rattle.std.specs.Prelude.{slice_get}
use Rattle.words.specs.declared.refusal.Refusal.TheVariants.{NoSlot}
use Rattle.heap_spec.specs.declared.call.Call.{Call}
use Rattle.heap_spec.specs.declared.event.Event.{Event}
use Rattle.heap_spec.specs.declared.event.Event.TheVariants.{Mutator}
use Rattle.heap_spec.specs.declared.reply.Reply.{Reply}
use Rattle.heap_spec.specs.declared.reply.Reply.TheVariants.{Refused}
use Rattle.heap_spec.specs.Heap.{Heap, IsAttached, Mutator as HeapMutator}
use Rattle.heap_spec.specs.Steps.{Acts, Step, acts, vacant, with_register}
use Rattle.heap_spec.specs.Replies.{IsStep}
use Rattle.roots.specs.Roots.{RootSet, HasMutator, HasNoMutator, with_word, with_roots, SetsWord, StepsRoots}
use Rattle.roots.proofs.Steps.{set_mutators}
use Rattle.plain_heap.specs.PlainContents.{PlainContents}
use Rattle.plain_heap.specs.Standing.{StandsFor}

-- the call of a slot is a step
abbrev pub StepsCall : PlainContents → ℕ → Call → Reply → PlainContents → Type 0
StepsCall old slot call reply new = IsStep (StandsFor old) (Mutator slot call) reply (StandsFor new)

-- the heap's mutator at a slot
pub mutator_at : (c : PlainContents) (s : Heap) → StandsFor c s → (k : ℕ) (m : HeapMutator) → HasMutator c.roots k m → IsAttached s k m
mutator_at c s h k m at = ap (λ ms. slice_get ms k) h.mutators ∙ at

-- with these roots the plain heap stands for the heap with them
pub with_stands : (c : PlainContents) (s : Heap) → StandsFor c s → (roots : RootSet) → StandsFor (record c { roots = roots }) (with_roots s roots)
with_stands c s h roots = record {
  pages = h.pages;
  mutators = refl;
  globals = refl;
  request_words = refl;
  kept = h.kept;
  only = h.only;
  born = h.born;
  distinct = h.distinct;
  links = h.links;
}

-- a step that changes no more than the roots
pub steps_roots : (c : PlainContents) (roots : RootSet) (event : Event) (reply : Reply) → StepsRoots c.roots event reply roots → IsStep (StandsFor c) event reply (StandsFor (record c { roots = roots }))
steps_roots c roots event reply steps s h =
    let same : with_roots s c.roots ≡ s =
    ap (λ ms. record s { mutators = ms; globals = c.roots.globals; request_words = c.roots.request_words }) (sym h.mutators)
    ∙ ap (λ gs. record s { globals = gs; request_words = c.roots.request_words }) (sym h.globals) ∙ ap (λ n. record s { request_words = n }) (sym h.request_words) in
    (with_roots s roots, subst (λ (x : Heap). Step x event reply (with_roots s roots)) same (steps s), with_stands c s h roots)

-- a call for a slot that has no mutator
pub refused_vacant : (c : PlainContents) (k : ℕ) (call : Call) → HasNoMutator c.roots k → StepsCall c k call (Refused NoSlot) c
refused_vacant c k call none s h = (s, vacant (ap (λ ms. slice_get ms k) h.mutators ∙ none), h)

-- a call that leaves the plain heap as it is
pub keeps_all : (c : PlainContents) (k : ℕ) (call : Call) (reply : Reply) (m : HeapMutator) → HasMutator c.roots k m → ((s : Heap) → StandsFor c s → Acts s k m call reply s) → StepsCall c k call reply c
keeps_all c k call reply m at does s h = (s, acts (mutator_at c s h k m at) (does s h), h)

-- the heap's roots after a word was put into a register
pub set_is : (c : PlainContents) (s : Heap) → StandsFor c s → (roots : RootSet) (k r w : ℕ) (m : HeapMutator) → HasMutator c.roots k m → SetsWord c.roots k r w roots
    → (set s.mutators k (Some (with_word m r w)) ≡ roots.mutators) × (s.globals ≡ roots.globals) × (s.request_words ≡ roots.request_words)
set_is c s h roots k r w m at sets = (ap (λ ms. set ms k (Some (with_word m r w))) h.mutators ∙ sym (set_mutators c.roots roots k r w m at sets), h.globals ∙ sym sets.0.globals, h.request_words ∙ sym sets.0.request_words)

-- a call that changes no more than a register
pub sets_register : (c : PlainContents) (roots : RootSet) (k r w : ℕ) (m : HeapMutator) (call : Call) (reply : Reply) → HasMutator c.roots k m → SetsWord c.roots k r w roots
    → ((s : Heap) → StandsFor c s → Acts s k m call reply (with_register s k m r w)) → StepsCall c k call reply (record c { roots = roots })
sets_register c roots k r w m call reply at sets does s h = let is = set_is c s h roots k r w m at sets in (
  with_register s k m r w,
  acts (mutator_at c s h k m at) (does s h),
  record { pages = h.pages; mutators = is.0; globals = is.1; request_words = is.2; kept = h.kept; only = h.only; born = h.born; distinct = h.distinct; links = h.links },
)
