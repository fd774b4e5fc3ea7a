-- What each call keeps: a core that is traced and stands for a sound heap.
use Rattle.std.proofs.Common.{◌≡◌, ℕ, List, Some, refl, sym, subst}
use Rattle.std.specs.Prelude.{slice_set}
use Rattle.heap_spec.specs.declared.call.Call.{Call}
use Rattle.heap_spec.specs.declared.event.Event.TheVariants.{Attach, Mutator}
use Rattle.heap_spec.specs.declared.reply.Reply.{Reply}
use Rattle.heap_spec.specs.Heap.{Heap}
use Rattle.heap_spec.specs.Sound.{IsSound}
use Rattle.heap_spec.specs.Steps.{with_object}
use Rattle.heap_spec.proofs.Calls.{BringsWord, calls_sound, attaches_kept, takes_out_kept, stored_same}
use Rattle.heap_spec.proofs.Links.{links_kept}
use Rattle.heap_spec.proofs.Objects.{objects_stored}
use Rattle.links.specs.declared.row.Link.{Link}
use Rattle.roots.specs.Roots.{RootSet, StepsRoots}
use Rattle.object_space.specs.Kept.{is_kept}
use Rattle.object_space.specs.Store.{Store}
use Rattle.object_space.specs.Stores.{Stores}
use Rattle.heap_core.specs.MutatorCalls.{IsCall, ReachesPages}
use Rattle.heap_core.specs.Collections.{BeginsCycle, BeginsPartialCycle, MarksOn, EndsCycle, CollectsAll}
use Rattle.heap_core.specs.CoreContents.{CoreContents, Cycle, IsTraced}
use Rattle.heap_core.specs.DirectWrites.{StoresWord, StoresWords}
use Rattle.heap_core.specs.Legal.{IsLegalCore}
use Rattle.heap_core.specs.Standing.{StandsFor}
use Rattle.heap_core.proofs.Roots.{core_of, steps_roots}

-- the core stands for what it stood for
pub legal_still : (old new : CoreContents) → IsLegalCore old → IsTraced new.store new.cycle → ((s : Heap) → StandsFor old s → StandsFor new s) → IsLegalCore new
legal_still old new is traced stands = record { traced = traced; sound = (is.sound.0, stands is.sound.0 is.sound.1, is.sound.2) }

-- a mutator calls
pub legal_called : (old new : CoreContents) → IsLegalCore old → IsTraced new.store new.cycle → (slot : ℕ) (call : Call) (reply : Reply) → BringsWord call → IsCall old (Mutator slot call) reply new → IsLegalCore new
legal_called old new is traced slot call reply word act =
    let step = act.steps is.sound.0 is.sound.1 in
    record { traced = traced; sound = (step.0, step.2, calls_sound is.sound.0 slot call is.sound.2 word step.1) }

-- a mutator's call changes no more than the roots
pub legal_roots : (roots roots' : RootSet) (t : Store) (y : Cycle) (ls : List Link) → IsLegalCore (core_of roots t y ls) → (slot : ℕ) (call : Call) (reply : Reply) → BringsWord call → (ReachesPages (Mutator slot call) reply → ⊥)
    → StepsRoots roots (Mutator slot call) reply roots' → IsLegalCore (core_of roots' t y ls)
legal_roots roots roots' t y ls is slot call reply word apart steps =
    legal_called (core_of roots t y ls) (core_of roots' t y ls) is is.traced slot call reply word (steps_roots roots roots' t y (Mutator slot call) reply apart steps)

-- a mutator comes
pub legal_attached : (roots roots' : RootSet) (t : Store) (y : Cycle) (ls : List Link) → IsLegalCore (core_of roots t y ls) → (reply : Reply) → StepsRoots roots Attach reply roots' → IsLegalCore (core_of roots' t y ls)
legal_attached roots roots' t y ls is reply steps =
    let call : IsCall (core_of roots t y ls) Attach reply (core_of roots' t y ls) = steps_roots roots roots' t y Attach reply (λ h. h) steps in
    let step = call.steps is.sound.0 is.sound.1 in
    record { traced = is.traced; sound = (step.0, step.2, attaches_kept is.sound.0 is.sound.2 step.1) }

-- a cycle begins, with no mark or with those of the last one
pub legal_begun : (old new : CoreContents) → IsLegalCore old → IsTraced new.store new.cycle → BeginsCycle old new → IsLegalCore new
legal_begun old new is traced begins = legal_still old new is traced begins.stands

pub legal_partial : (old new : CoreContents) → IsLegalCore old → IsTraced new.store new.cycle → BeginsPartialCycle old new → IsLegalCore new
legal_partial old new is traced begins = legal_still old new is traced begins.stands

-- the marker goes on
pub legal_on : (old new : CoreContents) → IsLegalCore old → IsTraced new.store new.cycle → (roots : List ℕ) → MarksOn roots old new → IsLegalCore new
legal_on old new is traced roots marks = legal_still old new is traced marks.stands

-- a cycle ends
pub legal_ended : (old new : CoreContents) → IsLegalCore old → IsTraced new.store new.cycle → (n : ℕ) → EndsCycle old n new → IsLegalCore new
legal_ended old new is traced n ends =
    let to = ends.forgets is.sound.0 is.sound.1 in
    record { traced = traced; sound = (to.0, to.2, takes_out_kept is.sound.0 to.1.bases _ to.0 is.sound.2 to.1.takes) }

-- all is collected
pub legal_collected : (old new : CoreContents) → IsLegalCore old → IsTraced new.store new.cycle → (n : ℕ) → CollectsAll old n new → IsLegalCore new
legal_collected old new is traced n all =
    let to = all.collects is.sound.0 is.sound.1 in
    record { traced = traced; sound = (to.0, to.2, takes_out_kept is.sound.0 to.1.bases _ to.0 is.sound.2 to.1.takes) }

-- the same marks keep the same objects
pub told_stands : (roots : RootSet) (t : Store) (y y' : Cycle) (ls : List Link) → y'.marker.marks ≡ y.marker.marks → (s : Heap) → StandsFor (core_of roots t y ls) s → StandsFor (core_of roots t y' ls) s
told_stands roots t y y' ls same s h = record { mutators = h.mutators; globals = h.globals; request_words = h.request_words; store = subst (λ ms. Stores (is_kept t.pending ms) t s) (sym same) h.store; links = h.links }

-- one word of an object is another
stored_sound : (s s' : Heap) → StoresWord s s' → IsSound s → IsSound s'
stored_sound s s' (StoresWord.stored {base = base} {i = i} {w = w} {o = o} has lt word) h = record {
  some_page = h.some_page;
  few_pages = h.few_pages;
  few_words = h.few_words;
  objects = objects_stored s.pages s.births s.objects base i w o h.objects has word;
  slots = h.slots;
  mutators = h.mutators;
  globals = h.globals;
  links = links_kept s (with_object s base (Some (record o { words = slice_set o.words i w }))) refl (λ b p there. stored_same s base b o p i w has there) h.links;
}

-- words of objects are others
pub stores_sound : (s s' : Heap) → StoresWords s s' → IsSound s → IsSound s'
stores_sound s s' StoresWords.none h = h
stores_sound s s' (StoresWords.more {mid = mid} before one) h = stored_sound mid s' one (stores_sound s mid before h)
