-- Words that a program writes past the calls of a core while another of its threads is in a call.
use Rattle.std.specs.Prelude.{◌≡◌, ℕ, ◌⊎◌, true, false, List, Some, ⊤, Result, length}
use Rattle.words.specs.declared.class.Kind.{Kind}
use Rattle.words.specs.declared.class.Kind.TheVariants.{Normal}
use Rattle.words.specs.declared.refusal.Refusal.{Refusal}
use Rattle.words.specs.Bits.{Has}
use Rattle.words.specs.Layout.{page_of}
use Rattle.heap_spec.specs.declared.event.Event.{Event}
use Rattle.heap_spec.specs.declared.reply.Reply.{Reply}
use Rattle.heap_spec.specs.Ranges.{IsWord}
use Rattle.pages.specs.Memory.{IsWordAddress, word_at}
use Rattle.block_map.specs.declared.found.Found.{Found}
use Rattle.heap_core.specs.CoreContents.{CoreContents}
use Rattle.heap_core.specs.Collections.{SweepsOne}
use Rattle.heap_core.specs.DirectWrites.{TellsWritten, WritesWords, with_memory}
use Rattle.heap_core.specs.Many.{Requests}
use Rattle.heap_core.specs.MutatorCalls.{IsCall}
use Rattle.heap_core.specs.Standing.{objects_of}

-- The call is one beside which the program may write: one of a mutator, many requests, a sweep, the telling of an address, or one
-- that changes nothing. All of the collector's that mark, clean pages or forget objects are others.
pub data IsCallBeside (old : CoreContents) : CoreContents → Type 0 where
  calls : {event : Event} {reply : Reply} {new : CoreContents} → IsCall old event reply new → IsCallBeside old new
  requests : {slot into words most : ℕ} {kind : Kind} {bases : List ℕ} {answer : Result ⊤ Refusal} {new : CoreContents} → Requests slot into words kind old bases most answer new → IsCallBeside old new
  sweeps : {n : ℕ} {new : CoreContents} → SweepsOne old n new → IsCallBeside old new
  tells : {address : ℕ} {new : CoreContents} → TellsWritten address old new → IsCallBeside old new
  leaves : IsCallBeside old old

-- What stands at the address when the call returns is what the call left there; or a word that was written meanwhile, into an object that is
-- kept before the call and after it. Its page was then dirty before the call, unless the collector never reads the object's words, or
-- no cycle is marking and a full one is needed.
pub data IsLeftOrWrittenBeside (old new : CoreContents) (words : List ℕ) (address : ℕ) : Type 0 where
  left : word_at words address ≡ word_at new.store.words address → IsLeftOrWrittenBeside old new words address
  written : (f : Found) → objects_of old address ≡ Some f → objects_of new address ≡ Some f → IsWord (word_at words address)
      → ((old.cycle.is_marking ≡ true) ⊎ (old.cycle.needs_full ≡ false) → f.kind ≡ Normal → Has old.cycle.marker.dirty (page_of address)) → IsLeftOrWrittenBeside old new words address

-- this is the memory when the call returns
pub record AreWrittenBeside (old new : CoreContents) (words : List ℕ) : Type 0 where
  pub size : length words ≡ length new.store.words
  pub each : (address : ℕ) → IsWordAddress new.store.words address → IsLeftOrWrittenBeside old new words address

-- Words that were written beside such a call are words that are written after it: the laws of such writes hold of them.
abbrev pub WrittenBesideCallsIsWrittenAfter : Type 0
WrittenBesideCallsIsWrittenAfter = (old new : CoreContents) (words : List ℕ) → IsCallBeside old new → AreWrittenBeside old new words → WritesWords new (with_memory new words new.cycle.marker.dirty)
