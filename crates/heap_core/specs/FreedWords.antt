-- Words of free pages that change past the calls of a core, as where a program in C gives the pages' memory back to the system.
use Rattle.std.specs.Prelude.{◌≡◌, ℕ, ◌⊎◌, List, length}
use Rattle.words.specs.Bits.{Has}
use Rattle.words.specs.Layout.{page_of}
use Rattle.heap_spec.specs.Heap.{Heap}
use Rattle.heap_spec.specs.Runs.{Start, Run}
use Rattle.pages.specs.Memory.{IsWordAddress, word_at}
use Rattle.heap_core.specs.CoreContents.{CoreContents}
use Rattle.heap_core.specs.DirectWrites.{IsWholeCore}
use Rattle.heap_core.specs.Following.{Follows}
use Rattle.heap_core.specs.Standing.{StandsFor}

-- the core with these words in its memory
abbrev pub with_words : CoreContents → List ℕ → CoreContents
with_words c words = record c { store = record c.store { words = words } }

-- Words of free pages are others. Nothing else has changed.
pub record ChangesFreed (old new : CoreContents) : Type 0 where
  pub alone : new ≡ with_words old new.store.words
  pub size : length new.store.words ≡ length old.store.words
  pub words : (address : ℕ) → IsWordAddress old.store.words address → (word_at new.store.words address ≡ word_at old.store.words address) ⊎ Has old.store.free (page_of address)

-- Whatever is true of every core stays true,
abbrev pub FreedWordsKeepCores : Type 0
FreedWordsKeepCores = (old new : CoreContents) → IsWholeCore old → ChangesFreed old new → IsWholeCore new

-- the core stands for each heap that it stood for,
abbrev pub FreedWordsKeepHeaps : Type 0
FreedWordsKeepHeaps = (old new : CoreContents) → IsWholeCore old → ChangesFreed old new → (s : Heap) → StandsFor old s → StandsFor new s

-- and follows each run that it followed.
abbrev pub FreedWordsKeepRuns : Type 0
FreedWordsKeepRuns = (old new : CoreContents) → IsWholeCore old → ChangesFreed old new → (start : Start) (run : Run) → Follows old start run → Follows new start run
