-- Objects that come one after the other, many in one call.
use Rattle.std.specs.Prelude.{◌≡◌, ℕ, ◌+◌, ◌*◌, Bool, List, [], ◌∷◌, ◌++◌}
use Rattle.words.specs.declared.class.Kind.{Kind}
use Rattle.words.specs.declared.class.Placement.{Placement}
use Rattle.words.specs.declared.class.Placement.TheVariants.{Small, Large}
use Rattle.words.specs.declared.limits.TheConstants.{WORD_BYTES}
use Rattle.words.specs.Layout.{page_start}
use Rattle.pages.specs.Memory.{IsZeroed, word_index}
use Rattle.lazy_sweep.specs.AvailableRows.{IsReadyPage}
use Rattle.object_space.specs.Store.{Store}
use Rattle.object_space.specs.Sweeps.{Allocates}

-- no page was taken or given back, and none was swept
pub record LeavesPages (old new : Store) : Type 0 where
  pub free : new.free ≡ old.free
  pub pending : new.pending ≡ old.pending

-- Objects of one placement and kind were allocated one after the other, with these bases, and for none a free page was taken or one swept.
pub data AllocatesEach (marks : List Bool) (placement : Placement) (kind : Kind) (old : Store) : List ℕ → Store → Type 0 where
  none : AllocatesEach marks placement kind old [] old
  more : {bases : List ℕ} {base : ℕ} {mid new : Store} → AllocatesEach marks placement kind old bases mid → Allocates mid marks placement kind base new → LeavesPages mid new
      → AllocatesEach marks placement kind old (bases ++ base ∷ []) new

-- No page is cut for the class and the kind of a request, has a free cell, and needs no sweep. A large one takes pages of its own.
abbrev pub HasNoneReady : Store → Placement → Kind → Type 0
HasNoneReady t (Small class) kind = (page : ℕ) → IsReadyPage t.states t.pending page class kind → ⊥
HasNoneReady t (Large pages) kind = Unit {0}

-- the address of a cell of a page that is cut for a class
abbrev pub base_of : ℕ → ℕ → ℕ → ℕ
base_of page class cell = page_start page + cell * (WORD_BYTES * class)

-- So many words from each of these addresses on became 0, those of one after those of the other.
pub data ZeroesEach (len : ℕ) : List ℕ → List ℕ → List ℕ → Type 0 where
  done : {words : List ℕ} → ZeroesEach len words [] words
  next : {words mid new bases : List ℕ} {base : ℕ} → IsZeroed words mid (word_index base) len → ZeroesEach len mid bases new → ZeroesEach len words (base ∷ bases) new
