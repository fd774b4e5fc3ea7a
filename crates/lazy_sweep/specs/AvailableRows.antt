-- Rows of bits over the pages, one for each class and kind: of the pages with a free cell for them that need no sweep, and of
-- the pending ones.
use Rattle.std.specs.Prelude.{◌≡◌, ◌==◌, ℕ, ◌+◌, ◌*◌, ◌<◌, Bool, true, false, List, [], length, slice_index_or}
use Rattle.std.specs.List.{position_or_len}
use Rattle.words.specs.declared.class.Kind.{Kind}
use Rattle.words.specs.declared.class.Kind.TheVariants.{Normal, PointerFree}
use Rattle.words.specs.declared.class.TheConstants.{CLASSES}
use Rattle.words.specs.Bits.{Has, IsClear}
use Rattle.words.specs.Classes.{IsSizeClass}
use Rattle.blocks.specs.Cells.{Cells}
use Rattle.block_map.specs.States.{PageState, free, cut, head, body, state_at, IsBlockFor}

-- the number of a kind
abbrev pub kind_number : Kind → ℕ
kind_number Normal = 0
kind_number PointerFree = 1

-- the number of the row of a class and a kind: each class has two rows beside one another
unfoldable pub row_number : ℕ → Kind → ℕ
row_number class kind = 2 * position_or_len (λ c. c == class) CLASSES + kind_number kind

-- the row of a class and a kind
abbrev pub row_of : List (List Bool) → ℕ → Kind → List Bool
row_of rows class kind = slice_index_or rows (row_number class kind) []

-- the cells are of the class and the kind, and one of them is free
pub record HasFreeCell (b : Cells) (class : ℕ) (kind : Kind) : Type 0 where
  pub of_class : b.class ≡ class
  pub of_kind : b.kind ≡ kind
  pub cell : ℕ
  pub in_row : cell < length b.taken
  pub is_free : slice_index_or b.taken cell false ≡ false

-- a page in this state is cut for the class and the kind, and has a free cell
abbrev pub IsAvailable : PageState → ℕ → Kind → Type 0
IsAvailable free class kind = ⊥
IsAvailable (cut b) class kind = HasFreeCell b class kind
IsAvailable (head n k) class kind = ⊥
IsAvailable (body first) class kind = ⊥

-- the page is cut for the class and the kind, and its cell is free
pub record IsFreeCell (states : List PageState) (class : ℕ) (kind : Kind) (page cell : ℕ) : Type 0 where
  pub block : Cells
  pub inside : page < length states
  pub is_cut : state_at states page ≡ cut block
  pub of_class : block.class ≡ class
  pub of_kind : block.kind ≡ kind
  pub in_row : cell < length block.taken
  pub is_free : slice_index_or block.taken cell false ≡ false

-- no page that is cut for the class and the kind has a free cell
abbrev pub HasNoFreeCell : List PageState → ℕ → Kind → Type 0
HasNoFreeCell states class kind = (page cell : ℕ) → IsFreeCell states class kind page cell → ⊥

-- The rows of all classes and kinds have so many pages, and the bits of exactly those of which this is true are set.
pub record IsExact (rows : List (List Bool)) (pages : ℕ) (is : ℕ → ℕ → Kind → Type 0) : Type 0 where
  pub long : (class : ℕ) (kind : Kind) → IsSizeClass class → length (row_of rows class kind) ≡ pages
  pub entered : (class : ℕ) (kind : Kind) (page : ℕ) → IsSizeClass class → is page class kind → slice_index_or (row_of rows class kind) page false ≡ true
  pub only : (class : ℕ) (kind : Kind) (page : ℕ) → IsSizeClass class → slice_index_or (row_of rows class kind) page false ≡ true → is page class kind

-- the page is cut for the class and the kind, has a free cell, and needs no sweep
abbrev pub IsReadyPage : List PageState → List Bool → ℕ → ℕ → Kind → Type 0
IsReadyPage states pending page class kind = IsAvailable (state_at states page) class kind × (Has pending page → ⊥)

-- the page is cut for the class and the kind, and pending
abbrev pub IsWaitingPage : List PageState → List Bool → ℕ → ℕ → Kind → Type 0
IsWaitingPage states pending page class kind = IsBlockFor (state_at states page) class kind × Has pending page

-- the rows have exactly the pages with a free cell that need no sweep
abbrev pub AreReady : List (List Bool) → List PageState → List Bool → Type 0
AreReady rows states pending = IsExact rows (length states) (IsReadyPage states pending)

-- the rows have exactly the pending pages
abbrev pub AreWaiting : List (List Bool) → List PageState → List Bool → Type 0
AreWaiting rows states pending = IsExact rows (length states) (IsWaitingPage states pending)

-- rows over so many pages with no bit set
pub record AreClear (rows : List (List Bool)) (pages : ℕ) : Type 0 where
  pub each : (class : ℕ) (kind : Kind) → IsSizeClass class → IsClear (row_of rows class kind) pages

-- The bit of a page in the row of a class and a kind has become b, and all others are as they were.
pub record IsBitSet (old new : List (List Bool)) (class : ℕ) (kind : Kind) (page : ℕ) (b : Bool) : Type 0 where
  pub long : (c : ℕ) (k : Kind) → IsSizeClass c → length (row_of new c k) ≡ length (row_of old c k)
  pub here : slice_index_or (row_of new class kind) page false ≡ b
  pub others : (c : ℕ) (k : Kind) (p : ℕ) → IsSizeClass c → (c ≡ class → k ≡ kind → p ≡ page → ⊥) → slice_index_or (row_of new c k) p false ≡ slice_index_or (row_of old c k) p false
