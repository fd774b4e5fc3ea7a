-- What stands on each page of the heap.
use Rattle.std.specs.Prelude.{◌≡◌, ℕ, ◌+◌, ◌/◌, ◌<◌, ◌≤◌, ◌⊎◌, ◌==◌, if◌then◌else◌, Bool, false, List, length, replicate, slice_index_or, slice_set}
use Rattle.words.specs.declared.class.Kind.{Kind}
use Rattle.words.specs.declared.limits.TheConstants.{MOST_PAGES, PAGE_WORDS}
use Rattle.blocks.specs.Cells.{Cells, IsCells}

-- a free page, a page cut into cells, the first page of a large object of so many pages, and a further page of the
-- large object that begins at a page
pub data PageState : Type 0 where
  free : PageState
  cut : Cells → PageState
  head : ℕ → Kind → PageState
  body : ℕ → PageState

-- what stands on a page; pages past the end are free
abbrev pub state_at : List PageState → ℕ → PageState
state_at states page = slice_index_or states page free

-- what may stand on a page
abbrev pub LaidAt : List PageState → ℕ → PageState → Type 0
LaidAt states page free = Unit {0}
LaidAt states page (cut b) = IsCells b
LaidAt states page (head n kind) = (0 < n) × (page + n ≤ length states) × ((q : ℕ) → page < q → q < page + n → state_at states q ≡ body page)
LaidAt states page (body first) = (first < page) × (n : ℕ) × (kind : Kind) × (state_at states first ≡ head n kind) × (page < first + n)

-- large objects lie on consecutive pages, and blocks have the cells of their class
pub record IsLaid (states : List PageState) : Type 0 where
  pub few : length states ≤ MOST_PAGES
  pub each : (page : ℕ) → page < length states → LaidAt states page (state_at states page)

-- the page is cut
abbrev pub IsCut : PageState → Type 0
IsCut free = ⊥
IsCut (cut b) = Unit {0}
IsCut (head n kind) = ⊥
IsCut (body first) = ⊥

-- the page is cut for the class and the kind
abbrev pub IsBlockFor : PageState → ℕ → Kind → Type 0
IsBlockFor free class kind = ⊥
IsBlockFor (cut b) class kind = (b.class ≡ class) × (b.kind ≡ kind)
IsBlockFor (head n k) class kind = ⊥
IsBlockFor (body first) class kind = ⊥

-- the page is cut, and its cell i is allocated, or free
abbrev pub HasCell : PageState → ℕ → Bool → Type 0
HasCell free i b = ⊥
HasCell (cut b) i taken = (i < length b.taken) × (slice_index_or b.taken i false ≡ taken)
HasCell (head n kind) i taken = ⊥
HasCell (body first) i taken = ⊥

-- the state with the cell i allocated, or free, and this first free cell
abbrev pub with_cell : PageState → ℕ → Bool → ℕ → PageState
with_cell free i taken begin = free
with_cell (cut b) i taken begin = cut (record b { taken = slice_set b.taken i taken; first = begin })
with_cell (head n kind) i taken begin = head n kind
with_cell (body first) i taken begin = body first

-- a page that is cut for a class and a kind, with all its cells free, the first one first
abbrev pub all_free : ℕ → Kind → PageState
all_free class kind = cut (record { class = class; kind = kind; taken = replicate (PAGE_WORDS / class) false; first = 0 })

-- how many pages what begins on a page has, and 0 where nothing does
abbrev pub span_of : PageState → ℕ
span_of free = 0
span_of (cut b) = 1
span_of (head n kind) = n
span_of (body first) = 0

-- the pages of a large object
abbrev pub large_states : ℕ → ℕ → Kind → ℕ → PageState
large_states first n kind k = if k == first then head n kind else body first

-- n pages, each of them free
pub record AreFreePages (states : List PageState) (n : ℕ) : Type 0 where
  pub size : length states ≡ n
  pub each : (k : ℕ) → state_at states k ≡ free

-- n pages from `first` on have new states, and all others are as they were
pub record IsSpanSet (old new : List PageState) (first n : ℕ) (state : ℕ → PageState) : Type 0 where
  pub size : length new ≡ length old
  pub fits : first + n ≤ length old
  pub inside : (k : ℕ) → first ≤ k → k < first + n → state_at new k ≡ state k
  pub others : (k : ℕ) → (k < first) ⊎ (first + n ≤ k) → state_at new k ≡ state_at old k
