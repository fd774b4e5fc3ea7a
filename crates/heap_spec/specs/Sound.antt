-- Laws that every heap of a run keeps, and the parts of which they are made.
use Rattle.std.specs.Prelude.{◌≡◌, ℕ, ◌+◌, ◌*◌, ◌%◌, ◌<◌, ◌≤◌, ◌≢◌, Option, Some, None, List, length, All, AllPairs, ◌⊎◌}
use Rattle.words.specs.declared.limits.TheConstants.{WORD_BYTES, GRANULE_BYTES, PAGE_WORDS, FIRST_ADDRESS, MOST_PAGES, MOST_REQUEST_WORDS, SLOTS, REGISTERS, STACK_WORDS, GLOBALS, MAX_LINKS}
use Rattle.words.specs.declared.class.Kind.TheVariants.{PointerFree}
use Rattle.words.specs.Classes.{IsSizeClass}
use Rattle.words.specs.Layout.{page_start}
use Rattle.heap_spec.specs.Layout.{heap_end}
use Rattle.heap_spec.specs.Heap.{Heap, Object, Mutator, Link, HasObject, PointsIntoObject}
use Rattle.heap_spec.specs.Ranges.{IsWord}

-- so many words
pub record IsRow (n : ℕ) (row : List ℕ) : Type 0 where
  pub size : length row ≡ n
  pub words : All IsWord row

-- A mutator has its registers, and no more on its stack than there is room for.
pub record IsMutator (m : Mutator) : Type 0 where
  pub registers : IsRow REGISTERS m.registers
  pub room : length m.stack ≤ STACK_WORDS
  pub stack : All IsWord m.stack

-- a slot has no mutator, or one with its registers, and with no more on its stack than there is room for
abbrev pub IsSlot : Option Mutator → Type 0
IsSlot None = Unit {0}
IsSlot (Some m) = IsMutator m

-- so many words at the base are a cell of a page that is cut for their class
pub record IsCell (pages base len : ℕ) : Type 0 where
  pub page : ℕ
  pub cell : ℕ
  pub class : IsSizeClass len
  pub in_heap : page < pages
  pub in_page : len * (cell + 1) ≤ PAGE_WORDS
  pub is_cell : base ≡ page_start page + WORD_BYTES * (len * cell)

-- so many words at the base are pages
pub record ArePages (pages base len : ℕ) : Type 0 where
  pub first : ℕ
  pub count : ℕ
  pub some : 0 < count
  pub in_heap : first + count ≤ pages
  pub is_start : base ≡ page_start first
  pub whole : len ≡ PAGE_WORDS * count

-- no two objects have one birth
abbrev pub HaveDistinctBirths : (ℕ → Option Object) → Type 0
HaveDistinctBirths objects = (a b : ℕ) (o p : Object) → objects a ≡ Some o → objects b ≡ Some p → o.birth ≡ p.birth → a ≡ b

-- The objects of a heap of so many pages, after so many births: each is a cell or pages of its own, its words are below
-- 2 ^ 64, its birth is at least 1, no greater than the count, and no other's, and it ends before the next one begins.
pub record AreObjects (pages births : ℕ) (objects : ℕ → Option Object) : Type 0 where
  pub laid : (base : ℕ) (o : Object) → objects base ≡ Some o → IsCell pages base (length o.words) ⊎ ArePages pages base (length o.words)
  pub words : (base : ℕ) (o : Object) → objects base ≡ Some o → All IsWord o.words
  pub born : (base : ℕ) (o : Object) → objects base ≡ Some o → (1 ≤ o.birth) × (o.birth ≤ births)
  pub distinct : HaveDistinctBirths objects
  pub apart : (a b : ℕ) (o p : Object) → objects a ≡ Some o → objects b ≡ Some p → a < b → a + WORD_BYTES * length o.words ≤ b

-- A link names an object, and its word is that of a pointer-free one.
pub record IsLink (s : Heap) (l : Link) : Type 0 where
  pub aligned : l.address % WORD_BYTES ≡ 0
  pub base : ℕ
  pub holder : Object
  pub in_holder : PointsIntoObject s l.address base holder
  pub kind : holder.kind ≡ PointerFree
  pub named : ℕ
  pub object : Object
  pub has : HasObject s named object
  pub names : object.birth ≡ l.birth

-- The links of a heap: no two stand at one address, and there are no more than there is room for.
pub record AreLinks (s : Heap) : Type 0 where
  pub each : All (IsLink s) s.links
  pub distinct : AllPairs (λ k l. k.address ≢ l.address) s.links
  pub few : length s.links ≤ MAX_LINKS

-- What holds of a heap in every run.
pub record IsSound (s : Heap) : Type 0 where
  pub some_page : 1 ≤ s.pages
  pub few_pages : s.pages ≤ MOST_PAGES
  pub few_words : s.request_words ≤ MOST_REQUEST_WORDS
  pub objects : AreObjects s.pages s.births s.objects
  pub slots : length s.mutators ≡ SLOTS
  pub mutators : All IsSlot s.mutators
  pub globals : IsRow GLOBALS s.globals
  pub links : AreLinks s

-- so many words at the base are some, lie in a heap of so many pages, and begin at a granule
pub record LieInHeap (pages base len : ℕ) : Type 0 where
  pub some : 0 < len
  pub from : FIRST_ADDRESS ≤ base
  pub to : base + WORD_BYTES * len ≤ heap_end pages
  pub aligned : base % GRANULE_BYTES ≡ 0
