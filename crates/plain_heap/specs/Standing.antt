-- The heap that a plain heap stands for.
use Rattle.std.specs.Prelude.{◌≡◌, ℕ, ◌+◌, ◌-◌, ◌%◌, ◌<◌, ◌≤◌, List, length, take, drop, Contains}
use Rattle.words.specs.declared.limits.TheConstants.{WORD_BYTES}
use Rattle.heap_spec.specs.Heap.{Heap, Object, HasObject}
use Rattle.heap_spec.specs.Sound.{HaveDistinctBirths}
use Rattle.links.specs.Named.{AreNamed}
use Rattle.links.specs.Leaving.{word_index}
use Rattle.plain_heap.specs.declared.extent.Extent.{Extent}
use Rattle.plain_heap.specs.PlainContents.{PlainContents}

-- The object begins at a word of the row, whose first has the address `origin`, and its words are in the row.
pub record LiesIn (origin : ℕ) (row : List ℕ) (e : Extent) : Type 0 where
  pub start : origin ≤ e.base
  pub aligned : (e.base - origin) % WORD_BYTES ≡ 0
  pub some : 0 < e.length
  pub ends : word_index origin e.base + e.length ≤ length row

-- the words of an object in the row
abbrev pub words_at : ℕ → List ℕ → Extent → List ℕ
words_at origin row e = take e.length (drop (word_index origin e.base) row)

-- the object of the heap that lies there
pub record IsShown (origin : ℕ) (row : List ℕ) (e : Extent) (o : Object) : Type 0 where
  pub kind : o.kind ≡ e.kind
  pub words : o.words ≡ words_at origin row e

-- The heap has the plain heap's pages, its objects with their kinds and words, its mutators, its globals, its limit of requests, and its links, compared by
-- the objects that they name. Births are not kept, so any distinct ones from 1 up to their number fit.
pub record StandsFor (c : PlainContents) (s : Heap) : Type 0 where
  pub pages : s.pages ≡ c.pages
  pub mutators : s.mutators ≡ c.roots.mutators
  pub globals : s.globals ≡ c.roots.globals
  pub request_words : s.request_words ≡ c.roots.request_words
  pub kept : (e : Extent) → Contains c.objects e → (o : Object) × HasObject s e.base o × IsShown c.origin c.words e o
  pub only : (base : ℕ) (o : Object) → HasObject s base o → (e : Extent) × Contains c.objects e × (e.base ≡ base)
  pub born : (base : ℕ) (o : Object) → HasObject s base o → (1 ≤ o.birth) × (o.birth ≤ s.births)
  pub distinct : HaveDistinctBirths s.objects
  pub links : AreNamed s.objects c.links s.links
